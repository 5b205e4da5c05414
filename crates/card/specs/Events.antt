-- The events: personalisation, a command, the opening of a chain, a frame of file bytes, a session change, a power-up.
use Rattle.std.specs.Prelude.{ℕ, ◌-◌, List, [], ◌++◌, Bool, not, false, ltb, eqb, ℤ, pos, length, Option, Some, None, is_none}
use Rattle.tables.specs.Choice.{pick}
use Rattle.wire.specs.Bytes.{word}
use Rattle.roles.specs.declared.Role.{Role}
use Rattle.datafiles.specs.Files as files
use Rattle.refusals.specs.declared.Refusal.{Refusal}
use Rattle.refusals.specs.declared.Refusal.TheVariants.{UnknownKey, ShortBuffer, BrokenRule}
use Rattle.purse.specs.Purse as purse
use Rattle.logfile.specs.Journal as journal
use Rattle.logfile.specs.View as log
use Rattle.access.specs.Rights.{session_sound}
use Rattle.keys.specs.declared.Keys.{Keys}
use Rattle.keys.specs.Keys as keys
use Rattle.chains.specs.Chain.{announced, next_place, completes}
use Rattle.channel.specs.declared.Channel.{Channel}
use Rattle.channel.specs.declared.Inputs.{Inputs}
use Rattle.channel.specs.Channel.{stage_of, counter_of, counted, bare, closed, chained, advanced}
use Rattle.sealing.specs.Sealing.{seal_of}
use Rattle.authentication.specs.Authentication.{begun, first_shown, opened, second_shown}
use Rattle.columns.specs.Table.{authenticate_first, authenticate_second}
use Rattle.frames.specs.Frame.{ins_of, data_of}
use Rattle.settings.specs.declared.Settings.{Settings}
use Rattle.settings.specs.Settings.{alike}
use Rattle.rows.specs.State.{State}
use Rattle.modes.specs.Modes.{role_in, plain_of}
use Rattle.rows.specs.Rows.{ok, maced_in, status_of, opening_status, bytes_status}
use Rattle.standing.specs.Rules.{order_refusal}
use Rattle.effects.specs.Effects.{purse_after, journal_after, stored_after, files_after}
use Rattle.replies.specs.Replies.{shown_of}
use Rattle.card.specs.declared.Card.{Card}
use Rattle.card.specs.View.{view, put, broken}
use Rattle.card.specs.Outcome.{Outcome, bench}

-- ---- a command: i is its INS, r the role of the file that it names, d its data field without a MAC, u what the bench hands in

-- the channel after it: a part of an authentication, or a base command
unfoldable pub channel_after : Keys → Inputs → ℕ → List ℕ → Channel → Channel
channel_after ks u i d c = pick (eqb i authenticate_first) (begun u d) (pick (eqb i authenticate_second) (opened ks c d) (counted c))

-- an accepted command
unfoldable pub changed : State → Inputs → ℕ → Role → List ℕ → State
changed s u i r d =
    record {
      core = record {
        settings = s.core.settings;
        keys = s.core.keys;
        purse = purse_after i d s.core.purse;
        journal = journal_after i d s.core.journal;
        channel = channel_after s.core.keys u i d s.core.channel;
      };
      files = files_after i r d s.files;
    }

-- the data of its reply
unfoldable pub shown : State → Inputs → ℕ → Role → List ℕ → List ℕ
shown s u i r d =
    pick (eqb i authenticate_first) (first_shown s.core.keys u d)
    (pick (eqb i authenticate_second) (second_shown s.core.keys s.core.channel d)
    (shown_of s.core.settings s.files s.core.purse s.core.journal i r d))

-- the MAC behind these data where m says that the command had one; c is the channel after it, its counter gone up
unfoldable pub mac_behind : Bool → Channel → List ℕ → List ℕ
mac_behind m c x = pick m (seal_of c.secret 0x00 (counter_of c.stage) c.ti x) []

-- the status of its reply: 91AF asks for the second part
unfoldable pub accepted_status : ℕ → ℕ
accepted_status i = pick (eqb i authenticate_first) 0x91AF ok

-- a refusal, and a power-up: session ended, pending work and an open chain dropped
unfoldable pub ended : State → State
ended s =
    record {
      core = record {
        settings = s.core.settings;
        keys = s.core.keys;
        purse = purse.dropped s.core.purse;
        journal = journal.dropped s.core.journal;
        channel = closed;
      };
      files = s.files;
    }

-- a state, the slot bytes stored on the way to it, and the bytes of a reply
pub record Played : Type 0 where
  pub state : State
  pub stored : ℕ
  pub out : List ℕ

-- a refusal's reply is the two status bytes
unfoldable pub refused : State → ℕ → Played
refused s status = record { state = ended s; stored = 0; out = word status }

-- an accepted reply is its data, its MAC if the command had one, and its status
unfoldable pub accepted_plain : Bool → State → Inputs → ℕ → Role → List ℕ → Played
accepted_plain m s u i r d =
    record {
      state = changed s u i r d;
      stored = stored_after i s.core.journal;
      out = shown s u i r d ++ (mac_behind m (changed s u i r d).core.channel (shown s u i r d) ++ word (accepted_status i));
    }

-- x is the data field as sent
unfoldable pub accepted : State → Inputs → ℕ → List ℕ → Played
accepted s u i x = accepted_plain (maced_in s.core i x) s u i (role_in s.core.settings x) (plain_of (maced_in s.core i x) x)

-- p where the status is ok, else a refusal with that status
abbrev pub judged : ℕ → State → Played → Played
judged status s p = pick (eqb status ok) p (refused s status)

-- a command by its status
abbrev pub played_by : ℕ → State → Inputs → List ℕ → Played
played_by status s u f = judged status s (accepted s u (ins_of f) (data_of f))

-- refused with the status of the first reason that applies, accepted where none does
unfoldable pub played : State → Inputs → List ℕ → Played
played s u f = played_by (status_of s.core f) s u f

-- the card that the played state is laid into
unfoldable pub laid_into : Card → Played → Outcome
laid_into c p = record { card = put c p.stored p.state; refusal = None; stored = p.stored; out = p.out }

-- the room that every reply has in its buffer
abbrev pub reply_room : ℕ
reply_room = 258

-- what data and MAC have of it: the status is two bytes
abbrev pub data_room : ℕ
data_room = reply_room - 2

-- the bench refusal of an event with a reply buffer of room bytes, if any
unfoldable pub bench_refusal : Bool → ℕ → Option Refusal
bench_refusal broken room = pick (ltb room reply_room) (Some ShortBuffer) (pick broken (Some BrokenRule) None)

-- what is played where there is none
abbrev pub benched : Card → ℕ → Played → Outcome
benched c room p = pick (is_none (bench_refusal (broken c) room)) (laid_into c p) (bench c (bench_refusal (broken c) room))

-- the frame f, the bench's inputs u, and a reply buffer of room bytes
unfoldable pub commanded : Card → List ℕ → Inputs → ℕ → Outcome
commanded c f u room = benched c room (played (view c) u f)

-- ---- a chain: a WriteData whose bytes come behind it, in frames

-- another channel, and all else as before
abbrev pub with_channel : State → Channel → State
with_channel s c =
    record {
      core = record {
        settings = s.core.settings;
        keys = s.core.keys;
        purse = s.core.purse;
        journal = s.core.journal;
        channel = c;
      };
      files = s.files;
    }

-- an accepted opening with the data field d replies nothing, and changes nothing but that a chain is open
unfoldable pub opening : State → List ℕ → Played
opening s d = record { state = with_channel s (chained s.core.channel (announced (role_in s.core.settings d) d)); stored = 0; out = [] }

-- the frame f as an opening
unfoldable pub opening_played : State → List ℕ → Played
opening_played s f = judged (opening_status s.core f) s (opening s (data_of f))

unfoldable pub chain_opened : Card → List ℕ → ℕ → Outcome
chain_opened c f room = benched c room (opening_played (view c) f)

-- an accepted frame b of file bytes: they are in the file at once, behind those that came before; the last frame replies 9100,
-- any other nothing
unfoldable pub delivered : State → List ℕ → Played
delivered s b =
    let k = s.core.channel.chain in
    record {
      state = record {
        core = (with_channel s (advanced s.core.channel (length b))).core;
        files = files.written s.files k.file (next_place k) b;
      };
      stored = 0;
      out = pick (completes k (length b)) (word ok) [];
    }

-- b as a frame of file bytes
unfoldable pub bytes_played : State → List ℕ → Played
bytes_played s b = judged (bytes_status s.core.channel.chain b) s (delivered s b)

unfoldable pub bytes_sent : Card → List ℕ → ℕ → Outcome
bytes_sent c b room = benched c room (bytes_played (view c) b)

-- ---- a session change leaves pending work in place, and nothing of the session before it, nor of a chain

unfoldable pub with_session : State → Option ℕ → State
with_session s k = with_channel s (bare (stage_of k))

unfoldable pub session_changed : Card → Option ℕ → Outcome
session_changed c k =
    pick (not (session_sound k)) (bench c (Some UnknownKey))
    (pick (broken c) (bench c (Some BrokenRule))
    (laid_into c (record { state = with_session (view c) k; stored = 0; out = [] })))

-- ---- a power-up

unfoldable pub powered_up : Card → Outcome
powered_up c = pick (broken c) (bench c (Some BrokenRule)) (laid_into c (record { state = ended (view c); stored = 0; out = [] }))

-- ---- personalisation

-- data files of zeros, the log empty, the allowance 0, no session, nothing pending
unfoldable pub issued : Settings → Keys → ℤ → Card
issued s ks v = record { settings = s; keys = ks; files = files.zeros; purse = purse.resting v 0; log = log.empty; channel = closed }

-- all rights FFFFh, every figure and byte zero, both switches off
unfoldable pub blank : Card
blank = issued (alike 0xFFFF (record { lower = pos 0; upper = pos 0 }) false) keys.zeros (pos 0)

-- the new card, or the blank one beside the refusal
unfoldable pub personalised : Settings → Keys → ℤ → Outcome
personalised s ks v = bench (pick (is_none (order_refusal s v)) (issued s ks v) blank) (order_refusal s v)
