-- The examples at the edges, P1 to P12: one table, and one theorem that the definitions answer as it says.
use Rattle.std.specs.Prelude.{ℕ, true, List, [], ◌∷◌, map, ◌≡◌, refl, ℤ, pos, replicate}
use Rattle.tables.specs.Choice.{pick}
use Rattle.wire.specs.Bytes.{laid, laid_in, outside_of, le3, le4, word}
use Rattle.datafiles.specs.Files as files
use Rattle.limits.specs.Limits.{crossed, within}
use Rattle.purse.specs.Purse as purse
use Rattle.logfile.specs.Journal as journal
use Rattle.logfile.specs.Ring as ring
use Rattle.logfile.specs.View as log
use Rattle.access.specs.Rights.{rights_sound, sealed, granting, access_of}
use Rattle.frames.specs.Frame.{wrong_size, wrong_class, wrong_parameters, wrong_frame}
use Rattle.settings.specs.declared.Settings.{Settings}
use Rattle.columns.specs.Table.{on_file, names_file, suits}
use Rattle.settings.specs.Settings.{alike, role_of, access_to, rights_broken, number_above, number_twice}
use Rattle.rows.specs.State.{log_pending}
use Rattle.keys.specs.Keys as keys
use Rattle.chains.specs.Chain.{unchained, chain_sound}
use Rattle.channel.specs.declared.Inputs.{Inputs}
use Rattle.channel.specs.Channel.{counted, bare}
use Rattle.modes.specs.Modes.{role_in, maced_under, plain_of}
use Rattle.rows.specs.Rows.{unknown_command, interrupts, sent_of, length_cases, lacks_mac, unknown_file, other_kind_or_never, not_granted, part_fails, forged, used_up, switched_off, parameter_cases, ranged, room_of, amount_cases, outside, long_read, nothing_pending, rows_for, status_for}
use Rattle.effects.specs.Effects.{purse_after, journal_after, stored_after, files_after}
use Rattle.replies.specs.Replies.{shown_of}
use Rattle.card.specs.declared.Card.{Card}
use Rattle.card.specs.View.{view, put}
use Rattle.standing.specs.Rules.{unequal, broken_by, first_fault, order_refusal}
use Rattle.card.specs.Outcome.{bench}
use Rattle.card.specs.Events.{channel_after, changed, shown, mac_behind, accepted_status, accepted_plain, ended, refused, accepted, played, laid_into, bench_refusal, commanded, issued, blank, personalised, reply_room}

-- frames sent one after the other to a new card, the replies, and the log's entries at the end
pub record Edge : Type 0 where
  pub upper : ℤ
  pub value : ℤ
  pub sent : List (List ℕ)
  pub replies : List (List ℕ)
  pub entries : List (List ℕ)

-- what is read off the definitions for comparison
pub record Seen : Type 0 where
  pub replies : List (List ℕ)
  pub entries : List (List ℕ)

-- rights EEEEh everywhere, lower limit 0, LimitedCredit on, free GetValue off
settings : ℤ → Settings
settings upper = alike 0xEEEE (record { lower = pos 0; upper = upper }) true

-- on the program's card: limits 0 and 1000, value 100
abbrev on : List (List ℕ) → List (List ℕ) → Edge
on sent replies = record { upper = pos 1000; value = pos 100; sent = sent; replies = replies; entries = [] }

abbrev one : List ℕ → List ℕ → Edge
one frame reply = on (frame ∷ []) (reply ∷ [])

-- an entry of the byte b and zeros
abbrev entry : ℕ → List ℕ
entry b = b ∷ 0 ∷ 0 ∷ 0 ∷ 0 ∷ 0 ∷ 0 ∷ 0 ∷ 0 ∷ 0 ∷ 0 ∷ 0 ∷ 0 ∷ 0 ∷ 0 ∷ 0 ∷ []

abbrev get_value : ℕ → List ℕ
get_value file = 0x90 ∷ 0x6C ∷ 0 ∷ 0 ∷ 1 ∷ file ∷ 0 ∷ []

-- an amount of four bytes, least significant first
abbrev credit : ℕ → ℕ → ℕ → ℕ → List ℕ
credit a b c d = 0x90 ∷ 0x0C ∷ 0 ∷ 0 ∷ 5 ∷ 3 ∷ a ∷ b ∷ c ∷ d ∷ 0 ∷ []

abbrev read_data : ℕ → ℕ → ℕ → List ℕ
read_data low high length = 0x90 ∷ 0xAD ∷ 0 ∷ 0 ∷ 7 ∷ 0 ∷ low ∷ high ∷ 0 ∷ length ∷ 0 ∷ 0 ∷ 0 ∷ []

-- one byte at offset 0
abbrev write_record : ℕ → List ℕ
write_record b = 0x90 ∷ 0x8B ∷ 0 ∷ 0 ∷ 8 ∷ 1 ∷ 0 ∷ 0 ∷ 0 ∷ 1 ∷ 0 ∷ 0 ∷ b ∷ 0 ∷ []

abbrev clear : List ℕ
clear = 0x90 ∷ 0xEB ∷ 0 ∷ 0 ∷ 1 ∷ 1 ∷ 0 ∷ []

abbrev commit : List ℕ
commit = 0x90 ∷ 0xC7 ∷ 0 ∷ 0 ∷ 0 ∷ []

abbrev status : ℕ → ℕ → List ℕ
status a b = a ∷ b ∷ []

abbrev ok : List ℕ
ok = 0x91 ∷ 0x00 ∷ []

pub edges : List Edge
edges =
    -- P1 the empty frame
    one [] (status 0x67 0x00)
    -- P2 CLA 80h, P3 P1 01h, P4 Le 01h, P5 INS FFh
    ∷ one (0x80 ∷ 0x6C ∷ 0 ∷ 0 ∷ 1 ∷ 3 ∷ 0 ∷ []) (status 0x6E 0x00)
    ∷ one (0x90 ∷ 0x6C ∷ 1 ∷ 0 ∷ 1 ∷ 3 ∷ 0 ∷ []) (status 0x6A 0x86)
    ∷ one (0x90 ∷ 0x6C ∷ 0 ∷ 0 ∷ 1 ∷ 3 ∷ 1 ∷ []) (status 0x67 0x00)
    ∷ one (0x90 ∷ 0xFF ∷ 0 ∷ 0 ∷ 0 ∷ []) (status 0x91 0x1C)
    -- P6 GetValue of 07h, of 00h
    ∷ one (get_value 0x07) (status 0x91 0xF0)
    ∷ one (get_value 0x00) (status 0x91 0x9D)
    -- P7 Credit 900, 901
    ∷ one (credit 0x84 0x03 0 0) ok
    ∷ one (credit 0x85 0x03 0 0) (status 0x91 0xBE)
    -- P8 Credit FFFFFFFFh
    ∷ one (credit 0xFF 0xFF 0xFF 0xFF) (status 0x91 0x9E)
    -- P9 ReadData 00h, offset 255 and length 1, offset 256 and length 0
    ∷ one (read_data 255 0 1) (0 ∷ ok)
    ∷ one (read_data 0 1 0) (status 0x91 0xBE)
    -- P10 upper and value both 2147483647, Credit 1
    ∷ record { upper = pos 2147483647; value = pos 2147483647; sent = credit 1 0 0 0 ∷ []; replies = status 0x91 0xBE ∷ []; entries = [] }
    -- P11 commit at once
    ∷ one commit (status 0x91 0x0C)
    -- P12 clear, then WriteRecord of one byte: the log as before, empty, and with an entry in it
    ∷ on (clear ∷ write_record 0xAA ∷ []) (ok ∷ status 0x91 0x9D ∷ [])
    ∷ record {
      upper = pos 1000;
      value = pos 100;
      sent = write_record 0xBB ∷ commit ∷ clear ∷ write_record 0xAA ∷ [];
      replies = ok ∷ ok ∷ ok ∷ status 0x91 0x9D ∷ [];
      entries = entry 0xBB ∷ [];
    }
    ∷ []

-- the program's bench inputs are zeros
inputs : Inputs
inputs = record { random = replicate 16 0; ti = replicate 4 0 }

played_on : Card → List (List ℕ) → Seen
played_on c [] = record { replies = []; entries = (view c).core.journal.entries }
played_on c (f ∷ fs) =
    let o = commanded c f inputs reply_room in
    let r = played_on o.card fs in
    record { replies = o.out ∷ r.replies; entries = r.entries }

-- the definitions' answer, from an accepted personalisation on
pub answered : Edge → Seen
answered e = played_on (personalised (settings e.upper) keys.zeros e.value).card e.sent

pub expected : Edge → Seen
expected e = record { replies = e.replies; entries = e.entries }

pub edges_answered : map answered edges ≡ map expected edges
unfolding answered expected edges inputs played_on settings alike keys.zeros counted bare unchained chain_sound role_in maced_under plain_of pick laid laid_in outside_of le3 le4 word files.zeros files.end_of files.shown crossed within purse.resting purse.credited purse.debited purse.rebooked purse.settled purse.dropped unequal journal.blank journal.joined journal.shown journal.fresh_or journal.written journal.cleared journal.pushed journal.resting journal.settled journal.stored journal.dropped ring.ringed ring.laid_round log.view journal.some log.put log.empty rights_sound sealed granting access_of wrong_size wrong_class wrong_parameters wrong_frame on_file names_file suits role_of access_to log_pending rights_broken number_above number_twice unknown_command interrupts sent_of length_cases lacks_mac unknown_file other_kind_or_never not_granted part_fails forged used_up switched_off parameter_cases ranged room_of amount_cases outside long_read nothing_pending rows_for status_for purse_after journal_after stored_after files_after channel_after changed shown mac_behind accepted_status accepted_plain shown_of view put broken_by bench ended refused accepted played laid_into bench_refusal commanded issued blank first_fault order_refusal personalised
edges_answered = refl
