-- Computed examples on the rules paper's card: no model that is idle, refuses all, has one reply or stops after one transaction.
use Rattle.std.specs.Prelude.{ℕ, true, false, List, [], ◌∷◌, ◌≡◌, refl, pos, length, replicate, None}
use Rattle.tables.specs.Choice.{pick}
use Rattle.wire.specs.Bytes.{laid, laid_in, outside_of, le3, le4, word}
use Rattle.datafiles.specs.Files as files
use Rattle.limits.specs.Limits.{crossed, within}
use Rattle.purse.specs.Purse as purse
use Rattle.logfile.specs.Journal as journal
use Rattle.logfile.specs.Ring as ring
use Rattle.logfile.specs.View as log
use Rattle.access.specs.Rights as access
use Rattle.frames.specs.Frame as frame
use Rattle.settings.specs.declared.Settings.{Settings}
use Rattle.columns.specs.Table as table
use Rattle.settings.specs.Settings as settings
use Rattle.rows.specs.State as state
use Rattle.keys.specs.Keys as keys
use Rattle.channel.specs.declared.Inputs.{Inputs}
use Rattle.chains.specs.Chain as chain
use Rattle.channel.specs.Channel as channel
use Rattle.modes.specs.Modes as modes
use Rattle.rows.specs.Rows as rows
use Rattle.effects.specs.Effects as effects
use Rattle.replies.specs.Replies.{shown_of}
use Rattle.card.specs.View as card
use Rattle.standing.specs.Rules as rules
use Rattle.card.specs.Outcome as outcomes
use Rattle.card.specs.Events as events
use Rattle.demands.specs.Strike.{followed, strike, posts, part, through}
use Rattle.demands.specs.Books.{sum, some, value_after, allowance_after, overwritten, entries_after, Books, booked}
use Rattle.demands.specs.History.{Handed, Event, command, opens, delivers, session, power, outcome, next, Said, said, run, along, book_line, book_account, line_by, traced}

unfoldable pub program : Settings
program = settings.alike 0xEEEE (record { lower = pos 0; upper = pos 1000 }) true

-- the replies along a history of the program's card; to unfold this is to unfold all that a computed reply needs
unfoldable pub replies : List Event → List Said
unfolding pick laid laid_in outside_of le3 le4 word files.zeros files.end_of files.shown crossed within purse.resting purse.credited purse.debited purse.rebooked purse.settled purse.dropped rules.unequal journal.blank journal.joined journal.shown journal.fresh_or journal.written journal.cleared journal.pushed journal.resting journal.settled journal.stored journal.dropped ring.ringed ring.laid_round log.view journal.some log.put log.empty access.rights_sound access.sealed access.granting access.access_of frame.wrong_size frame.wrong_class frame.wrong_parameters frame.wrong_frame table.on_file table.names_file table.suits settings.role_of settings.access_to settings.rights_broken settings.number_above settings.number_twice state.log_pending rows.unknown_command rows.interrupts rows.sent_of rows.length_cases rows.lacks_mac rows.unknown_file rows.other_kind_or_never rows.not_granted rows.part_fails rows.forged rows.used_up rows.switched_off rows.parameter_cases rows.ranged rows.room_of rows.amount_cases rows.outside rows.long_read rows.nothing_pending rows.rows_for rows.status_for rows.bytes_status effects.purse_after effects.journal_after effects.stored_after effects.files_after shown_of card.view card.put rules.broken_by outcomes.reply_of outcomes.bench events.channel_after events.changed events.shown events.mac_behind events.accepted_status events.accepted_plain events.ended events.refused events.accepted events.played events.laid_into events.bench_refusal events.commanded events.opening events.opening_played events.chain_opened events.delivered events.bytes_played events.bytes_sent events.with_session events.session_changed events.powered_up events.issued outcome said along run settings.alike keys.zeros channel.counted channel.bare channel.chained channel.advanced chain.unchained chain.announced chain.shortened chain.wrong_bytes chain.chain_sound modes.role_in modes.maced_under modes.plain_of program
replies es = along next said (events.issued program keys.zeros (pos 100)) es

-- the books over such a history
unfoldable pub books : List Event → Books
unfolding replies followed strike posts part through sum some value_after allowance_after overwritten entries_after booked book_line line_by traced
books es = booked (pos 100) (traced book_account (events.issued program keys.zeros (pos 100)) es)

-- the program's bench inputs are zeros
abbrev zeros : Inputs
zeros = record { random = replicate 16 0; ti = replicate 4 0 }

abbrev zeros_handed : Handed zeros
zeros_handed = record { random = refl; ti = refl }

-- the INS i without a data field, and with the data field d
abbrev pub bare : ℕ → Event
bare i = command (0x90 ∷ i ∷ 0 ∷ 0 ∷ 0 ∷ []) zeros zeros_handed

abbrev pub sends : ℕ → List ℕ → Event
sends i d = command (frame.framed i d) zeros zeros_handed

abbrev says : List ℕ → Said
says bytes = record { refusal = None; bytes = bytes; len = length bytes }

-- the personalisation is accepted
pub taken : rules.order_refusal program (pos 100) ≡ None
unfolding replies rules.first_fault rules.order_refusal
taken = refl

-- no model that refuses everything: Credit 900 is taken, 901 is not
pub takes_and_refuses : replies (sends 0x0C (3 ∷ 0x84 ∷ 0x03 ∷ 0 ∷ 0 ∷ []) ∷ power ∷ sends 0x0C (3 ∷ 0x85 ∷ 0x03 ∷ 0 ∷ 0 ∷ []) ∷ [])
    ≡ says (0x91 ∷ 0x00 ∷ []) ∷ says [] ∷ says (0x91 ∷ 0xBE ∷ []) ∷ []
unfolding replies
takes_and_refuses = refl

-- no model with a single reply: GetValue of 07h and of 00h
pub two_replies : replies (sends 0x6C (0x07 ∷ []) ∷ sends 0x6C (0x00 ∷ []) ∷ []) ≡ says (0x91 ∷ 0xF0 ∷ []) ∷ says (0x91 ∷ 0x9D ∷ []) ∷ []
unfolding replies
two_replies = refl

-- no idle model: the rules paper's listing, with the length of each reply
pub listing : replies
    (sends 0x6C (3 ∷ [])
    ∷ sends 0xDC (3 ∷ 0x1E ∷ 0 ∷ 0 ∷ 0 ∷ [])
    ∷ sends 0x6C (3 ∷ [])
    ∷ bare 0xC7
    ∷ sends 0x6C (3 ∷ [])
    ∷ sends 0x1C (3 ∷ 0x1F ∷ 0 ∷ 0 ∷ 0 ∷ [])
    ∷ power
    ∷ sends 0x6C (3 ∷ [])
    ∷ [])
    ≡ says (0x64 ∷ 0 ∷ 0 ∷ 0 ∷ 0x91 ∷ 0x00 ∷ [])
    ∷ says (0x91 ∷ 0x00 ∷ [])
    ∷ says (0x64 ∷ 0 ∷ 0 ∷ 0 ∷ 0x91 ∷ 0x00 ∷ [])
    ∷ says (0x91 ∷ 0x00 ∷ [])
    ∷ says (0x46 ∷ 0 ∷ 0 ∷ 0 ∷ 0x91 ∷ 0x00 ∷ [])
    ∷ says (0x91 ∷ 0xBE ∷ [])
    ∷ says []
    ∷ says (0x46 ∷ 0 ∷ 0 ∷ 0 ∷ 0x91 ∷ 0x00 ∷ [])
    ∷ []
unfolding replies
listing = refl

-- a sale; a re-booking with an entry, across a session change; a sale torn by a power-up; a credit that an abort drops
unfoldable pub sales : List Event
sales =
    sends 0xDC (3 ∷ 0x1E ∷ 0 ∷ 0 ∷ 0 ∷ [])
    ∷ bare 0xC7
    ∷ sends 0x1C (3 ∷ 0x05 ∷ 0 ∷ 0 ∷ 0 ∷ [])
    ∷ sends 0x8B (1 ∷ 0x00 ∷ 0 ∷ 0 ∷ 0x01 ∷ 0 ∷ 0 ∷ 0xAA ∷ [])
    ∷ sends 0x8B (1 ∷ 0x0F ∷ 0 ∷ 0 ∷ 0x01 ∷ 0 ∷ 0 ∷ 0xBB ∷ [])
    ∷ session None refl
    ∷ bare 0xC7
    ∷ sends 0xDC (3 ∷ 0x0A ∷ 0 ∷ 0 ∷ 0 ∷ [])
    ∷ power
    ∷ sends 0x0C (3 ∷ 0x0A ∷ 0 ∷ 0 ∷ 0 ∷ [])
    ∷ bare 0xA7
    ∷ []

-- no model that stops after its first transaction: 100 less 30, and 5 of them back
pub second_transaction : (run next (events.issued program keys.zeros (pos 100)) sales).purse.value ≡ pos 75
unfolding replies sales
second_transaction = refl

-- and the books say the same
pub sales_booked : books sales
    ≡ record { value = pos 75; allowance = 0; log = (0xAA ∷ 0 ∷ 0 ∷ 0 ∷ 0 ∷ 0 ∷ 0 ∷ 0 ∷ 0 ∷ 0 ∷ 0 ∷ 0 ∷ 0 ∷ 0 ∷ 0 ∷ 0xBB ∷ []) ∷ [] }
unfolding books sales
sales_booked = refl

-- no model in which a chain stays out of its file, or comes back out of it: two bytes in two frames, then a chain torn behind its first
pub torn_write : replies
    (opens (0x90 ∷ 0x8D ∷ 0 ∷ 0 ∷ 7 ∷ 0x1F ∷ 0x1E ∷ 0 ∷ 0 ∷ 2 ∷ 0 ∷ 0 ∷ 0 ∷ [])
    ∷ delivers (0xAA ∷ [])
    ∷ delivers (0xBB ∷ [])
    ∷ opens (0x90 ∷ 0x8D ∷ 0 ∷ 0 ∷ 7 ∷ 0x1F ∷ 0x1E ∷ 0 ∷ 0 ∷ 2 ∷ 0 ∷ 0 ∷ 0 ∷ [])
    ∷ delivers (0xCC ∷ [])
    ∷ power
    ∷ sends 0xAD (0x1F ∷ 0x1D ∷ 0 ∷ 0 ∷ 3 ∷ 0 ∷ 0 ∷ [])
    ∷ delivers (0xDD ∷ [])
    ∷ [])
    ≡ says []
    ∷ says []
    ∷ says (0x91 ∷ 0x00 ∷ [])
    ∷ says []
    ∷ says []
    ∷ says []
    ∷ says (0 ∷ 0xCC ∷ 0xBB ∷ 0x91 ∷ 0x00 ∷ [])
    ∷ says (0x91 ∷ 0x1C ∷ [])
    ∷ []
unfolding replies
torn_write = refl

-- no model that goes by the old numbers: the program's card with its files numbered 10h to 14h
unfoldable pub numbered : Settings
numbered =
    record {
      first = record { number = 0x10; rights = 0xEEEE; maced = false };
      second = record { number = 0x11; rights = 0xEEEE; maced = false };
      short = record { number = 0x12; rights = 0xEEEE; maced = false };
      value = record { number = 0x13; rights = 0xEEEE; maced = false };
      log = record { number = 0x14; rights = 0xEEEE; maced = false };
      limits = record { lower = pos 0; upper = pos 1000 };
      limited = true;
      free = false;
    }

pub own_numbers : along next said (events.issued numbered keys.zeros (pos 100)) (sends 0x6C (0x13 ∷ []) ∷ sends 0x6C (0x10 ∷ []) ∷ sends 0x6C (0x03 ∷ []) ∷ [])
    ≡ says (0x64 ∷ 0 ∷ 0 ∷ 0 ∷ 0x91 ∷ 0x00 ∷ []) ∷ says (0x91 ∷ 0x9D ∷ []) ∷ says (0x91 ∷ 0xF0 ∷ []) ∷ []
unfolding replies numbered
own_numbers = refl
