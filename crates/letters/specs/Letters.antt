-- A line of a script that is no command: what it does, and the line that answers it.
use Rattle.std.specs.Prelude.{ℕ, ◌+◌, ◌*◌, List, [], ◌∷◌, eqb, ltb, length, get_or, None, Some}
use Rattle.tables.specs.Choice.{pick}
use Rattle.wire.specs.Bytes.{part}
use Rattle.channel.specs.declared.Inputs.{Inputs}
use Rattle.card.specs.Outcome.{Outcome}
use Rattle.card.specs.Events.{session_changed, powered_up, personalised}
use Rattle.text.specs.Hex.{is_hex, spelt}
use Rattle.decimal.specs.Decimal.{decimal}
use Rattle.refusals.specs.Numbers.{number_of}
use Rattle.answers.specs.Answers.{numbered, refusal_text}
use Rattle.books.specs.Books.{books_text}
use Rattle.orders.specs.Order.{order_in}
use Rattle.kinds.specs.declared.Kind.{Kind}
use Rattle.kinds.specs.declared.Kind.TheVariants.{Order, NoSession, Session, Room, HandedIn, Opening, FileBytes, Books, Count, Unread}
use Rattle.kinds.specs.Kinds.{kind_of}
use Rattle.lines.specs.Lines.{Said}
use Rattle.lines.specs.Frames.{longest_line}
use Rattle.desk.specs.declared.Desk.{Desk}
use Rattle.desk.specs.Room.{most_room}
use Rattle.desk.specs.After.{after_event}
use Rattle.told.specs.Told.{books_of, replied, opened_on, sent_on}

-- a line that does not reach the card: `?`
unfoldable pub unread : Desk → Said Desk
unread k = record { next = k; out = 0x3F ∷ [] }

-- a power-up prints an empty line
unfoldable pub powered : Desk → Said Desk
powered k = record { next = after_event k (powered_up k.card).card (powered_up k.card).stored; out = refusal_text (powered_up k.card).refusal }

-- the number, 0 where nothing was refused
unfoldable pub counted : Desk → Outcome → Said Desk
counted k o = record { next = after_event k o.card o.stored; out = numbered (number_of o.refusal) }

-- ---- R: the length of the buffer lent to the events that follow

unfoldable pub lent : Desk → ℕ → Said Desk
lent k n = pick (ltb most_room n) (unread k) (record { next = record { card = k.card; inputs = k.inputs; room = n; stored = k.stored; bench = k.bench }; out = numbered 0 })

-- ---- N: what the bench hands in with the events that follow

-- sixteen bytes of random number, and behind them the transaction identifier
unfoldable pub inputs_in : List ℕ → Inputs
inputs_in b = record { random = part b 0 16; ti = part b 16 20 }

unfoldable pub handed : Desk → Inputs → Said Desk
handed k u = record { next = record { card = k.card; inputs = u; room = k.room; stored = k.stored; bench = k.bench }; out = numbered 0 }

-- ---- B: the books

unfoldable pub book_kept : Desk → Said Desk
book_kept k = record { next = k; out = books_text (books_of k.card) }

-- ---- L: the slot bytes that the last event stored

unfoldable pub stored_told : Desk → Said Desk
stored_told k = record { next = k; out = decimal k.stored }

-- ---- a line

-- a line of this kind, and the bytes that its digits spell
unfoldable pub lettered_by : Desk → Kind → List ℕ → Said Desk
lettered_by k Order b = counted k (personalised (order_in b).settings (order_in b).keys (order_in b).value)
lettered_by k NoSession b = counted k (session_changed k.card None)
lettered_by k Session b = counted k (session_changed k.card (Some (get_or b 0 0)))
lettered_by k Room b = lent k (256 * get_or b 0 0 + get_or b 1 0)
lettered_by k HandedIn b = handed k (inputs_in b)
lettered_by k Opening b = replied k (opened_on k b)
lettered_by k FileBytes b = replied k (sent_on k b)
lettered_by k Books b = book_kept k
lettered_by k Count b = stored_told k
lettered_by k Unread b = unread k

-- a letter and the characters behind it
unfoldable pub lettered : Desk → ℕ → List ℕ → Said Desk
lettered k letter rest = lettered_by k (kind_of letter (length rest) (is_hex rest)) (pick (is_hex rest) (spelt rest) [])

-- a line that is too long; none: a power-up; else a letter's line on the bench
unfoldable pub other_said : Desk → List ℕ → Said Desk
other_said k line =
    pick (ltb longest_line (length line)) (unread k)
    (pick (eqb (length line) 0) (powered k)
    (pick k.bench (lettered k (get_or line 0 0) (part line 1 (length line)))
    (unread k)))
