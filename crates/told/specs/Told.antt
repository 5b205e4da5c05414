-- What is told of a line, and a chain's lines on the card of a desk.
use Rattle.std.specs.Prelude.{ℕ, List}
use Rattle.card.specs.declared.Card.{Card}
use Rattle.card.specs.Outcome.{Outcome}
use Rattle.card.specs.Events.{chain_opened, bytes_sent}
use Rattle.answers.specs.Answers.{reply_text}
use Rattle.lines.specs.Lines.{Said}
use Rattle.books.specs.declared.Books.{Books}
use Rattle.notices.specs.Notices.{notice_text}
use Rattle.desk.specs.declared.Desk.{Desk}
use Rattle.desk.specs.Room.{lent_room}
use Rattle.desk.specs.After.{after_event}
use Rattle.told.specs.declared.Told.{Told}
use Rattle.told.specs.declared.Frame.{Frame}
use Rattle.told.specs.declared.Frame.TheVariants.{Opening, FileBytes}

-- the books of a card
abbrev pub books_of : Card → Books
books_of c = record { purse = c.purse; log = c.log; stage = c.channel.stage; chain = c.channel.chain }

-- what the code tells of a line; the books are those of the card after it
unfoldable pub said_of : Told → Said Desk
said_of r = record { next = r.desk; out = notice_text r.notice (books_of r.desk.card) }

-- the reply, or the bench refusal
unfoldable pub replied : Desk → Outcome → Said Desk
replied k o = record { next = after_event k o.card o.stored; out = reply_text o.refusal o.out }

-- ---- C and D: a chain on the card of the desk

-- its frame on a card that lends a reply buffer of this length: its opening, or file bytes
unfoldable pub framed : Frame → Card → List ℕ → ℕ → Outcome
framed Opening c f room = chain_opened c f room
framed FileBytes c b room = bytes_sent c b room

-- its opening, the frame f
abbrev pub opened_on : Desk → List ℕ → Outcome
opened_on k f = chain_opened k.card f (lent_room k.room)

-- the file bytes b
abbrev pub sent_on : Desk → List ℕ → Outcome
sent_on k b = bytes_sent k.card b (lent_room k.room)
