-- One line of a script: what it asks, and the line that answers it.
use Rattle.std.specs.Prelude.{ℕ, List}
use Rattle.tables.specs.Choice.{pick}
use Rattle.card.specs.Outcome.{Outcome}
use Rattle.card.specs.Events.{commanded}
use Rattle.text.specs.Hex.{spelt}
use Rattle.lines.specs.Lines.{Said}
use Rattle.lines.specs.Frames.{is_frame}
use Rattle.desk.specs.declared.Desk.{Desk}
use Rattle.desk.specs.Room.{lent_room}
use Rattle.told.specs.Told.{replied}
use Rattle.letters.specs.Letters.{other_said}

-- a command to the card on the desk
abbrev pub commanded_on : Desk → List ℕ → Outcome
commanded_on k f = commanded k.card f k.inputs (lent_room k.room)

-- up to 1,024 digits: a command; else a line that is none
unfoldable pub line_said : Desk → List ℕ → Said Desk
line_said k line = pick (is_frame line) (replied k (commanded_on k (spelt line))) (other_said k line)
