-- The card and the desk of the program.
use Rattle.std.specs.Prelude.{Bool, true, pos, replicate}
use Rattle.keys.specs.Keys.{zeros}
use Rattle.settings.specs.Settings.{alike}
use Rattle.card.specs.declared.Card.{Card}
use Rattle.card.specs.Events.{personalised, reply_room}
use Rattle.desk.specs.declared.Desk.{Desk}

-- the program's card: rights EEEEh everywhere, limits 0 and 1000, value 100, LimitedCredit on, free GetValue off, zero keys
unfoldable pub program_card : Card
program_card = (personalised (alike 0xEEEE (record { lower = pos 0; upper = pos 1000 }) true) zeros (pos 100)).card

-- a desk with it, zeros handed in, the buffer of 0102h bytes, and nothing stored
unfoldable pub program_desk : Bool → Desk
program_desk bench = record { card = program_card; inputs = record { random = replicate 16 0; ti = replicate 4 0 }; room = reply_room; stored = 0; bench = bench }
