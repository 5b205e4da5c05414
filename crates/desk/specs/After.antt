-- What an event leaves on a desk.
use Rattle.std.specs.Prelude.{ℕ}
use Rattle.card.specs.declared.Card.{Card}
use Rattle.desk.specs.declared.Desk.{Desk}

-- the desk after an event that left the card c and stored n slot bytes
unfoldable pub after_event : Desk → Card → ℕ → Desk
after_event k c n = record { card = c; inputs = k.inputs; room = k.room; stored = n; bench = k.bench }
