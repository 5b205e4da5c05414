-- The reply buffer that a desk lends.
use Rattle.std.specs.Prelude.{ℕ, ltb}
use Rattle.tables.specs.Choice.{pick}

-- the largest one
abbrev pub most_room : ℕ
most_room = 0x200

-- the length of the buffer lent to an event, at most that
unfoldable pub lent_room : ℕ → ℕ
lent_room room = pick (ltb most_room room) most_room room
