-- Laws of the lent buffer.
use Rattle.std.specs.Prelude.{ℕ, ◌≤◌, ltb}
use Rattle.std.proofs.Common.{ltb-false, arith}
use Rattle.tables.specs.Choice.{pick_cases}
use Rattle.desk.specs.Room.{most_room, lent_room}

pub lent_most : (room : ℕ) → lent_room room ≤ most_room
unfolding lent_room
lent_most room = pick_cases (λ (n : ℕ). n ≤ most_room) (ltb most_room room) most_room room (λ t. omega arith) (λ t. ltb-false most_room room t)
