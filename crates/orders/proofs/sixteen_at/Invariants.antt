use Rattle.orders.specs.Order.{sixteen}
use lib.ListN.{length, take}
use mathlib.Core.Path.{◌≡◌}
use Rattle.orders.proofs.sixteen_at.Given as goal

-- the first i bytes are there
abbrev pub invariant-loop-i : goal.invariant-loop-i
invariant-loop-i l = (length l.key ≡ 16) × (take l.i l.key ≡ take l.i (sixteen l.b l.at))
