use Rattle.orders.specs.Order.{le2}
use native.Mathlib.Omega.{arith}
use Rattle.orders.proofs.rights_in.Goals as goal

pub returns : goal.returns
unfolding le2
returns c = omega arith
