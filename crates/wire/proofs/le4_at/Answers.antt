use native.Mathlib.Omega.{arith}
use Rattle.wire.specs.Bytes.{le3, le4}
use Rattle.wire.proofs.le4_at.Goals as goal

pub returns : goal.returns
unfolding le3 le4
returns c = omega arith
