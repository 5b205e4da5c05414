use native.Mathlib.Omega.{arith}
use Rattle.wire.specs.Bytes.{le3}
use Rattle.wire.proofs.le3_at.Goals as goal

pub returns : goal.returns
unfolding le3
returns c = omega arith
