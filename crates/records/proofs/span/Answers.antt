use native.Mathlib.Omega.{arith}
use Rattle.tables.specs.Choice.{choice}
use Rattle.records.proofs.span.Goals as goal

pub returns-then-count-eq0 : goal.returns-then-count-eq0
returns-then-count-eq0 c = (search choice, omega arith)

pub returns : goal.returns
returns c = (search choice, omega arith)
