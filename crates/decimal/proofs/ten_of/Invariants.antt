use Rattle.decimal.proofs.Steps.{tens, last_digits}
use mathlib.Core.Path.{◌≡◌}
use Rattle.decimal.proofs.ten_of.Given as goal

-- the last i digits are there
abbrev pub invariant-loop-i : goal.invariant-loop-i
invariant-loop-i l = (l.rest ≡ tens l.n l.i) × (l.ten ≡ last_digits l.n l.i)
