use Rattle.decimal.specs.Decimal.{trimmed}
use lib.ListN.{drop}
use mathlib.Core.Path.{◌≡◌}
use Rattle.decimal.proofs.zeros.Given as goal

-- the first i are leading zeros
abbrev pub invariant-loop-i : goal.invariant-loop-i
invariant-loop-i l = trimmed l.s ≡ trimmed (drop l.i l.s)
