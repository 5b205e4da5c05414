use mathlib.Core.Path.{◌≡◌}
use Rattle.schedule.proofs.Grown.{grown}
use Rattle.schedule.proofs.key_expansion.Given as goal

abbrev pub invariant-loop-i : goal.invariant-loop-i
invariant-loop-i l = l.w ≡ grown l.fn.k l.i
