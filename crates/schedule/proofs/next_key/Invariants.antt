use mathlib.Core.Path.{◌≡◌}
use Rattle.schedule.proofs.Grown.{begun, carried}
use Rattle.schedule.proofs.next_key.Given as goal

abbrev pub invariant-loop-i : goal.invariant-loop-i
invariant-loop-i l = l.w ≡ begun l.initial.w l.first l.i

abbrev pub invariant-loop-i-2 : goal.invariant-loop-i-2
invariant-loop-i-2 l = l.w ≡ carried l.initial.w l.i
