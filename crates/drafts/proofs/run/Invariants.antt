use Rattle.drafts.specs.Drafts.{drafted}
use Rattle.lines.specs.Sofar.{Sofar}
use lib.ListN.{length}
use Prim.Native.Nat.{◌-◌}
use mathlib.Core.Path.{◌≡◌}
use Rattle.drafts.proofs.run.Given as goal

abbrev pub invariant-loop-at : goal.invariant-loop-at
invariant-loop-at l = (length l.line ≡ 1024) × Sofar drafted l.initial.draft l.text l.initial.out l.draft l.at l.n l.out

abbrev pub decreases-loop-at : goal.decreases-loop-at
decreases-loop-at l = length l.text - l.at
