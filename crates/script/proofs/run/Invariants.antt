use Rattle.script.specs.Lines.{line_said}
use Rattle.lines.specs.Sofar.{Sofar}
use Rattle.desk.specs.After.{after_event}
use lib.ListN.{length}
use Prim.Native.Nat.{◌-◌}
use mathlib.Core.Path.{◌≡◌}
use Rattle.script.proofs.run.Given as goal

-- the desk of the run has the card of the last reply
abbrev pub invariant-loop-at : goal.invariant-loop-at
invariant-loop-at l = (length l.reply ≡ 512) × Sofar line_said l.initial.desk l.text l.initial.out (after_event l.desk l.played.card l.played.stored) l.at l.n l.out

abbrev pub decreases-loop-at : goal.decreases-loop-at
decreases-loop-at l = length l.text - l.at
