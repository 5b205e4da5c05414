use lib.Seq.{paste}
use lib.ListN.{length}
use mathlib.Core.Path.{◌≡◌}
use Rattle.wire.proofs.lay.Given as goal

-- the first i bytes are laid
abbrev pub invariant-loop-i : goal.invariant-loop-i
invariant-loop-i l = (length l.dst ≡ length l.initial.dst) × (l.dst ≡ paste l.initial.dst l.at l.src l.i)
