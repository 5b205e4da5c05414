use Rattle.text.specs.Hex.{leading}
use Rattle.text.proofs.Steps.{filled}
use lib.ListN.{length}
use Prim.Native.Nat.{◌≤◌}
use mathlib.Core.Path.{◌≡◌}
use Rattle.text.proofs.spell_by.Given as goal

-- the first i bytes are laid
abbrev pub invariant-loop-i : goal.invariant-loop-i
invariant-loop-i l =
    (l.i ≤ length (leading l.s))
    × (length l.out ≡ length l.initial.out)
    × (l.out ≡ filled l.initial.out (leading l.s) l.i)
