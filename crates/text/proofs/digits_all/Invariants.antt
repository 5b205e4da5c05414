use Rattle.text.specs.Hex.{in_digits}
use Rattle.text.proofs.Steps.{filled}
use lib.ListN.{length}
use Prim.Native.Nat.{◌*◌}
use mathlib.Core.Path.{◌≡◌}
use Rattle.text.proofs.digits_all.Given as goal

-- the digits of the first i bytes are laid
abbrev pub invariant-loop-i : goal.invariant-loop-i
invariant-loop-i l = (length l.out ≡ length l.initial.out) × (l.out ≡ filled l.initial.out (in_digits l.bytes) (2 * l.i))
