use Rattle.description.specs.Description.{switches_of}
use Rattle.tables.specs.Choice.{pick}
use mathlib.Core.Bool.{Bool, true, false}
use mathlib.Core.Path.{◌≡◌, refl}
use mir.Val.{bool_byte}
use Prim.Native.Nat.{◌+◌, ◌*◌}
use Rattle.description.proofs.switches.Goals as goal

both : (l f : Bool) → bool_byte l + 2 * bool_byte f ≡ pick l 1 0 + pick f 2 0
unfolding pick
both true true = refl
both true false = refl
both false true = refl
both false false = refl

pub returns : goal.returns
unfolding switches_of
returns c = rw (c.from.ensures, c.from-2.ensures) (both _ _)
