-- A value moved by an amount: where the limit test passes, the sum of 64 bits fits 32 bits too.
use mathlib.Core.Path.{◌≡◌, ◌∙◌, sym}
use mathlib.Core.Bool.{Bool, true, false}
use lib.IntN.{ℤ, ◌+ℤ◌}
use mir.Syntax.{w32, w64}
use mir.Val.{SFits, to_z, of_z}
use mir.Facts.{to_z-of_z}
use Rattle.whole.specs.Moves.{narrow, wide, Moved}
use Rattle.limits.specs.declared.Limits.{Limits}
use Rattle.limits.specs.Limits.{within}
use Rattle.limits.specs.Laws.{within_fits}

-- where the limits hold the sum, it fits 32 bits too
pub record Landed (l : Limits) (p z m : ℤ) : Type 0 where
  pub holds : within l (p +ℤ z) ≡ true
  pub sum : Moved p z m
  pub fits : SFits w32 (to_z w64 (of_z w64 (wide p +ℤ m)))
  pub to : narrow (to_z w64 (of_z w64 (wide p +ℤ m))) ≡ p +ℤ z

-- after a limit test, which answers r
module _ (l : Limits) {p z m : ℤ} {r : Bool} (k : Moved p z m) (e : r ≡ within l (narrow p +ℤ z)) where
  answer : r ≡ within l (p +ℤ z)
  answer = rw (to_z-of_z k.figure) at e

  pub refused : r ≡ false → within l (p +ℤ z) ≡ false
  refused t = sym answer ∙ t

  pub landed : SFits w32 l.lower → SFits w32 l.upper → r ≡ true → Landed l p z m
  landed fl fu t =
      let h : within l (p +ℤ z) ≡ true = sym answer ∙ t in
      let g = within_fits l (p +ℤ z) fl fu h in
      record { holds = h; sum = k; fits = rw k.to g; to = rw k.to (to_z-of_z g) }
