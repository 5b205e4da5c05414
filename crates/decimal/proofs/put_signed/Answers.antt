use Rattle.wire.proofs.Laws.{shows_as}
use mathlib.Core.Path.{◌≡◌, ap, ◌∙◌}
use mathlib.Core.Bool.{true, false}
use mathlib.Core.List.{◌∷◌}
use lib.ListN.{length}
use Rattle.decimal.proofs.Signs.{below_zero, not_below}
use Rattle.text.specs.Shown.{in_room}
use Rattle.decimal.specs.Shown.{signed_in}
use Rattle.decimal.specs.Decimal.{decimal}
use mir.Facts.{to_z-of_z}
use lib.IntN.{pos, nat_abs}
use lib.Signed.{lt_z}
use Rattle.decimal.proofs.put_signed.Goals as goal

pub returns-then-z-lt0 : goal.returns-then-z-lt0
unfolding signed_in
returns-then-z-lt0 c =
    let z = c.unsigned_abs-size in
    let a = c.args in
    let f = c.ranges.z in
    let e : z.result ≡ nat_abs a.z = rw (to_z-of_z f) at z.ensures.value in
    let t : lt_z a.z (pos 0) ≡ true = rw (to_z-of_z f) at c.if-z-lt0.true in
    shows_as _ _ a.out.now _ _ (ap (in_room (length a.out.now)) (ap (λ n. 0x2D ∷ decimal n) e ∙ below_zero a.z t)) c.put.ensures

pub returns : goal.returns
unfolding signed_in
returns c =
    let z = c.unsigned_abs-size in
    let a = c.args in
    let f = c.ranges.z in
    let e : z.result ≡ nat_abs a.z = rw (to_z-of_z f) at z.ensures.value in
    let t : lt_z a.z (pos 0) ≡ false = rw (to_z-of_z f) at c.if-z-lt0.false in
    shows_as _ _ a.out.now _ _ (ap (in_room (length a.out.now)) (ap decimal e ∙ not_below a.z t)) c.put-2.ensures
