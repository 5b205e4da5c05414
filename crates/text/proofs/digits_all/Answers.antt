use Rattle.text.specs.Hex.{in_digits}
use Rattle.text.proofs.Steps.{high_at, low_at, filled_more, filled_laid}
use Rattle.text.specs.Laws.{length_digits}
use lib.ListN.{length, length-set}
use Prim.Native.Nat.{◌+◌, ◌*◌}
use mathlib.Core.Path.{◌≡◌, ◌∙◌}
use native.Mathlib.Omega.{arith}
use Rattle.text.proofs.digits_all.Goals as goal

pub loop-i-preserved : goal.loop-i-preserved
loop-i-preserved c =
    let o = c.loop-i in
    let p = c.args in
    let bs = p.bytes.now in
    let i = o.i in
    let d = p.out.now in
    let x = in_digits bs in
    let l : length x ≡ 2 * length bs = length_digits bs in
    let next : 2 * i + 1 + 1 ≡ 2 * (i + 1) = omega arith in
    let first = filled_more d x (2 * i) _ (omega arith) (omega arith) (c.capital_of.ensures ∙ high_at bs i (omega arith)) in
    let second = filled_more d x (2 * i + 1) _ (omega arith) (omega arith) (c.capital_of-in-loop-i.ensures ∙ low_at bs i (omega arith)) in (
      simp length-set o.invariant.0,
      rw (o.invariant.1, first, second, next),
    )

pub returns : goal.returns
returns c =
    let p = c.args in
    let bs = p.bytes.now in
    c.loop-i.invariant.1 ∙ filled_laid p.out.now (in_digits bs) (2 * c.loop-i.i) (omega (arith, length_digits bs))
