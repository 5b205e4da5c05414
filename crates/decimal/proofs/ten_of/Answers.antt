use Rattle.decimal.proofs.Steps.{all_digits}
use native.Mathlib.Omega.{arith}
use mathlib.Core.Path.{◌≡◌, ◌∙◌}
use Rattle.decimal.proofs.ten_of.Goals as goal

pub returns : goal.returns
returns c =
    let e : c.loop-i.i ≡ 10 = omega arith in
    c.loop-i.invariant.1 ∙ rw e (all_digits c.args.n)
