use Rattle.decimal.proofs.Steps.{trim_more, trim_stop, trim_last}
use lib.ListN.{length, drop}
use Prim.Native.Nat.{◌-◌}
use mathlib.Core.Path.{◌≡◌, sym, ap, ◌∙◌}
use native.Mathlib.Omega.{arith}
use Rattle.decimal.proofs.zeros.Goals as goal

pub returns-then-s-i-ne48 : goal.returns-then-s-i-ne48
returns-then-s-i-ne48 c =
    (omega arith, sym (c.loop-i.invariant ∙ trim_stop c.args.s.now c.loop-i.i (omega arith) c.if-s-i-ne48.true))

pub loop-i-preserved : goal.loop-i-preserved
loop-i-preserved c = c.loop-i.invariant ∙ trim_more c.args.s.now c.loop-i.i (omega arith) c.if-s-i-ne48.false

pub returns : goal.returns
returns c =
    let e : c.loop-i.i ≡ length c.args.s.now - 1 = omega arith in
    (omega arith, ap (λ n. drop n c.args.s.now) (sym e) ∙ sym (c.loop-i.invariant ∙ trim_last c.args.s.now c.loop-i.i (omega arith)))
