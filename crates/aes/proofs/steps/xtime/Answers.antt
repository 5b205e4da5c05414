use mathlib.Core.Path.{◌≡◌, ◌∙◌, ap, sym}
use Prim.Native.Nat.{◌*◌, ◌/◌, ◌%◌}
use native.Mathlib.Omega.{arith}
use lib.Bits.{xor_zero_r}
use Rattle.field.specs.Field.{◌⊕◌, only_if, xtime}
use Rattle.aes.proofs.steps.xtime.Goals as goal

pub returns-then-a-lt128 : goal.returns-then-a-lt128
unfolding xtime
returns-then-a-lt128 c =
    let a = c.args.a in
    let h : a / 128 ≡ 0 = omega arith in
    sym (ap (λ x. a * 2 % 256 ⊕ only_if x 0x1b) h ∙ xor_zero_r (a * 2 % 256))

pub returns-else-a-lt128 : goal.returns-else-a-lt128
unfolding xtime
returns-else-a-lt128 c =
    let a = c.args.a in
    let h : a / 128 ≡ 1 = omega (arith, c.ranges.a) in
    sym (ap (λ x. a * 2 % 256 ⊕ only_if x 0x1b) h)
