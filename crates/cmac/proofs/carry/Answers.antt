use mathlib.Core.Path.{◌≡◌, sym, ap}
use Prim.Native.Nat.{ℕ, ◌/◌}
use native.Mathlib.Omega.{arith}
use Rattle.field.specs.Field.{only_if}
use Rattle.cmac.proofs.carry.Goals as goal

pub returns-then-a-lt128 : goal.returns-then-a-lt128
returns-then-a-lt128 c =
    let h : c.args.a / 128 ≡ 0 = omega arith in
    sym (ap (λ (x : ℕ). only_if x 0x87) h)

pub returns-else-a-lt128 : goal.returns-else-a-lt128
returns-else-a-lt128 c =
    let h : c.args.a / 128 ≡ 1 = omega (arith, c.ranges.a) in
    sym (ap (λ (x : ℕ). only_if x 0x87) h)
