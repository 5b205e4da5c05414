use Rattle.wire.specs.Bytes.{part, Shows}
use Rattle.wire.proofs.Laws.{length_part, shows_as}
use Rattle.text.specs.Adds.{adds_behind, adds_then}
use Rattle.decimal.specs.Decimal.{signed_decimal}
use Rattle.decimal.specs.Shown.{signed_in}
use Rattle.decimal.specs.Laws.{signed_most, signed_shown}
use lib.IntN.{ℤ}
use lib.ListN.{length}
use Prim.Native.Nat.{ℕ, ◌+◌, ◌≤◌}
use native.Mathlib.Omega.{arith}
use mathlib.Core.List.{List}
use mir.Facts.{to_z-of_z}
use Rattle.books.proofs.add_signed.Goals as goal

-- what is shown behind place at, where there is room for any number
shown : (z : ℤ) (at r : ℕ) (b after : List ℕ) → at + 11 ≤ length b → Shows (signed_in (length (part b at (length b))) z) (part b at (length b)) after r
    → Shows (signed_decimal z) (part b at (length b)) after r × (r ≤ 11)
shown z at r b after h s =
    let l = length_part b at (length b) (omega arith) in
    let t = shows_as _ _ _ _ _ (signed_shown (length (part b at (length b))) z (omega arith)) s in
    (t, omega (arith, t.1, signed_most z))

pub overflow_add-end : goal.overflow_add-end
overflow_add-end c = let a = c.args in omega (arith, (shown _ a.at _ a.answer.now _ (omega arith) c.put_signed.ensures).1)

pub add_char-requires : goal.add_char-requires
add_char-requires c = let a = c.args in omega (arith, (shown _ a.at _ a.answer.now _ (omega arith) c.put_signed.ensures).1)

pub returns : goal.returns
returns c =
    let a = c.args in
    let s = shown a.z a.at _ a.answer.now _ (omega arith) (rw (to_z-of_z c.ranges.z) at c.put_signed.ensures) in
    record { adds = adds_then _ _ _ _ (adds_behind (signed_decimal a.z) a.answer.now _ a.at _ (omega arith) s.0) c.add_char.ensures; upper_bound = omega (arith, s.1) }
