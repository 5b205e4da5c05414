use Rattle.wire.specs.Bytes.{part, Shows}
use Rattle.wire.proofs.Laws.{length_part, shows_as}
use Rattle.text.specs.Adds.{adds_behind}
use Rattle.decimal.specs.Decimal.{decimal}
use Rattle.decimal.specs.Shown.{decimal_in}
use Rattle.decimal.specs.Laws.{decimal_most, decimal_shown}
use lib.ListN.{length}
use Prim.Native.Nat.{ℕ, ◌+◌, ◌≤◌}
use native.Mathlib.Omega.{arith}
use mathlib.Core.List.{List}
use Rattle.books.proofs.add_number.Goals as goal

-- what is shown behind place at, where there is room for any number
shown : (n at r : ℕ) (b after : List ℕ) → at + 10 ≤ length b → Shows (decimal_in (length (part b at (length b))) n) (part b at (length b)) after r
    → Shows (decimal n) (part b at (length b)) after r × (r ≤ 10)
shown n at r b after h s =
    let l = length_part b at (length b) (omega arith) in
    let t = shows_as _ _ _ _ _ (decimal_shown (length (part b at (length b))) n (omega arith)) s in
    (t, omega (arith, t.1, decimal_most n))

pub overflow_add-result : goal.overflow_add-result
overflow_add-result c = let a = c.args in omega (arith, (shown a.n a.at _ a.answer.now _ c.requires c.put_decimal.ensures).1)

pub returns : goal.returns
returns c =
    let a = c.args in
    let s = shown a.n a.at _ a.answer.now _ c.requires c.put_decimal.ensures in
    record { adds = adds_behind (decimal a.n) a.answer.now _ a.at _ (omega arith) s.0; upper_bound = omega (arith, s.1) }
