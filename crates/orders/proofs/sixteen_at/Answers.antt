use Rattle.orders.specs.Order.{sixteen}
use Rattle.orders.specs.Laws.{length_sixteen, sixteen_byte}
use lib.ListN.{length-set}
use lib.Seq.{take_all, take-suc, take-suc-set}
use native.Mathlib.Numerals.{add-one}
use native.Mathlib.Omega.{arith}
use Prim.Native.Nat.{ℕ}
use mathlib.Core.List.{List, [], ◌∷◌, ◌++◌}
use mathlib.Core.Path.{◌≡◌, ap₂, sym, ◌∙◌}
use Rattle.orders.proofs.sixteen_at.Goals as goal

pub loop-i-preserved : goal.loop-i-preserved
loop-i-preserved c =
    let a = c.args in
    let i = c.loop-i.i in
    let n = length_sixteen a.b.now a.at in
    let e = sixteen_byte a.b.now a.at i (omega arith) in (
      simp length-set c.loop-i.invariant.0,
      rw add-one
          (take-suc-set c.loop-i.key i c.byte_at.result (omega arith)
          ∙ ap₂ (λ (t : List ℕ) (x : ℕ). t ++ x ∷ []) c.loop-i.invariant.1 (c.byte_at.ensures ∙ sym e)
          ∙ sym (take-suc (sixteen a.b.now a.at) i 0 (omega arith))),
    )

pub returns : goal.returns
returns c =
    let a = c.args in
    let n = length_sixteen a.b.now a.at in
    let e : c.loop-i.i ≡ 16 = omega arith in
    sym (take_all 16 c.loop-i.key (omega arith)) ∙ (rw e at c.loop-i.invariant.1) ∙ take_all 16 _ (omega arith)
