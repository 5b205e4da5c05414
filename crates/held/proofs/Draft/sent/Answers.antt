use Prim.Native.Nat.{ℕ}
use mathlib.Core.Bool.{◌||◌}
use lib.Dec.{eqb}
use Rattle.held.specs.Held.{sent}
use mathlib.Core.Path.{sym, ap, ◌∙◌}
use Rattle.tables.specs.Choice.{picked, passed}
use Rattle.held.proofs.Draft.sent.Goals as goal

pub returns-then-ins : goal.returns-then-ins
unfolding sent
returns-then-ins c = let e = ap (λ (n : ℕ). eqb n 0x71 || eqb n 0xAF) (sym c.byte_at-ins.ensures) ∙ c.if-ins.true in c.over.ensures ∙ sym (picked _ _ e)

pub returns : goal.returns
unfolding sent
returns c = let e = ap (λ (n : ℕ). eqb n 0x71 || eqb n 0xAF) (sym c.byte_at-ins.ensures) ∙ c.if-ins.false in c.counted.ensures ∙ sym (passed _ _ e)
