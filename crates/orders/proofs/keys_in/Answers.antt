use Rattle.keys.specs.declared.Keys.{Keys}
use mathlib.Core.List.{List, [], ◌∷◌}
use Prim.Native.Nat.{ℕ}
use Rattle.orders.specs.Order.{keys_in}
use Rattle.orders.proofs.keys_in.Goals as goal

abbrev keys_of : List ℕ → List ℕ → List ℕ → List ℕ → List ℕ → Keys
keys_of a b c d e = record { all = a ∷ b ∷ c ∷ d ∷ e ∷ [] }

pub returns : goal.returns
unfolding keys_in
returns c =
    λ i. keys_of (c.sixteen_at.ensures i) (c.sixteen_at-2.ensures i) (c.sixteen_at-3.ensures i) (c.sixteen_at-4.ensures i) (c.sixteen_at-5.ensures i)
