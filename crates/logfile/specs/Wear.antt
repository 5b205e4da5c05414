-- How often a ring's slots are stored: for any machine with a place that turns on where slot bytes are stored, and stays where none are.
use Rattle.std.specs.Prelude.{ℕ, zero, suc, ◌+◌, List, [], ◌∷◌, eqb}
use Rattle.tables.specs.Choice.{pick}

-- an event that stored n slot bytes: 1 where it stored any
abbrev pub once : ℕ → ℕ
once zero = 0
once (suc n) = 1

-- the same for slot k, where the newest entry lies in slot p after it
abbrev pub once_in : ℕ → ℕ → ℕ → ℕ
once_in k p zero = 0
once_in k p (suc n) = pick (eqb p k) 1 0

module _ {S E : Type 0} (step : S → E → S) (stored : S → E → ℕ) (place : S → ℕ) where
  -- the stores of a history
  unfoldable pub stores : S → List E → ℕ
  stores s [] = 0
  stores s (e ∷ es) = once (stored s e) + stores (step s e) es

  -- those of slot k
  unfoldable pub stores_of : ℕ → S → List E → ℕ
  stores_of k s [] = 0
  stores_of k s (e ∷ es) = once_in k (place (step s e)) (stored s e) + stores_of k (step s e) es
