-- The card's five keys, of sixteen bytes each.
use Rattle.std.specs.Prelude.{ℕ, List, [], ◌∷◌, min, get_or, replicate}
use Rattle.keys.specs.declared.Keys.{Keys}

unfoldable pub zeros : Keys
zeros = record { all = replicate 16 0 ∷ replicate 16 0 ∷ replicate 16 0 ∷ replicate 16 0 ∷ replicate 16 0 ∷ [] }

-- the key of number n: 0 to 3, else 4
unfoldable pub key_at : Keys → ℕ → List ℕ
key_at k n = get_or k.all (min n 4) []
