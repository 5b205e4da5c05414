-- The round keys as they are written, step by step.
use mathlib.Core.Path.{◌≡◌, refl, sym, subst, ap, ap₂, ◌∙◌}
use mathlib.Core.List.{List, [], ◌∷◌}
use Prim.Native.Nat.{ℕ, zero, suc, ◌+◌, ◌<◌}
use native.Mathlib.Numerals.{add-one}
use lib.ListN.{length, get_or, set, replicate}
use Rattle.field.specs.Field.{◌⊕◌, xtime}
use Rattle.field.proofs.Laws.{elements}
use Rattle.lookup.specs.Tables.{tabled}
use Rattle.lookup.specs.Every.{agree}
use Rattle.fips197.specs.Keys.{power, joined}
use Rattle.fips197.specs.Schedule.{next_word, next_key, key_after}

-- the first n bytes of t are added to a key
abbrev pub begun : List ℕ → List ℕ → ℕ → List ℕ
begun w t zero = w
begun w t (suc n) = let v = begun w t n in set v n (get_or v n 0 ⊕ get_or t n 0)

-- n bytes behind the first four have the byte four places before them added
abbrev pub carried : List ℕ → ℕ → List ℕ
carried w zero = w
carried w (suc n) = let v = carried w n in set v (n + 4) (get_or v (n + 4) 0 ⊕ get_or v n 0)

pub whole_key : (k t : List ℕ) → length k ≡ 16 → carried (begun k t 4) 12 ≡ joined (tabled 4 (next_word t k))
whole_key k t e = subst (λ (k : List ℕ). carried (begun k t 4) 12 ≡ joined (tabled 4 (next_word t k))) (elements 16 k e) refl

-- n round keys behind the first
abbrev pub grown : List ℕ → ℕ → List (List ℕ)
grown k zero = replicate 11 k
grown k (suc n) = let w = grown k n in set w (n + 1) (next_key (power n) (get_or w n []))

-- the constants of the ten round keys behind the first
abbrev pub constants : List ℕ
constants = 0x01 ∷ 0x02 ∷ 0x04 ∷ 0x08 ∷ 0x10 ∷ 0x20 ∷ 0x40 ∷ 0x80 ∷ 0x1b ∷ 0x36 ∷ []

constant : (i : ℕ) → i < 10 → get_or constants i 0 ≡ power i
unfolding xtime
constant = agree 10 (λ i. get_or constants i 0) power tt

pub grows : (k next : List ℕ) (w : List (List ℕ)) (i : ℕ) → i < 10 → w ≡ grown k i → next ≡ next_key (get_or constants i 0) (get_or w i [])
    → set w (i + 1) next ≡ grown k (i + 1)
grows k next w i h e q =
    subst (λ (m : ℕ). set w (i + 1) next ≡ grown k m) (sym (add-one i))
    (ap₂ (λ (v : List (List ℕ)) (x : List ℕ). set v (i + 1) x) e
    (q ∙ ap₂ next_key (constant i h) (ap (λ (v : List (List ℕ)). get_or v i []) e)))

pub whole_schedule : (k : List ℕ) → grown k 10 ≡ tabled 11 (key_after k)
whole_schedule k = refl
