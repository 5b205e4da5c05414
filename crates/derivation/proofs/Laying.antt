-- What the session vector is laid together from, element by element.
use Prim.Native.Nat.{ℕ}
use mathlib.Core.List.{List, [], ◌∷◌}
use mathlib.Core.Path.{◌≡◌, refl}
use lib.Bits.{bit_xor}
use lib.ListN.{length, get_or, take, replicate}
use Rattle.tables.specs.Choice.{pick}
use Rattle.wire.specs.Bytes.{part, laid, laid_in}
use Rattle.wire.specs.Listed.{listed, by_elements}
use Rattle.derivation.specs.Derivation.{xored, session_vector}

pub mixes : (a b : List ℕ) → length a ≡ 16 → length b ≡ 16
    → bit_xor (get_or a 2 0) (get_or b 0 0) ∷ bit_xor (get_or a 3 0) (get_or b 1 0) ∷ bit_xor (get_or a 4 0) (get_or b 2 0) ∷ bit_xor (get_or a 5 0) (get_or b 3 0)
    ∷ bit_xor (get_or a 6 0) (get_or b 4 0) ∷ bit_xor (get_or a 7 0) (get_or b 5 0) ∷ [] ≡ xored (part a 2 8) (take 6 b)
mixes a b la lb = by_elements 16 (λ a. both a ≡ xored (part a 2 8) (take 6 b)) (λ f. by_elements 16 (λ b. mixed (listed 16 f) b ≡ xored (part (listed 16 f) 2 8) (take 6 b)) (λ g. refl) b lb) a la
  where
    mixed : List ℕ → List ℕ → List ℕ
    mixed a b =
        bit_xor (get_or a 2 0) (get_or b 0 0) ∷ bit_xor (get_or a 3 0) (get_or b 1 0) ∷ bit_xor (get_or a 4 0) (get_or b 2 0) ∷ bit_xor (get_or a 5 0) (get_or b 3 0)
        ∷ bit_xor (get_or a 6 0) (get_or b 4 0) ∷ bit_xor (get_or a 7 0) (get_or b 5 0) ∷ []

    both : List ℕ → List ℕ
    both a = mixed a b

abbrev vector_laid : List ℕ → List ℕ → List ℕ → List ℕ
vector_laid a six b =
    laid_in (laid_in (laid_in (laid_in (laid_in (replicate 32 0) 0 (0x5A ∷ 0xA5 ∷ 0x00 ∷ 0x01 ∷ 0x00 ∷ 0x80 ∷ [])) 6 (part a 0 2)) 8 six) 14 (part b 6 16)) 24 (part a 8 16)

pub vector_laid_lem : (a b : List ℕ) → length a ≡ 16 → length b ≡ 16 → vector_laid a (xored (part a 2 8) (take 6 b)) b ≡ session_vector a b
unfolding laid_in laid pick session_vector
vector_laid_lem a b la lb =
    by_elements 16 (λ a. vector_laid a (xored (part a 2 8) (take 6 b)) b ≡ session_vector a b)
    (λ f. by_elements 16 (λ b. vector_laid (listed 16 f) (xored (part (listed 16 f) 2 8) (take 6 b)) b ≡ session_vector (listed 16 f) b) (λ g. refl) b lb)
    a la

-- the same from what each step left
pub vector_by : (a b : List ℕ) {six v₁ v₂ v₃ v₄ v₅ : List ℕ} → length a ≡ 16 → length b ≡ 16 → six ≡ xored (part a 2 8) (take 6 b)
    → v₁ ≡ laid_in (replicate 32 0) 0 (0x5A ∷ 0xA5 ∷ 0x00 ∷ 0x01 ∷ 0x00 ∷ 0x80 ∷ []) → v₂ ≡ laid_in v₁ 6 (part a 0 2) → v₃ ≡ laid_in v₂ 8 six
    → v₄ ≡ laid_in v₃ 14 (part b 6 16) → v₅ ≡ laid_in v₄ 24 (part a 8 16) → v₅ ≡ session_vector a b
vector_by a b la lb e e₁ e₂ e₃ e₄ e₅ = rw (e₅, e₄, e₃, e₂, e₁, e) (vector_laid_lem a b la lb)
