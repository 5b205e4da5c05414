-- What the functions lay together, element by element.
use Prim.Native.Nat.{ℕ}
use mathlib.Core.List.{List, [], ◌∷◌, ◌++◌}
use mathlib.Core.Path.{◌≡◌, refl}
use lib.ListN.{length, get_or, set, replicate}
use Rattle.tables.specs.Choice.{pick}
use Rattle.wire.specs.Bytes.{part, laid, laid_in}
use Rattle.wire.specs.Listed.{listed, by_elements}
use Rattle.cbc.specs.Cbc.{encrypted}
use Rattle.handshake.specs.Handshake.{rotated}
use Rattle.till.specs.Till.{second_part, second_frame}

abbrev pair_laid : List ℕ → List ℕ → List ℕ
pair_laid a b = set (laid_in (laid_in (replicate 32 0) 0 a) 16 (part b 1 16)) 31 (get_or b 0 0)

pair_laid_lem : (a b : List ℕ) → length a ≡ 16 → length b ≡ 16 → pair_laid a b ≡ a ++ rotated b
unfolding laid_in laid pick rotated
pair_laid_lem a b la lb =
    by_elements 16 (λ a. pair_laid a b ≡ a ++ rotated b)
    (λ f. by_elements 16 (λ b. pair_laid (listed 16 f) b ≡ listed 16 f ++ rotated b) (λ g. refl) b lb)
    a la

pub part_by : (k a b : List ℕ) {x₁ x₂ r : List ℕ} → length a ≡ 16 → length b ≡ 16
    → x₁ ≡ laid_in (replicate 32 0) 0 a → x₂ ≡ laid_in x₁ 16 (part b 1 16) → r ≡ encrypted k (set x₂ 31 (get_or b 0 0)) → r ≡ second_part k a b
unfolding second_part
part_by k a b la lb e₁ e₂ e = rw (e, e₂, e₁, pair_laid_lem a b la lb)

frame_laid : (d : List ℕ) → length d ≡ 32 → laid_in (laid_in (replicate 38 0) 0 (0x90 ∷ 0xAF ∷ 0x00 ∷ 0x00 ∷ 0x20 ∷ [])) 5 d ≡ second_frame d
unfolding laid_in laid pick second_frame
frame_laid = by_elements 32 (λ d. laid_in (laid_in (replicate 38 0) 0 (0x90 ∷ 0xAF ∷ 0x00 ∷ 0x00 ∷ 0x20 ∷ [])) 5 d ≡ 0x90 ∷ 0xAF ∷ 0x00 ∷ 0x00 ∷ 0x20 ∷ d ++ 0x00 ∷ []) (λ f. refl)

pub frame_by : (d : List ℕ) {x₁ x₂ : List ℕ} → length d ≡ 32
    → x₁ ≡ laid_in (replicate 38 0) 0 (0x90 ∷ 0xAF ∷ 0x00 ∷ 0x00 ∷ 0x20 ∷ []) → x₂ ≡ laid_in x₁ 5 d → x₂ ≡ second_frame d
frame_by d ld e₁ e₂ = rw (e₂, e₁) (frame_laid d ld)
