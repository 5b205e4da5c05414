-- Lists of bytes.
use Rattle.std.specs.Prelude.{ℕ, ◌<◌, List, [], ◌∷◌, ◌≡◌, length, get_or, replicate}
use Rattle.lookup.specs.Tables.{tabled}
use Rattle.field.specs.Field.{◌⊕◌}

-- each number is a byte
abbrev pub Bytes : List ℕ → Type 0
Bytes [] = Unit {0}
Bytes (a ∷ l) = (a < 256) × Bytes l

-- n bytes
pub record Sized (n : ℕ) (l : List ℕ) : Type 0 where
  pub long : length l ≡ n
  pub bytes : Bytes l

-- sixteen bytes
abbrev pub Block : List ℕ → Type 0
Block l = Sized 16 l

-- the sum of n bytes and n bytes, each to each
abbrev pub sum : ℕ → List ℕ → List ℕ → List ℕ
sum n a b = tabled n (λ i. get_or a i 0 ⊕ get_or b i 0)

infixl 65 ◌⊞◌
-- the sum of two blocks
unfoldable pub ◌⊞◌ : List ℕ → List ℕ → List ℕ
a ⊞ b = sum 16 a b

-- the block of zeros
abbrev pub zeros : List ℕ
zeros = replicate 16 0
