-- Laws of lists of bytes.
use Rattle.std.specs.Prelude.{◌≡◌, refl, List, [], ◌∷◌, ◌++◌, ℕ, zero, suc, ◌+◌, ◌<◌, length, get_or, take, drop, set}
use Rattle.std.proofs.Common.{sym, ap, ap₂, ◌∙◌, add-one, arith, lit<, length-append, take-suc-set}
use Rattle.std.proofs.Math.Nat.{suc_inj}
use Rattle.std.proofs.lemmas.Nat.{xor_comm}
use Rattle.field.specs.Field.{◌⊕◌}
use Rattle.lookup.specs.Tables.{tabled}
use Rattle.field.specs.Bytes.{Bytes, Sized, Block, sum, ◌⊞◌, zeros}
use Rattle.field.proofs.Sums.{sum_assoc, sum_twice, sum_lt}

infixr 5 ◌∷≡◌
-- two lists are equal, element by element
pub ◌∷≡◌ : {A : Type 0} {a b : A} {u v : List A} → a ≡ b → u ≡ v → a ∷ u ≡ b ∷ v
p ∷≡ q = ap₂ ◌∷◌ p q

pub byte_at : (l : List ℕ) → Bytes l → (i : ℕ) → get_or l i 0 < 256
byte_at [] b i = lit< tt
byte_at (a ∷ l) b zero = b.0
byte_at (a ∷ l) b (suc i) = byte_at l b.1 i

pub append_bytes : (u v : List ℕ) → Bytes u → Bytes v → Bytes (u ++ v)
append_bytes [] v p q = q
append_bytes (a ∷ u) v p q = (p.0, append_bytes u v p.1 q)

pub append_sized : (m n : ℕ) (u v : List ℕ) → Sized m u → Sized n v → Sized (m + n) (u ++ v)
append_sized m n u v p q =
    record {
      long = length-append u v ∙ (λ i. p.long i + q.long i);
      bytes = append_bytes u v p.bytes q.bytes;
    }

pub take_bytes : (n : ℕ) (l : List ℕ) → Bytes l → Bytes (take n l)
take_bytes zero l b = tt
take_bytes (suc n) [] b = tt
take_bytes (suc n) (a ∷ l) b = (b.0, take_bytes n l b.1)

pub drop_bytes : (n : ℕ) (l : List ℕ) → Bytes l → Bytes (drop n l)
drop_bytes zero l b = b
drop_bytes (suc n) [] b = tt
drop_bytes (suc n) (a ∷ l) b = drop_bytes n l b.1

pub tabled_alike : {A : Type 0} (n : ℕ) {f g : ℕ → A} → ((i : ℕ) → f i ≡ g i) → tabled n f ≡ tabled n g
tabled_alike zero h = refl
tabled_alike (suc n) h = h 0 ∷≡ tabled_alike n (λ i. h (suc i))

tabled_next : {A : Type 0} (n : ℕ) (f : ℕ → A) → tabled (suc n) f ≡ tabled n f ++ f n ∷ []
tabled_next zero f = refl
tabled_next (suc n) f = refl ∷≡ tabled_next n (λ i. f (suc i))

-- a list that begins with the first entries of a table, and the next one stored
pub stored_next : (f : ℕ → ℕ) (r : List ℕ) (i : ℕ) → i < length r → take i r ≡ tabled i f → take (i + 1) (set r i (f i)) ≡ tabled (i + 1) f
stored_next f r i h e = rw add-one (take-suc-set r i (f i) h ∙ ap (λ (l : List ℕ). l ++ f i ∷ []) e ∙ sym (tabled_next i f))

tabled_long : (n : ℕ) (f : ℕ → ℕ) → length (tabled n f) ≡ n
tabled_long zero f = refl
tabled_long (suc n) f = ap suc (tabled_long n (λ i. f (suc i)))

tabled_bytes : (n : ℕ) (f : ℕ → ℕ) → ((i : ℕ) → f i < 256) → Bytes (tabled n f)
tabled_bytes zero f h = tt
tabled_bytes (suc n) f h = (h 0, tabled_bytes n (λ i. f (suc i)) (λ i. h (suc i)))

pub tabled_sized : (n : ℕ) (f : ℕ → ℕ) → ((i : ℕ) → f i < 256) → Sized n (tabled n f)
tabled_sized n f h = record { long = tabled_long n f; bytes = tabled_bytes n f h }

-- a list of n is the table of its elements
pub elements : (n : ℕ) (l : List ℕ) → length l ≡ n → tabled n (λ i. get_or l i 0) ≡ l
elements zero [] e = refl
elements zero (a ∷ l) e = absurd (not_zero e)
  where
    not_zero : suc (length l) ≡ 0 → ⊥
    not_zero p = omega arith
elements (suc n) [] e = absurd (not_suc e)
  where
    not_suc : 0 ≡ suc n → ⊥
    not_suc p = omega arith
elements (suc n) (a ∷ l) e = ap (λ (t : List ℕ). a ∷ t) (elements n l (suc_inj e))

pub sum_sized : (n : ℕ) (a b : List ℕ) → Bytes a → Bytes b → Sized n (sum n a b)
sum_sized n a b p q =
    tabled_sized n (λ i. get_or a i 0 ⊕ get_or b i 0) (λ i. sum_lt (get_or a i 0) (get_or b i 0) (byte_at a p i) (byte_at b q i))

pub sum_block : (a b : List ℕ) → Bytes a → Bytes b → Block (a ⊞ b)
unfolding ◌⊞◌
sum_block a b p q = sum_sized 16 a b p q

-- a block that is added twice is gone
pub block_twice : (a k : List ℕ) → length a ≡ 16 → (a ⊞ k) ⊞ k ≡ a
unfolding ◌⊞◌
block_twice a k e = tabled_alike 16 (λ i. sum_twice (get_or a i 0) (get_or k i 0)) ∙ elements 16 a e

-- a sum of three blocks in another order
pub block_moved : (a b c : List ℕ) → (a ⊞ b) ⊞ c ≡ a ⊞ (c ⊞ b)
unfolding ◌⊞◌
block_moved a b c =
    tabled_alike 16
    (λ i. sum_assoc (get_or a i 0) (get_or b i 0) (get_or c i 0) ∙ ap (λ (x : ℕ). get_or a i 0 ⊕ x) (xor_comm (get_or b i 0) (get_or c i 0)))

pub length_sum : (a b : List ℕ) → length (a ⊞ b) ≡ 16
unfolding ◌⊞◌
length_sum a b = refl

pub zeros_block : Block zeros
zeros_block = tabled_sized 16 (λ i. 0) (λ i. lit< tt)
