-- The key schedule a round key at a time: each round key from the one before.
use Rattle.std.specs.Prelude.{◌≡◌, refl, ℕ, zero, suc, ◌+◌, ◌-◌, ◌*◌, ◌/◌, ◌%◌, ◌<◌, length, get_or, drop}
use Rattle.std.proofs.Math.Path.{ap}
use Rattle.std.proofs.Common.{◌∙◌, arith, eq-eqb, ne_eqb, lit<}
use mathlib.Core.List.{List, [], ◌∷◌, ◌++◌}
use Rattle.tables.specs.Choice.{picked, passed}
use Rattle.lookup.specs.Tables.{tabled}
use Rattle.field.specs.Bytes.{Bytes, Block, sum}
use Rattle.field.proofs.Sums.{xtime_lt}
use Rattle.field.proofs.Laws.{byte_at, append_bytes, tabled_sized, tabled_alike, sum_sized}
use Rattle.fips197.specs.Sbox.{sbox}
use Rattle.fips197.specs.Steps.{at}
use Rattle.fips197.specs.Keys.{word, rot_word, sub_word, power, rcon, temp, onward, words, joined, round_key, key_expansion}
use Rattle.fips197.specs.Substitution.{sbox_lt}
use Rattle.fips197.specs.Blocks.{whole, at_lt, Keys}

-- what is added to the first word of k, where p is the first byte of Rcon
abbrev first_temp : ℕ → List ℕ → List ℕ
first_temp p k = sum 4 (sub_word (rot_word (word k 3))) (p ∷ 0 ∷ 0 ∷ 0 ∷ [])

-- the word i of the round key after k, where t is added to the first
abbrev pub next_word : List ℕ → List ℕ → ℕ → List ℕ
next_word t k zero = sum 4 (word k 0) t
next_word t k (suc i) = sum 4 (word k (suc i)) (next_word t k i)

-- the round key after k
unfoldable pub next_key : ℕ → List ℕ → List ℕ
next_key p k = joined (tabled 4 (next_word (first_temp p k) k))

-- the round key n, from the key
abbrev pub key_after : List ℕ → ℕ → List ℕ
key_after k zero = k
key_after k (suc n) = next_key (power n) (key_after k n)

-- ---- four words onward are one round key onward

temp_first : (i n : ℕ) (t : List ℕ) → i % 4 ≡ 0 → i / 4 ≡ suc n → temp i t ≡ sum 4 (sub_word (rot_word t)) (power n ∷ 0 ∷ 0 ∷ 0 ∷ [])
temp_first i n t e d =
    let f : i / 4 - 1 ≡ n = omega arith in
    picked (sum 4 (sub_word (rot_word t)) (rcon (i / 4))) t (eq-eqb (i % 4) 0 e)
    ∙ ap (λ (j : ℕ). sum 4 (sub_word (rot_word t)) (power j ∷ 0 ∷ 0 ∷ 0 ∷ [])) f

temp_other : (i : ℕ) (t : List ℕ) → (i % 4 ≡ 0 → ⊥) → temp i t ≡ t
temp_other i t e = passed (sum 4 (sub_word (rot_word t)) (rcon (i / 4))) t (ne_eqb (i % 4) 0 e)

abbrev push : List (List ℕ) → List ℕ → List (List ℕ)
push ws t = drop 1 ws ++ (sum 4 (get_or ws 0 []) t ∷ [])

-- a word whose temp is the word before
abbrev plain : List (List ℕ) → List (List ℕ)
plain ws = push ws (get_or ws 3 [])

onward_plain : (i : ℕ) (ws : List (List ℕ)) → (i % 4 ≡ 0 → ⊥) → onward i ws ≡ plain ws
onward_plain i ws e = ap (push ws) (temp_other i (get_or ws 3 []) e)

-- the numbers of four words, of which the first is a round key's first
module _ (k : List ℕ) (i i₁ i₂ i₃ n : ℕ) (e : i % 4 ≡ 0) (d : i / 4 ≡ suc n) (e₁ : i₁ % 4 ≡ 0 → ⊥) (e₂ : i₂ % 4 ≡ 0 → ⊥) (e₃ : i₃ % 4 ≡ 0 → ⊥) where
  four_onward : onward i₃ (onward i₂ (onward i₁ (onward i (tabled 4 (word k))))) ≡ tabled 4 (word (next_key (power n) k))
  unfolding next_key
  four_onward =
      ap (λ (ws : List (List ℕ)). onward i₃ (onward i₂ (onward i₁ ws))) (ap (push (tabled 4 (word k))) (temp_first i n (word k 3) e d))
      ∙ ap (λ (ws : List (List ℕ)). onward i₃ (onward i₂ ws)) (onward_plain i₁ w e₁)
      ∙ ap (onward i₃) (onward_plain i₂ (plain w) e₂) ∙ onward_plain i₃ (plain (plain w)) e₃
    where
      w : List (List ℕ)
      w = push (tabled 4 (word k)) (first_temp (power n) k)

words_are : (k : List ℕ) (n : ℕ) → words k (4 * n) ≡ tabled 4 (word (key_after k n))
words_are k zero = refl
words_are k (suc n) =
    let m = 4 * n in
    let e : 4 * suc n ≡ suc (suc (suc (suc m))) = omega arith in
    ap (words k) e
    ∙ ap (λ (ws : List (List ℕ)). onward (suc (suc (suc m)) + 4) (onward (suc (suc m) + 4) (onward (suc m + 4) (onward (m + 4) ws)))) (words_are k n)
    ∙ four_onward (key_after k n) (m + 4) (suc m + 4) (suc (suc m) + 4) (suc (suc (suc m)) + 4) n (omega arith) (omega arith)
    (λ p. omega arith) (λ p. omega arith) (λ p. omega arith)

-- ---- each round key is a block

power_lt : (i : ℕ) → power i < 256
power_lt zero = lit< tt
power_lt (suc i) = xtime_lt (power i)

module _ (p : ℕ) (hp : p < 256) (k : List ℕ) (b : Bytes k) where
  word_bytes : (i : ℕ) → Bytes (word k i)
  word_bytes i = (tabled_sized 4 (λ r. at k r i) (λ r. at_lt k b r i)).bytes

  temp_bytes : Bytes (first_temp p k)
  temp_bytes =
      let t = rot_word (word k 3) in
      let ht = (tabled_sized 4 (λ i. get_or (word k 3) ((i + 1) % 4) 0) (λ i. byte_at (word k 3) (word_bytes 3) ((i + 1) % 4))).bytes in
      let hs = (tabled_sized 4 (λ i. sbox (get_or t i 0)) (λ i. sbox_lt (get_or t i 0) (byte_at t ht i))).bytes in
      (sum_sized 4 (sub_word t) (p ∷ 0 ∷ 0 ∷ 0 ∷ []) hs (hp, (lit< tt, (lit< tt, (lit< tt, tt))))).bytes

  next_word_bytes : (i : ℕ) → Bytes (next_word (first_temp p k) k i)
  next_word_bytes zero = (sum_sized 4 (word k 0) (first_temp p k) (word_bytes 0) temp_bytes).bytes
  next_word_bytes (suc i) = (sum_sized 4 (word k (suc i)) (next_word (first_temp p k) k i) (word_bytes (suc i)) (next_word_bytes i)).bytes

  joined_bytes : (n : ℕ) (f : ℕ → List ℕ) → ((i : ℕ) → Bytes (f i)) → Bytes (joined (tabled n f))
  joined_bytes zero f h = tt
  joined_bytes (suc n) f h = append_bytes (f 0) (joined (tabled n (λ i. f (suc i)))) (h 0) (joined_bytes n (λ i. f (suc i)) (λ i. h (suc i)))

  next_block : Block (next_key p k)
  unfolding next_key
  next_block = record { long = refl; bytes = joined_bytes 4 (next_word (first_temp p k) k) next_word_bytes }

key_after_block : (k : List ℕ) → Block k → (n : ℕ) → Block (key_after k n)
key_after_block k b zero = b
key_after_block k b (suc n) = next_block (power n) (power_lt n) (key_after k n) (key_after_block k b n).bytes

key_after_long : (k : List ℕ) → length k ≡ 16 → (n : ℕ) → length (key_after k n) ≡ 16
unfolding next_key
key_after_long k e zero = e
key_after_long k e (suc n) = refl

round_key_is : (k : List ℕ) → length k ≡ 16 → (n : ℕ) → round_key k n ≡ key_after k n
unfolding round_key
round_key_is k e n = ap joined (words_are k n) ∙ whole (key_after k n) (key_after_long k e n)

-- the schedule of FIPS 197, a round key at a time
pub by_round_keys : (k : List ℕ) → length k ≡ 16 → key_expansion k ≡ tabled 11 (key_after k)
unfolding key_expansion
by_round_keys k e = tabled_alike 11 (round_key_is k e)

tabled_keys : (n : ℕ) (f : ℕ → List ℕ) → ((i : ℕ) → Block (f i)) → Keys (tabled n f)
tabled_keys zero f h = tt
tabled_keys (suc n) f h = (h 0, tabled_keys n (λ i. f (suc i)) (λ i. h (suc i)))

pub key_expansion_keys : (k : List ℕ) → Block k → Keys (key_expansion k)
key_expansion_keys k b = rw (by_round_keys k b.long) (tabled_keys 11 (key_after k) (key_after_block k b))
