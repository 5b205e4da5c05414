-- Each step of Cipher, and Cipher itself, gives a block of bytes.
use Rattle.std.specs.Prelude.{◌≡◌, List, [], ◌∷◌, ℕ, zero, suc, ◌+◌, ◌*◌, ◌/◌, ◌%◌, ◌<◌, length, get_or}
use Rattle.field.specs.Bytes.{Bytes, Block}
use Rattle.field.proofs.Laws.{byte_at, tabled_sized, elements, sum_block}
use Rattle.fips197.specs.Sbox.{sbox}
use Rattle.fips197.specs.Steps.{at, state, bytewise, sub_bytes, shift_rows, columnwise, mixed, mix_columns, add_round_key}
use Rattle.fips197.specs.Cipher.{round, rounds, cipher}
use Rattle.fips197.specs.Substitution.{sbox_lt}
use Rattle.fips197.specs.Columns.{mixed_lt}

-- a block is that of its bytes
pub whole : (s : List ℕ) → length s ≡ 16 → state (at s) ≡ s
whole s e = elements 16 s e

pub at_lt : (s : List ℕ) → Bytes s → (r c : ℕ) → at s r c < 256
at_lt s b r c = byte_at s b (r % 4 + 4 * (c % 4))

state_block : (f : ℕ → ℕ → ℕ) → ((r c : ℕ) → f r c < 256) → Block (state f)
state_block f h = tabled_sized 16 (λ i. f (i % 4) (i / 4)) (λ i. h (i % 4) (i / 4))

bytewise_block : (f : ℕ → ℕ) → ((a : ℕ) → a < 256 → f a < 256) → (s : List ℕ) → Bytes s → Block (bytewise f s)
unfolding bytewise
bytewise_block f h s b = state_block (λ r c. f (at s r c)) (λ r c. h (at s r c) (at_lt s b r c))

columnwise_block : (f : ℕ → ℕ → ℕ → ℕ → ℕ)
    → ((a b c d : ℕ) → a < 256 → b < 256 → c < 256 → d < 256 → f a b c d < 256) → (s : List ℕ) → Bytes s
    → Block (columnwise f s)
columnwise_block f h s b =
    state_block (λ r c. f (at s r c) (at s (r + 1) c) (at s (r + 2) c) (at s (r + 3) c))
    (λ r c.
    h (at s r c) (at s (r + 1) c) (at s (r + 2) c) (at s (r + 3) c) (at_lt s b r c) (at_lt s b (r + 1) c)
    (at_lt s b (r + 2) c) (at_lt s b (r + 3) c))

module _ (s : List ℕ) (b : Bytes s) where
  pub sub_block : Block (sub_bytes s)
  sub_block = bytewise_block sbox sbox_lt s b

  pub shift_block : Block (shift_rows s)
  unfolding shift_rows
  shift_block = state_block (λ r c. at s r (c + r)) (λ r c. at_lt s b r (c + r))

  pub mix_block : Block (mix_columns s)
  unfolding mix_columns
  mix_block = columnwise_block mixed mixed_lt s b

-- each round key is a block
abbrev pub Keys : List (List ℕ) → Type 0
Keys [] = Unit {0}
Keys (k ∷ w) = Block k × Keys w

pub key_at_lem : (w : List (List ℕ)) → Keys w → (i : ℕ) → Bytes (get_or w i [])
key_at_lem [] q i = tt
key_at_lem (k ∷ w) q zero = q.0.bytes
key_at_lem (k ∷ w) q (suc i) = key_at_lem w q.1 i

module _ (w : List (List ℕ)) (q : Keys w) where
  added : (n : ℕ) (s : List ℕ) → Bytes s → Block (add_round_key s (get_or w n []))
  added n s b = sum_block s (get_or w n []) b (key_at_lem w q n)

  round_block : (s : List ℕ) → Bytes s → (n : ℕ) → Block (round s (get_or w n []))
  unfolding round
  round_block s b n =
      added n (mix_columns (shift_rows (sub_bytes s)))
      (mix_block (shift_rows (sub_bytes s)) (shift_block (sub_bytes s) (sub_block s b).bytes).bytes).bytes

  pub rounds_block : (s : List ℕ) → Block s → (n : ℕ) → Block (rounds w s n)
  rounds_block s b zero = b
  rounds_block s b (suc n) = round_block (rounds w s n) (rounds_block s b n).bytes (suc n)

  pub first_block : (b : List ℕ) → Bytes b → Block (add_round_key b (get_or w 0 []))
  first_block = added 0

  pub cipher_block : (b : List ℕ) → Bytes b → Block (cipher w b)
  unfolding cipher
  cipher_block b h =
      let s = rounds w (add_round_key b (get_or w 0 [])) 9 in
      let d = rounds_block (add_round_key b (get_or w 0 [])) (first_block b h) 9 in
      added 10 (shift_rows (sub_bytes s)) (shift_block (sub_bytes s) (sub_block s d.bytes).bytes).bytes
