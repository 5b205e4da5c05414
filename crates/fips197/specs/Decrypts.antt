-- Decryption undoes encryption, for every key and block.
use Rattle.std.specs.Prelude.{◌≡◌, refl, ℕ, zero, suc, ◌+◌, ◌/◌, ◌%◌, length, get_or}
use Rattle.std.proofs.Math.Path.{ap}
use Rattle.std.proofs.Common.{◌∙◌}
use mathlib.Core.List.{List, []}
use Rattle.field.specs.Bytes.{Block}
use Rattle.field.proofs.Laws.{tabled_alike, block_twice, length_sum}
use Rattle.fips197.specs.Steps.{at, state, bytewise, sub_bytes, shift_rows, mix_columns, add_round_key, inv_sub_bytes, inv_shift_rows, inv_mix_columns}
use Rattle.fips197.specs.Keys.{key_expansion}
use Rattle.fips197.specs.Cipher.{round, rounds, cipher, inv_round, inv_rounds, inv_cipher}
use Rattle.fips197.specs.Substitution.{sbox_undone}
use Rattle.fips197.specs.Columns.{column_undone}
use Rattle.fips197.specs.Blocks.{whole, at_lt, sub_block, shift_block, mix_block, Keys, rounds_block, first_block, cipher_block}
use Rattle.fips197.specs.Schedule.{key_expansion_keys}

alike : {f g : ℕ → ℕ → ℕ} → ((r c : ℕ) → f r c ≡ g r c) → state f ≡ state g
alike h = tabled_alike 16 (λ i. h (i % 4) (i / 4))

module _ (s : List ℕ) (b : Block s) where
  shift_undone : inv_shift_rows (shift_rows s) ≡ s
  unfolding inv_shift_rows shift_rows
  shift_undone = whole s b.long

  sub_undone : inv_sub_bytes (sub_bytes s) ≡ s
  unfolding bytewise
  sub_undone = alike (λ r c. sbox_undone (at s r c) (at_lt s b.bytes r c)) ∙ whole s b.long

  mix_undone : inv_mix_columns (mix_columns s) ≡ s
  unfolding inv_mix_columns mix_columns
  mix_undone =
      let h = at_lt s b.bytes in
      alike
      (λ r c.
      column_undone (at s r c) (at s (r + 1) c) (at s (r + 2) c) (at s (r + 3) c) (h r c) (h (r + 1) c) (h (r + 2) c) (h (r + 3) c))
      ∙ whole s b.long

-- the first two steps of a round of Cipher
abbrev turned : List ℕ → List ℕ
turned s = shift_rows (sub_bytes s)

turned_block : (s : List ℕ) → Block s → Block (turned s)
turned_block s b = shift_block (sub_bytes s) (sub_block s b.bytes).bytes

turned_undone : (s : List ℕ) → Block s → inv_sub_bytes (inv_shift_rows (turned s)) ≡ s
turned_undone s b = ap inv_sub_bytes (shift_undone (sub_bytes s) (sub_block s b.bytes)) ∙ sub_undone s b

-- a round of InvCipher leads from behind one round's first steps to behind those of the round before
round_undone : (s k : List ℕ) → Block s → Block (round s k) → inv_round (turned (round s k)) k ≡ turned s
unfolding inv_round round
round_undone s k b d =
    let m = mix_block (turned s) (turned_block s b).bytes in
    ap (λ (x : List ℕ). inv_mix_columns (add_round_key x k)) (turned_undone (round s k) d)
    ∙ ap inv_mix_columns (block_twice (mix_columns (turned s)) k m.long) ∙ mix_undone (turned s) (turned_block s b)

module _ (w : List (List ℕ)) (q : Keys w) where
  rounds_undone : (s : List ℕ) → Block s → (n : ℕ) → inv_rounds w n (turned (rounds w s n)) ≡ turned s
  rounds_undone s b zero = refl
  rounds_undone s b (suc n) =
      ap (inv_rounds w n) (round_undone (rounds w s n) (get_or w (suc n) []) (rounds_block w q s b n) (rounds_block w q s b (suc n)))
      ∙ rounds_undone s b n

  cipher_undone : (b : List ℕ) → Block b → inv_cipher w (cipher w b) ≡ b
  unfolding inv_cipher cipher
  cipher_undone b h =
      let s = add_round_key b (get_or w 0 []) in
      let g = first_block w q b h.bytes in
      let t = turned_block (rounds w s 9) (rounds_block w q s g 9) in
      ap (λ (x : List ℕ). add_round_key (inv_sub_bytes (inv_shift_rows (inv_rounds w 9 x))) (get_or w 0 []))
      (block_twice (turned (rounds w s 9)) (get_or w 10 []) t.long)
      ∙ ap (λ (x : List ℕ). add_round_key (inv_sub_bytes (inv_shift_rows x)) (get_or w 0 [])) (rounds_undone s g 9)
      ∙ ap (λ (x : List ℕ). add_round_key x (get_or w 0 [])) (turned_undone s g)
      ∙ block_twice b (get_or w 0 []) h.long

module _ (k b : List ℕ) (hk : Block k) (hb : Block b) where
  pub decrypts : inv_cipher (key_expansion k) (cipher (key_expansion k) b) ≡ b
  decrypts = cipher_undone (key_expansion k) (key_expansion_keys k hk) b hb

  -- what is encrypted is a block
  pub encrypted_block : Block (cipher (key_expansion k) b)
  encrypted_block = cipher_block (key_expansion k) (key_expansion_keys k hk) b hb.bytes

-- whatever is encrypted, a block comes out
pub length_cipher : (w : List (List ℕ)) (b : List ℕ) → length (cipher w b) ≡ 16
unfolding cipher
length_cipher w b = length_sum _ _
