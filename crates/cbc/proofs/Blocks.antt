-- A text block by block: one block more, and where it is laid.
use mathlib.Core.Path.{◌≡◌, refl, sym, ap, ◌∙◌}
use mathlib.Core.List.{List, [], ◌++◌, append-nil, append_assoc}
use Prim.Native.Nat.{ℕ, zero, suc, ◌+◌, ◌*◌, ◌/◌, ◌%◌, ◌≤◌, ◌<◌}
use native.Mathlib.Omega.{arith}
use lib.ListN.{length, take, drop, drop_of_length-le}
use lib.Seq.{drop-drop}
use Rattle.wire.specs.Bytes.{laid, laid_in}
use Rattle.wire.proofs.Laws.{laid_room, laid_further, length_laid}
use Rattle.field.specs.Bytes.{◌⊞◌}
use Rattle.fips197.specs.Cipher.{cipher, inv_cipher}
use Rattle.cbc.specs.Cbc.{encrypted_from, decrypted_from}

-- the block n of a text
abbrev pub block : ℕ → List ℕ → List ℕ
block n x = take 16 (drop (16 * n) x)

block_behind : (n : ℕ) (x : List ℕ) → block n (drop 16 x) ≡ block (suc n) x
block_behind n x =
    let e : 16 + 16 * n ≡ 16 * suc n = omega arith in
    ap (take 16) (drop-drop (16 * n) 16 x ∙ ap (λ (m : ℕ). drop m x) e)

module _ (w : List (List ℕ)) where
  -- the block before the block n
  abbrev pub last_sealed : List ℕ → ℕ → List ℕ → List ℕ
  last_sealed c zero x = c
  last_sealed c (suc n) x = last_sealed (cipher w (take 16 x ⊞ c)) n (drop 16 x)

  pub sealed_next : (c : List ℕ) (n : ℕ) (x : List ℕ) → last_sealed c (suc n) x ≡ cipher w (block n x ⊞ last_sealed c n x)
  sealed_next c zero x = refl
  sealed_next c (suc n) x =
      let e = cipher w (take 16 x ⊞ c) in
      sealed_next e n (drop 16 x) ∙ ap (λ (b : List ℕ). cipher w (b ⊞ last_sealed e n (drop 16 x))) (block_behind n x)

  pub encrypted_next : (c : List ℕ) (n : ℕ) (x : List ℕ) → encrypted_from w c (suc n) x ≡ encrypted_from w c n x ++ last_sealed c (suc n) x
  encrypted_next c zero x = append-nil (cipher w (take 16 x ⊞ c))
  encrypted_next c (suc n) x =
      let e = cipher w (take 16 x ⊞ c) in
      ap (λ (u : List ℕ). e ++ u) (encrypted_next e n (drop 16 x))
      ∙ sym (append_assoc e (encrypted_from w e n (drop 16 x)) (last_sealed e (suc n) (drop 16 x)))

  -- the same of a text that is decrypted
  abbrev pub last_block : List ℕ → ℕ → List ℕ → List ℕ
  last_block c zero x = c
  last_block c (suc n) x = last_block (take 16 x) n (drop 16 x)

  pub block_next : (c : List ℕ) (n : ℕ) (x : List ℕ) → last_block c (suc n) x ≡ block n x
  block_next c zero x = refl
  block_next c (suc n) x = block_next (take 16 x) n (drop 16 x) ∙ block_behind n x

  pub decrypted_next : (c : List ℕ) (n : ℕ) (x : List ℕ) → decrypted_from w c (suc n) x ≡ decrypted_from w c n x ++ (inv_cipher w (block n x) ⊞ last_block c n x)
  decrypted_next c zero x = append-nil (inv_cipher w (take 16 x) ⊞ c)
  decrypted_next c (suc n) x =
      let p = inv_cipher w (take 16 x) ⊞ c in
      let b = take 16 x in
      ap (λ (u : List ℕ). p ++ u)
      (decrypted_next b n (drop 16 x)
      ∙ ap (λ (v : List ℕ). decrypted_from w b n (drop 16 x) ++ (inv_cipher w v ⊞ last_block b n (drop 16 x))) (block_behind n x))
      ∙ sym (append_assoc p (decrypted_from w b n (drop 16 x)) (inv_cipher w (block (suc n) x) ⊞ last_block b n (drop 16 x)))

-- ---- laid over the text

pub laid_next : (x front b : List ℕ) (n : ℕ) → length front ≡ 16 * n → length b ≡ 16 → n < length x / 16
    → laid_in (laid x 0 front) (16 * n) b ≡ laid x 0 (front ++ b)
laid_next x front b n ef eb h =
    let room : 16 * n + length b ≤ length (laid x 0 front) = omega (arith, length_laid x 0 front (omega arith)) in
    let e : 16 * n ≡ 0 + length front = omega arith in
    laid_room (laid x 0 front) (16 * n) b room ∙ ap (λ (i : ℕ). laid (laid x 0 front) i b) e ∙ laid_further x 0 front b

pub laid_none : (x : List ℕ) → x ≡ laid x 0 []
unfolding laid
laid_none x = refl

pub laid_all : (x front : List ℕ) (n : ℕ) → length front ≡ 16 * n → laid x 0 front ≡ front ++ drop (16 * n) x
unfolding laid
laid_all x front n e = let z : 0 + length front ≡ 16 * n = omega arith in ap (λ (i : ℕ). front ++ drop i x) z

-- nothing is behind whole blocks
pub whole : (front x : List ℕ) (n : ℕ) → length x ≡ n → n % 16 ≡ 0 → front ++ drop (16 * (n / 16)) x ≡ front
whole front x n e h = ap (λ (u : List ℕ). front ++ u) (drop_of_length-le x (omega arith)) ∙ append-nil front
