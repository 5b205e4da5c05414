-- Decryption undoes encryption, over any number of blocks, and both keep the number of bytes.
use Rattle.std.specs.Prelude.{◌≡◌, refl, List, ◌++◌, ℕ, zero, suc, ◌+◌, ◌-◌, ◌*◌, ◌/◌, length, take, drop}
use Rattle.std.proofs.Math.Path.{ap}
use Rattle.std.proofs.Common.{ap₂, ◌∙◌, arith, length-append, length-drop, take-append-drop, length-take-le, take_at, drop_at}
use Rattle.field.specs.Bytes.{Sized, Block, ◌⊞◌, zeros}
use Rattle.field.proofs.Laws.{append_bytes, take_bytes, drop_bytes, elements, sum_block, block_twice, length_sum, zeros_block}
use Rattle.fips197.specs.Keys.{key_expansion}
use Rattle.fips197.specs.Cipher.{cipher, inv_cipher}
use Rattle.fips197.specs.Decrypts.{decrypts, encrypted_block, length_cipher}
use Rattle.cbc.specs.Cbc.{encrypted_from, decrypted_from, encrypted, decrypted}

-- ---- a text of n + 1 blocks is a block and a text of n

first_block : (n : ℕ) (x : List ℕ) → Sized (16 * suc n) x → Block (take 16 x)
first_block n x h =
    let e : length x ≡ 16 * suc n = h.long in
    record { long = length-take-le 16 x (omega arith); bytes = take_bytes 16 x h.bytes }

other_blocks : (n : ℕ) (x : List ℕ) → Sized (16 * suc n) x → Sized (16 * n) (drop 16 x)
other_blocks n x h =
    let e : length x ≡ 16 * suc n = h.long in
    let d : length x - 16 ≡ 16 * n = omega arith in
    record { long = length-drop 16 x ∙ d; bytes = drop_bytes 16 x h.bytes }

block_more : (n : ℕ) (b x : List ℕ) → Block b → Sized (16 * n) x → Sized (16 * suc n) (b ++ x)
block_more n b x hb hx =
    let e : 16 + 16 * n ≡ 16 * suc n = omega arith in
    record {
      long = length-append b x ∙ ap₂ (λ (i j : ℕ). i + j) hb.long hx.long ∙ e;
      bytes = append_bytes b x hb.bytes hx.bytes;
    }

blocks_of : (n : ℕ) (x : List ℕ) → Sized (16 * n) x → length x / 16 ≡ n
blocks_of n x h = let e : length x ≡ 16 * n = h.long in omega arith

-- ---- whatever the text, so many blocks come out as it has

pub length_encrypted_from : (w : List (List ℕ)) (n : ℕ) (c x : List ℕ) → length (encrypted_from w c n x) ≡ 16 * n
length_encrypted_from w zero c x = refl
length_encrypted_from w (suc n) c x =
    let e = cipher w (take 16 x ⊞ c) in
    let l = length-append e (encrypted_from w e n (drop 16 x)) in
    omega (arith, l, length_cipher w (take 16 x ⊞ c), length_encrypted_from w n e (drop 16 x))

pub length_decrypted_from : (w : List (List ℕ)) (n : ℕ) (c x : List ℕ) → length (decrypted_from w c n x) ≡ 16 * n
length_decrypted_from w zero c x = refl
length_decrypted_from w (suc n) c x =
    let d = inv_cipher w (take 16 x) ⊞ c in
    let l = length-append d (decrypted_from w (take 16 x) n (drop 16 x)) in
    omega (arith, l, length_sum (inv_cipher w (take 16 x)) c, length_decrypted_from w n (take 16 x) (drop 16 x))

pub length_encrypted : (k x : List ℕ) → length (encrypted k x) ≡ 16 * (length x / 16)
unfolding encrypted
length_encrypted k x = length_encrypted_from (key_expansion k) (length x / 16) zeros x

pub length_decrypted : (k x : List ℕ) → length (decrypted k x) ≡ 16 * (length x / 16)
unfolding decrypted
length_decrypted k x = length_decrypted_from (key_expansion k) (length x / 16) zeros x

-- ---- of bytes come bytes, and the text comes back

module _ (k : List ℕ) (hk : Block k) where
  abbrev w : List (List ℕ)
  w = key_expansion k

  next_block : (n : ℕ) (c x : List ℕ) → Block c → Sized (16 * suc n) x → Block (cipher w (take 16 x ⊞ c))
  next_block n c x hc hx =
      encrypted_block k (take 16 x ⊞ c) hk (sum_block (take 16 x) c (first_block n x hx).bytes hc.bytes)

  encrypted_from_sized : (n : ℕ) (c x : List ℕ) → Block c → Sized (16 * n) x → Sized (16 * n) (encrypted_from w c n x)
  encrypted_from_sized zero c x hc hx = record { long = refl; bytes = tt }
  encrypted_from_sized (suc n) c x hc hx =
      let e = cipher w (take 16 x ⊞ c) in
      let he = next_block n c x hc hx in
      block_more n e (encrypted_from w e n (drop 16 x)) he (encrypted_from_sized n e (drop 16 x) he (other_blocks n x hx))

  undone_from : (n : ℕ) (c x : List ℕ) → Block c → Sized (16 * n) x → decrypted_from w c n (encrypted_from w c n x) ≡ x
  undone_from zero c x hc hx = elements 0 x hx.long
  undone_from (suc n) c x hc hx =
      let p = take 16 x in
      let e = cipher w (p ⊞ c) in
      let r = encrypted_from w e n (drop 16 x) in
      let hp = first_block n x hx in
      let he = next_block n c x hc hx in
      ap₂ (λ (u v : List ℕ). (inv_cipher w u ⊞ c) ++ decrypted_from w u n v) (take_at e r 16 he.long) (drop_at e r 16 he.long)
      ∙ ap₂ ◌++◌
      (ap (λ (u : List ℕ). u ⊞ c) (decrypts k (p ⊞ c) hk (sum_block p c hp.bytes hc.bytes)) ∙ block_twice p c hp.long)
      (undone_from n e (drop 16 x) he (other_blocks n x hx))
      ∙ take-append-drop 16 x

  module _ (n : ℕ) (x : List ℕ) (hx : Sized (16 * n) x) where
    pub encrypted_sized : Sized (16 * n) (encrypted k x)
    unfolding encrypted
    encrypted_sized = rw (blocks_of n x hx) (encrypted_from_sized n zeros x zeros_block hx)

  pub undone : (n : ℕ) (x : List ℕ) → Sized (16 * n) x → decrypted k (encrypted k x) ≡ x
  unfolding encrypted decrypted
  undone n x hx =
      let h = encrypted_sized n x hx in
      ap (λ (m : ℕ). decrypted_from w zeros m (encrypted k x)) (blocks_of n (encrypted k x) h)
      ∙ ap (λ (m : ℕ). decrypted_from w zeros n (encrypted_from w zeros m x)) (blocks_of n x hx)
      ∙ undone_from n zeros x zeros_block hx
