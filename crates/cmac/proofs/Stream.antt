-- A message that is taken byte by byte and ended has its CMAC.
use mathlib.Core.Path.{◌≡◌, refl, ap, ap₂, ◌∙◌, sym}
use mathlib.Core.Logic.{⊎_elim}
use mathlib.Core.List.{List, [], ◌∷◌, ◌++◌}
use Prim.Native.Nat.{ℕ, zero, suc, ◌+◌, ◌-◌, ◌/◌, ◌≤◌, ◌<◌}
use native.Mathlib.Nat.{not-suc-le-zero, suc_inj, eq-or-lt_of_le}
use native.Mathlib.Numerals.{add-one}
use native.Mathlib.Omega.{arith}
use borrow.Author.Tests.{lt-ltb, le-ltb, eq-eqb, ne_eqb}
use lib.Bits.{xor_zero_r}
use lib.ListN.{length, get_or, take, drop, set, replicate, length-append, length-drop, length-set, length-replicate, take-append-drop}
use lib.Seq.{drop-cons, append_snoc, take-suc, take-suc-set, drop-set-lt, length-take-le}
use Rattle.tables.specs.Choice.{picked, passed}
use Rattle.field.specs.Field.{◌⊕◌}
use Rattle.field.specs.Bytes.{sum, ◌⊞◌, zeros}
use Rattle.field.proofs.Laws.{◌∷≡◌, block_moved}
use Rattle.fips197.specs.Keys.{key_expansion}
use Rattle.fips197.specs.Cipher.{cipher}
use Rattle.cmac.specs.Cmac.{first_subkey, second_subkey, subkey1, subkey2, padded, last_block, chain, cmac}
use Rattle.fips197.specs.Decrypts.{length_cipher}
use Rattle.cmac.specs.declared.Held.{Held}
use Rattle.cmac.specs.Fed.{put, holding, step, fed, closed}

-- ---- bytes added to the front of a block

abbrev onto : List ℕ → List ℕ → List ℕ
onto c [] = c
onto [] (a ∷ p) = []
onto (x ∷ c) (a ∷ p) = (x ⊕ a) ∷ onto c p

onto_sum : (n : ℕ) (c p : List ℕ) → length c ≡ n → length p ≡ n → onto c p ≡ sum n c p
onto_sum zero [] [] h e = refl
onto_sum zero [] (a ∷ p) h e = refl
onto_sum zero (x ∷ c) p h e = absurd (not_zero h)
  where
    not_zero : suc (length c) ≡ 0 → ⊥
    not_zero q = omega arith
onto_sum (suc n) [] p h e = absurd (not_suc h)
  where
    not_suc : 0 ≡ suc n → ⊥
    not_suc q = omega arith
onto_sum (suc n) (x ∷ c) [] h e = absurd (not_suc e)
  where
    not_suc : 0 ≡ suc n → ⊥
    not_suc q = omega arith
onto_sum (suc n) (x ∷ c) (a ∷ p) h e = refl ∷≡ onto_sum n c p (suc_inj h) (suc_inj e)

onto_block : (c p : List ℕ) → length c ≡ 16 → length p ≡ 16 → onto c p ≡ c ⊞ p
unfolding ◌⊞◌
onto_block c p h e = onto_sum 16 c p h e

onto_zeros : (n : ℕ) (c : List ℕ) → onto c (replicate n 0) ≡ c
onto_zeros zero c = refl
onto_zeros (suc n) [] = refl
onto_zeros (suc n) (x ∷ c) = xor_zero_r x ∷≡ onto_zeros n c

-- a byte behind those that were added
onto_behind : (n a : ℕ) (c p : List ℕ) → length p < length c → onto c (p ++ a ∷ replicate n 0) ≡ put (onto c p) (length p) a
onto_behind n a [] p h = absurd (not-suc-le-zero h)
onto_behind n a (x ∷ c) [] h = refl ∷≡ onto_zeros n c
onto_behind n a (x ∷ c) (b ∷ p) h = refl ∷≡ onto_behind n a c p (less h)
  where
    less : suc (length p) < suc (length c) → length p < length c
    less q = omega arith

module _ (w : List (List ℕ)) where
  -- ---- what is held

  pub fed_append : (s : Held) (u v : List ℕ) → fed w s (u ++ v) ≡ fed w (fed w s u) v
  fed_append s [] v = refl
  fed_append s (a ∷ u) v = fed_append (step w s a) u v

  -- one byte more
  pub fed_next : (s : Held) (m : List ℕ) (i : ℕ) → i < length m → fed w s (take (i + 1) m) ≡ step w (fed w s (take i m)) (get_or m i 0)
  fed_next s m i h = ap (fed w s) (ap (λ (n : ℕ). take n m) (add-one i) ∙ take-suc m i 0 h) ∙ fed_append s (take i m) (get_or m i 0 ∷ [])

  pub step_in : (c : List ℕ) (n a : ℕ) → n < 16 → step w (holding c n) a ≡ holding (put c n a) (n + 1)
  step_in c n a h = picked (holding (put c n a) (n + 1)) (holding (put (cipher w c) 0 a) 1) (lt-ltb n 16 h)

  -- a full block is encrypted first
  pub step_over : (c : List ℕ) (n a : ℕ) → 16 ≤ n → step w (holding c n) a ≡ holding (put (cipher w c) 0 a) 1
  step_over c n a h = passed (holding (put c n a) (n + 1)) (holding (put (cipher w c) 0 a) 1) (le-ltb n 16 h)

  step_full : (c : List ℕ) (n a : ℕ) → 16 ≤ n → step w (holding c n) a ≡ step w (holding (cipher w c) 0) a
  step_full c n a h = step_over c n a h ∙ sym (step_in (cipher w c) 0 a (omega arith))

  fed_full : (c m : List ℕ) → 0 < length m → fed w (holding c 16) m ≡ fed w (holding (cipher w c) 0) m
  fed_full c [] h = absurd (not-suc-le-zero h)
  fed_full c (a ∷ m) h = ap (λ (s : Held). fed w s m) (step_full c 16 a (omega arith))

  -- a part of a block
  fed_part : (p c : List ℕ) (n : ℕ) → length c ≡ 16 → n + length p ≤ 16
      → fed w (holding c n) p ≡ holding (take n c ++ onto (drop n c) p) (n + length p)
  fed_part [] c n h k = ap₂ holding (sym (take-append-drop n c)) (sym (add_nought n))
    where
      add_nought : (n : ℕ) → n + 0 ≡ n
      add_nought n = omega arith
  fed_part (a ∷ p) c n h k =
      let l : n < length c = omega arith in
      let v = get_or c n 0 ⊕ a in
      let e : length (set c n v) ≡ 16 = length-set c n v ∙ h in
      let e₁ : n + 1 ≡ suc n = omega arith in
      let e₂ : suc n + length p ≡ n + suc (length p) = omega arith in
      ap (λ (s : Held). fed w s p) (step_in c n a (omega arith) ∙ ap (holding (put c n a)) e₁)
      ∙ fed_part p (set c n v) (suc n) e (omega arith)
      ∙ ap₂ holding
      (ap₂ (λ (x y : List ℕ). x ++ onto y p) (take-suc-set c n v l) (drop-set-lt (suc n) c n v (omega arith))
      ∙ append_snoc (take n c) v (onto (drop (suc n) c) p)
      ∙ ap (λ (x : List ℕ). take n c ++ onto x (a ∷ p)) (sym (drop-cons c n 0 l)))
      e₂

  fed_front : (p c : List ℕ) → length c ≡ 16 → length p ≤ 16 → fed w (holding c 0) p ≡ holding (onto c p) (length p)
  fed_front p c h k = let e : 0 + length p ≡ length p = omega arith in fed_part p c 0 h (omega arith) ∙ ap (holding (onto c p)) e

  pub closed_short : (c : List ℕ) (n : ℕ) → n < 16 → closed w (holding c n) ≡ cipher w (put c n 0x80 ⊞ second_subkey w)
  unfolding closed
  closed_short c n h = picked _ _ (lt-ltb n 16 h)

  pub closed_full : (c : List ℕ) (n : ℕ) → 16 ≤ n → closed w (holding c n) ≡ cipher w (c ⊞ first_subkey w)
  unfolding closed
  closed_full c n h = passed _ _ (le-ltb n 16 h)

-- ---- the chain

module _ (k : List ℕ) where
  abbrev w : List (List ℕ)
  w = key_expansion k

  last_short : (c m : List ℕ) → length c ≡ 16 → length m < 16 → closed w (holding (onto c m) (length m)) ≡ cipher w (c ⊞ last_block k m)
  unfolding last_block subkey2
  last_short c m h l =
      let e : length (padded m) ≡ 16 = length-append m (0x80 ∷ replicate (15 - length m) 0) ∙ ap (λ (n : ℕ). length m + suc n) (length-replicate (15 - length m) 0) ∙ omega arith in
      closed_short w (onto c m) (length m) l
      ∙ ap (λ (x : List ℕ). cipher w (x ⊞ subkey2 k)) (sym (onto_behind (15 - length m) 0x80 c m (omega arith)) ∙ onto_block c (padded m) h e)
      ∙ ap (cipher w) (block_moved c (padded m) (subkey2 k))
      ∙ ap (λ (x : List ℕ). cipher w (c ⊞ x)) (sym (passed (subkey1 k ⊞ m) (subkey2 k ⊞ padded m) (ne_eqb (length m) 16 (λ p. omega arith))))

  last_full : (c m : List ℕ) → length c ≡ 16 → length m ≡ 16 → closed w (holding (onto c m) (length m)) ≡ cipher w (c ⊞ last_block k m)
  unfolding last_block subkey1
  last_full c m h e =
      closed_full w (onto c m) (length m) (omega arith)
      ∙ ap (λ (x : List ℕ). cipher w (x ⊞ subkey1 k)) (onto_block c m h e)
      ∙ ap (cipher w) (block_moved c m (subkey1 k))
      ∙ ap (λ (x : List ℕ). cipher w (c ⊞ x)) (sym (picked (subkey1 k ⊞ m) (subkey2 k ⊞ padded m) (eq-eqb (length m) 16 e)))

  chained : (n : ℕ) (c m : List ℕ) → length c ≡ 16 → (length m - 1) / 16 ≡ n → closed w (fed w (holding c 0) m) ≡ chain k n c m
  chained zero c m h e =
      let l : length m ≤ 16 = omega arith in
      ap (closed w) (fed_front w m c h l)
      ∙ ⊎_elim (last_full c m h) (last_short c m h) (eq-or-lt_of_le l)
  chained (suc n) c m h e =
      let l : length (take 16 m) ≡ 16 = length-take-le 16 m (omega arith) in
      let d = length-drop 16 m in
      let front = fed_front w (take 16 m) c h (omega arith) ∙ ap₂ holding (onto_block c (take 16 m) h l) l in
      ap (λ (x : List ℕ). closed w (fed w (holding c 0) x)) (sym (take-append-drop 16 m))
      ∙ ap (closed w)
      (fed_append w (holding c 0) (take 16 m) (drop 16 m) ∙ ap (λ (s : Held). fed w s (drop 16 m)) front
      ∙ fed_full w (c ⊞ take 16 m) (drop 16 m) (omega arith))
      ∙ chained n (cipher w (c ⊞ take 16 m)) (drop 16 m) (length_cipher w (c ⊞ take 16 m)) (omega arith)

  pub streamed : (m : List ℕ) → closed w (fed w (holding zeros 0) m) ≡ cmac k m
  unfolding cmac
  streamed m = chained ((length m - 1) / 16) zeros m refl refl
