-- Laws of entries: read from a ring's slots, laid into them, and joined.
use Prim.Native.Nat.{ℕ, zero, suc, ◌+◌, ◌-◌, ◌*◌, ◌%◌, ◌≤◌, min}
use Rattle.std.specs.Prelude.{Bool, true, false, ◌≡◌, ltb, length, take, drop}
use mathlib.Core.List.{List, [], ◌∷◌, reverse_aux, reverse}
use Rattle.std.proofs.Math.Path.{refl}
use Rattle.std.proofs.Common.{◌∙◌, ap, ltb-true, ltb-false, length-append, length-drop, length-take-le}
use native.Mathlib.Omega.{arith}
use Rattle.wire.specs.Bytes.{laid}
use Rattle.wire.proofs.Laws.{length_laid, laid_own, part_laid, part_before, part_behind}
use Rattle.logfile.specs.Journal.{joined}
use Rattle.logfile.specs.Ring.{slot_at, slot, older, newer, ringed, laid_round}
use Rattle.logfile.specs.Fit.{Sixteens}

-- ---- entries read

pub length_ringed : (n p : ℕ) (bs : List ℕ) → length (ringed n p bs) ≡ n
unfolding ringed
length_ringed zero p bs = refl
length_ringed (suc n) p bs = ap suc (length_ringed n (older p) bs)

pub take_ringed : (k n p : ℕ) (bs : List ℕ) → take k (ringed n p bs) ≡ ringed (min k n) p bs
unfolding ringed
take_ringed zero n p bs = let e : min 0 n ≡ 0 = omega arith in rw e
take_ringed (suc k) zero p bs = let e : min (suc k) 0 ≡ 0 = omega arith in rw e
take_ringed (suc k) (suc n) p bs = let e : min (suc k) (suc n) ≡ suc (min k n) = omega arith in rw (e, take_ringed k n (older p) bs)

drop_ringed : (k n p : ℕ) (bs : List ℕ) → drop k (ringed n p bs) ≡ ringed (n - k) (p + 3 * k) bs
unfolding ringed
drop_ringed zero n p bs = let e : n - 0 ≡ n = omega arith in let z : p + 3 * 0 ≡ p = omega arith in rw (e, z)
drop_ringed (suc k) zero p bs = let e : 0 - suc k ≡ 0 = omega arith in rw e
drop_ringed (suc k) (suc n) p bs =
    let e : suc n - suc k ≡ n - k = omega arith in
    let m : older p + 3 * k ≡ p + 3 * suc k = omega arith in
    drop_ringed k n (older p) bs ∙ rw (e, m)

-- c entries from entry r on
pub ringed_range : (r c n p : ℕ) (bs : List ℕ) → r + c ≤ n → take c (drop r (ringed n p bs)) ≡ ringed c (p + 3 * r) bs
ringed_range r c n p bs h =
    let e : min c (n - r) ≡ c = omega arith in
    rw (drop_ringed r n p bs, take_ringed c (n - r) (p + 3 * r) bs, e)

-- ---- entries laid

-- a slot is one of four
laid_round_lem : (bs : List ℕ) (p q : ℕ) (es : List (List ℕ)) → p % 4 ≡ q % 4 → laid_round bs p es ≡ laid_round bs q es
unfolding laid_round
laid_round_lem bs p q [] h = refl
laid_round_lem bs p q (e ∷ es) h = rw (h, laid_round_lem bs (older p) (older q) es (omega arith))

-- entries laid where they were read
pub laid_ringed : (n p : ℕ) (bs : List ℕ) → laid_round bs p (ringed n p bs) ≡ bs
unfolding ringed laid_round
laid_ringed zero p bs = refl
laid_ringed (suc n) p bs = rw (laid_ringed n (older p) bs) (laid_own bs (slot_at p) 16)

-- a new entry behind those that were read: its slot alone is stored
pub laid_newer : (n p : ℕ) (bs e : List ℕ) → laid_round bs (newer p) (e ∷ ringed n p bs) ≡ laid bs (slot_at (newer p)) e
unfolding laid_round
laid_newer n p bs e = rw (laid_round_lem bs (older (newer p)) p (ringed n p bs) (omega arith), laid_ringed n p bs)

-- ---- entries of 16 bytes

pub length_joined : (es : List (List ℕ)) → Sixteens es → length (joined es) ≡ 16 * length es
unfolding joined
length_joined [] h = refl
length_joined (e ∷ es) (h, hs) = let l = length_joined es hs in simp length-append (omega arith)

pub length_slot : (p : ℕ) (bs : List ℕ) → length bs ≡ 64 → length (slot p bs) ≡ 16
length_slot p bs h = length-take-le 16 (drop (slot_at p) bs) (simp length-drop (omega arith))

pub sixteens_ringed : (n p : ℕ) (bs : List ℕ) → length bs ≡ 64 → Sixteens (ringed n p bs)
unfolding ringed
sixteens_ringed zero p bs h = tt
sixteens_ringed (suc n) p bs h = (length_slot p bs h, sixteens_ringed n (older p) bs h)

pub length_round : (bs : List ℕ) (p : ℕ) (es : List (List ℕ)) → Sixteens es → length bs ≡ 64 → length (laid_round bs p es) ≡ 64
unfolding laid_round
length_round bs p [] s h = h
length_round bs p (e ∷ es) (s, ss) h =
    let l = length_round bs (older p) es ss h in
    length_laid (laid_round bs (older p) es) (slot_at p) e (omega arith) ∙ l

-- one, two and three slots before slot p are others
another : (p k : ℕ) → 1 ≤ k → k ≤ 3 → (p + 3 * k) % 4 ≡ p % 4 → ⊥
another p zero a b e = omega arith
another p (suc zero) a b e = omega arith
another p (suc (suc zero)) a b e = omega arith
another p (suc (suc (suc zero))) a b e = omega arith
another p (suc (suc (suc (suc k)))) a b e = omega arith

module _ (bs e : List ℕ) (p : ℕ) (h : length bs ≡ 64) (s : length e ≡ 16) where
  pub slot_same : slot p (laid bs (slot_at p) e) ≡ e
  slot_same = part_laid bs (slot_at p) e (omega arith) 16 s

  pub slot_other : (q : ℕ) → (q % 4 ≡ p % 4 → ⊥) → slot q (laid bs (slot_at p) e) ≡ slot q bs
  slot_other q n = by (ltb (q % 4) (p % 4)) refl
    where
      by : (b : Bool) → ltb (q % 4) (p % 4) ≡ b → slot q (laid bs (slot_at p) e) ≡ slot q bs
      by true t = let a = ltb-true (q % 4) (p % 4) t in part_before bs (slot_at p) e (omega arith) (slot_at q) 16 (omega arith)
      by false t = let a = ltb-false (q % 4) (p % 4) t in ap (λ (l : List ℕ). take 16 l) (part_behind bs (slot_at p) e (omega arith) (slot_at q) (omega arith))

  -- the k-th entry before slot p and those before it, as far as three
  apart : (n k : ℕ) → 1 ≤ k → k + n ≤ 4 → ringed n (p + 3 * k) (laid bs (slot_at p) e) ≡ ringed n (p + 3 * k) bs
  unfolding ringed
  apart zero k a b = refl
  apart (suc n) k a b =
      let m : older (p + 3 * k) ≡ p + 3 * suc k = omega arith in
      rw (m, slot_other (p + 3 * k) (another p k a (omega arith)), apart n (suc k) (omega arith) (omega arith))

pub ringed_laid : (bs : List ℕ) (p : ℕ) (es : List (List ℕ)) → Sixteens es → length es ≤ 4 → length bs ≡ 64 → ringed (length es) p (laid_round bs p es) ≡ es
unfolding ringed laid_round
ringed_laid bs p [] s f h = refl
ringed_laid bs p (e ∷ es) (s, ss) f h =
    let x = laid_round bs (older p) es in
    let l : length x ≡ 64 = length_round bs (older p) es ss h in
    rw (slot_same x e p l s, apart x e p l s (length es) 1 (omega arith) (omega arith), ringed_laid bs (older p) es ss (omega arith) h)

pub sixteens_take : (n : ℕ) (es : List (List ℕ)) → Sixteens es → Sixteens (take n es)
sixteens_take zero es h = tt
sixteens_take (suc n) [] h = tt
sixteens_take (suc n) (e ∷ es) (h, hs) = (h, sixteens_take n es hs)

pub sixteens_drop : (n : ℕ) (es : List (List ℕ)) → Sixteens es → Sixteens (drop n es)
sixteens_drop zero es h = h
sixteens_drop (suc n) [] h = tt
sixteens_drop (suc n) (e ∷ es) (h, hs) = sixteens_drop n es hs

sixteens_onto : (es fs : List (List ℕ)) → Sixteens es → Sixteens fs → Sixteens (reverse_aux es fs)
sixteens_onto [] fs h k = k
sixteens_onto (e ∷ es) fs (h, hs) k = sixteens_onto es (e ∷ fs) hs (h, k)

pub sixteens_reverse : (es : List (List ℕ)) → Sixteens es → Sixteens (reverse es)
sixteens_reverse es h = sixteens_onto es [] h tt
