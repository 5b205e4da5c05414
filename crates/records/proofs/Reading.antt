-- What the loop of a read lays, entry by entry, and that it is what the journal shows.
use Prim.Native.Nat.{ℕ, zero, suc, ◌+◌, ◌-◌, ◌*◌, ◌≤◌, ◌<◌}
use mathlib.Core.Bool.{true, false, ◌||◌}
use mathlib.Core.List.{List, [], ◌∷◌, ◌++◌, append-nil, append_assoc, reverse, reverse-cons}
use mathlib.Core.Path.{◌≡◌, refl, sym, ◌∙◌}
use borrow.Author.Tests.{leb-false, ltb-false, lt-ltb, le-ltb}
use lib.Dec.{eqb, leb, ltb}
use lib.ListN.{length, length-append}
use native.Mathlib.Numerals.{add-one}
use native.Mathlib.Omega.{arith}
use Rattle.tables.specs.Choice.{pick, any, picked, passed, or_no, or_none, or_left, or_right}
use Rattle.wire.specs.Bytes.{part, laid, laid_in, outside_of, Shows}
use Rattle.wire.proofs.Laws.{laid_none, laid_room, laid_behind, length_laid}
use Rattle.logfile.specs.declared.Log.{Log}
use Rattle.logfile.specs.Journal.{joined, shown}
use Rattle.logfile.specs.Ring.{slot_at, slot, older, ringed}
use Rattle.logfile.specs.View.{view}
use Rattle.logfile.proofs.Entries.{length_slot, length_ringed, ringed_range}
use Rattle.records.specs.Shown.{oldest_first, shown_in}

-- ---- the loop

joined_append : (es fs : List (List ℕ)) → joined (es ++ fs) ≡ joined es ++ joined fs
unfolding joined
joined_append [] fs = refl
joined_append (e ∷ es) fs = rw (joined_append es fs, append_assoc e (joined es) (joined fs))

joined_last : (e : List ℕ) (es : List (List ℕ)) → joined (reverse (e ∷ es)) ≡ joined (reverse es) ++ e
unfolding joined
joined_last e es = rw (reverse-cons e es, joined_append (reverse es) (e ∷ []), append-nil e)

oldest_more : (bs : List ℕ) (p r k : ℕ) → oldest_first bs p r (suc k) ≡ oldest_first bs p (suc r) k ++ slot (p + 3 * r) bs
unfolding oldest_first ringed
oldest_more bs p r k =
    let m : older (p + 3 * r) ≡ p + 3 * suc r = omega arith in
    rw m (joined_last (slot (p + 3 * r) bs) (ringed k (p + 3 * suc r) bs))

length_oldest : (bs : List ℕ) (p r k : ℕ) → length bs ≡ 64 → length (oldest_first bs p r k) ≡ 16 * k
length_oldest bs p r zero h = unfold oldest_first ringed joined in refl
length_oldest bs p r (suc k) h =
    let l = length_oldest bs p (suc r) k h in
    let x = length_slot (p + 3 * r) bs h in
    rw (oldest_more bs p r k) (simp length-append (omega arith))

pub oldest_none : (b bs : List ℕ) (p r : ℕ) → b ≡ laid b 0 (oldest_first bs p r 0)
unfolding oldest_first ringed joined
oldest_none b bs p r = laid_none b

-- one entry more, laid behind those that are there
pub oldest_step : (b bs now : List ℕ) (p r n k : ℕ) → (length bs ≡ 64) × (r + n ≤ 4) × (64 ≤ length b) → k < n → now ≡ laid b 0 (oldest_first bs p (r + n - k) k)
    → laid_in now (16 * k) (part bs (slot_at (p + 3 * (r + n - (k + 1)))) (slot_at (p + 3 * (r + n - (k + 1))) + 16)) ≡ laid b 0 (oldest_first bs p (r + n - (k + 1)) (k + 1))
oldest_step b bs now p r n k (h, few, room) a q = rw (q, add-one) (step (r + n - suc k) (omega arith))
  where
    step : (t : ℕ) → t + suc k ≡ r + n → laid_in (laid b 0 (oldest_first bs p (r + n - k) k)) (16 * k) (part bs (slot_at (p + 3 * t)) (slot_at (p + 3 * t) + 16)) ≡ laid b 0 (oldest_first bs p t (suc k))
    step t e =
        let s : r + n - k ≡ suc t = omega arith in
        let z : slot_at (p + 3 * t) + 16 - slot_at (p + 3 * t) ≡ 16 = omega arith in
        let l = length_oldest bs p (suc t) k h in
        let x = length_slot (p + 3 * t) bs h in
        let f = length_laid b 0 (oldest_first bs p (suc t) k) (omega arith) in
        let i = laid_room (laid b 0 (oldest_first bs p (suc t) k)) (16 * k) (slot (p + 3 * t) bs) (omega arith) in
        let m = oldest_more bs p t k in
        rw (s, z) (cc (laid_behind b (oldest_first bs p (suc t) k) (slot (p + 3 * t) bs)))

-- all of them: the loop's end
pub oldest_all : (b bs now : List ℕ) (p r n k : ℕ) → (length bs ≡ 64) × (r + n ≤ 4) × (64 ≤ length b) → k ≤ n → n ≤ k → now ≡ laid b 0 (oldest_first bs p (r + n - k) k)
    → (now ≡ laid b 0 (oldest_first bs p r n)) × (16 * n ≡ length (oldest_first bs p r n))
oldest_all b bs now p r n k (h, few, room) up down q =
    let e : k ≡ n = omega arith in
    let m : r + n - n ≡ r = omega arith in
    (rw (e, m) at q, sym (length_oldest bs p r n h))

-- ---- the read

pub inside : (size off len : ℕ) → outside_of size off len ≡ false → (off < size) × (off + len ≤ size)
unfolding outside_of
inside size off len e =
    let h = or_no (leb size off) (ltb size (off + len)) e in
    (leb-false size off h.0, ltb-false size (off + len) h.1)

pub at_most : {n m k : ℕ} → n ≤ m → m ≤ k → n ≤ k
at_most a b = omega arith

module _ (b : List ℕ) (l : Log) (r c : ℕ) where
  -- nothing is shown where one of the tests holds
  shows_nothing : any (ltb (length b) 64 ∷ ltb 4 l.count ∷ outside_of l.count r c ∷ []) ≡ true → Shows (shown_in (length b) l r c) b b 0
  unfolding shown_in
  shows_nothing h = rw (picked [] (shown (view l) r c) h) (laid_none b, refl)

  pub shows_in_no_room : length b < 64 → Shows (shown_in (length b) l r c) b b 0
  shows_in_no_room h = shows_nothing (or_left (ltb (length b) 64 || ltb 4 l.count) (outside_of l.count r c) (or_left (ltb (length b) 64) (ltb 4 l.count) (lt-ltb _ _ h)))

  pub shows_of_too_many : 4 < l.count → Shows (shown_in (length b) l r c) b b 0
  shows_of_too_many h = shows_nothing (or_left (ltb (length b) 64 || ltb 4 l.count) (outside_of l.count r c) (or_right (ltb (length b) 64) (ltb 4 l.count) (lt-ltb _ _ h)))

  pub shows_outside : outside_of l.count r c ≡ true → Shows (shown_in (length b) l r c) b b 0
  shows_outside h = shows_nothing (or_right (ltb (length b) 64 || ltb 4 l.count) (outside_of l.count r c) h)

  -- else it is what the loop lays
  pub shows : (n : ℕ) → 64 ≤ length b → l.count ≤ 4 → outside_of l.count r c ≡ false → (n ≡ pick (eqb c 0) (l.count - r) c) × (r + n ≤ l.count)
      → {after : List ℕ} {size : ℕ} → (after ≡ laid b 0 (oldest_first l.slots l.place r n)) × (size ≡ length (oldest_first l.slots l.place r n)) → Shows (shown_in (length b) l r c) b after size
  unfolding shown_in shown view oldest_first
  shows n big few o (q, h) (e, f) = (rw s e, rw s f)
    where
      s : shown_in (length b) l r c ≡ oldest_first l.slots l.place r n
      s =
          passed [] (shown (view l) r c) (or_none _ _ (or_none _ _ (le-ltb _ _ big) (le-ltb _ _ few)) o)
          ∙ rw (length_ringed l.count l.place l.slots, ← q, ringed_range r n l.count l.place l.slots h)
