-- How many characters are kept, and how they are moved.
use Prim.Native.Nat.{ℕ, zero, suc, ◌+◌, ◌-◌, ◌≤◌, ◌<◌, min}
use Rattle.std.specs.Prelude.{List, [], ◌∷◌, ◌≡◌, length, get_or, set}
use Rattle.std.proofs.Math.Path.{refl, sym, ap}
use Rattle.std.proofs.Common.{◌∙◌, length-take, get_or-drop, length-take-le, zero-add, add-one, arith}
use Rattle.std.proofs.Math.ListN.{take, drop, length-drop}
use Rattle.std.proofs.Math.Seq.{paste, paste-suc, take-nil, take-length}
use Rattle.std.proofs.lemmas.List.Edits.{drop-paste}
use Rattle.std.proofs.Math.Nat.{zero-min, min-zero, suc-min-suc}
use Rattle.wire.specs.Bytes.{part, laid}
use Rattle.blocks.specs.Rest.{rest_of}

take_min : (m k : ℕ) (l : List ℕ) → take m (take k l) ≡ take (min m k) l
take_min zero k l = ap (λ (n : ℕ). take n l) (sym (zero-min k))
take_min (suc m) zero l = ap (λ (n : ℕ). take n l) (sym (min-zero (suc m)))
take_min (suc m) (suc k) [] = sym (take-nil (min (suc m) (suc k)))
take_min (suc m) (suc k) (x ∷ xs) = ap (λ (r : List ℕ). x ∷ r) (take_min m k xs) ∙ ap (λ (n : ℕ). take n (x ∷ xs)) (sym (suc-min-suc m k))

-- no more than there are
take_there : (m : ℕ) (l : List ℕ) → take (min m (length l)) l ≡ take m l
take_there m l = sym (take_min m (length l) l) ∙ ap (take m) (take-length l)

pub counted : (buf : List ℕ) (read end : ℕ) {x y t n : ℕ} → x ≡ end - read → y ≡ length buf - read → t ≡ min x y → n ≡ min 1025 t
    → n ≡ min 1025 (min (end - read) (length buf - read))
counted buf read end ex ey et en = rw (en, et, ex, ey) refl

-- the rest is as many characters as the code counts
module _ (buf : List ℕ) (read end n : ℕ) (e : n ≡ min 1025 (min (end - read) (length buf - read))) where
  pub length_rest : n ≡ length (rest_of buf read end)
  unfolding rest_of
  length_rest = e ∙ sym (length-take 1025 (part buf read end) ∙ ap (min 1025) (length-take (end - read) (drop read buf) ∙ ap (min (end - read)) (length-drop read buf)))

  pub rest_counted : take n (drop read buf) ≡ rest_of buf read end
  unfolding rest_of
  rest_counted =
      let l = drop read buf in
      let x = min (end - read) (length l) in
      let k : n ≡ min 1025 x = e ∙ ap (λ (y : ℕ). min 1025 (min (end - read) y)) (sym (length-drop read buf)) in
      ap (λ (m : ℕ). take m l) k ∙ sym (take_min 1025 x l) ∙ ap (take 1025) (take_there (end - read) l)

-- moving characters of d down, one by one: s is what stands from place from on
module _ (d : List ℕ) (from : ℕ) where
  abbrev s : List ℕ
  s = drop from d

  -- a character that is moved was not written over before
  unmoved : (i : ℕ) → from + i < length d → get_or (paste d 0 s i) (from + i) 0 ≡ get_or s i 0
  unmoved i h =
      let l = length-drop from d in
      let e : 0 + i + from ≡ from + i = omega arith in
      let k = ap (λ (r : List ℕ). get_or r from 0) (drop-paste d 0 s i (omega arith) (omega arith)) in
      rw e at (sym (get_or-drop (0 + i) (paste d 0 s i) from 0) ∙ k ∙ get_or-drop (0 + i) d from 0) ∙ sym (get_or-drop from d i 0)

  pub moves : (i : ℕ) → from + i < length d → set (paste d 0 s i) i (get_or (paste d 0 s i) (from + i) 0) ≡ paste d 0 s (i + 1)
  moves i h =
      let l = length-drop from d in
      rw (unmoved i h, add-one) (ap (λ (k : ℕ). set (paste d 0 s i) k (get_or s i 0)) (sym (zero-add i)) ∙ paste-suc d 0 s i 0 (omega arith) (omega arith))

  pub moved : (n : ℕ) → n ≤ length d - from → paste d 0 s n ≡ laid d 0 (take n s)
  unfolding laid
  moved n h = let l = length-drop from d in rw (length-take-le n s (omega arith)) refl

-- where anything is kept, it begins behind what was read
pub same_cut : (d : List ℕ) (from read n : ℕ) → (0 < n → from ≡ read) → take n (drop from d) ≡ take n (drop read d)
same_cut d from read zero h = refl
same_cut d from read (suc n) h = ap (λ k. take (suc n) (drop k d)) (h (omega arith))
