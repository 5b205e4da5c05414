-- An array that is made by its places is the table of what its callee answers at each.
use Rattle.std.specs.Prelude.{◌≡◌, refl, List, [], ◌∷◌, ℕ, zero, suc, ◌+◌, ◌<◌, ◌≤◌, length, get_or}
use Rattle.std.proofs.Common.{ap₂, ◌∙◌, subst, arith}
use Rattle.std.specs.Fn.{Mut, Called}
use Rattle.std.proofs.Math.Nat.{suc_inj}
use Rattle.std.specs.Array.{IsFromFnResult, IsFromFnResultFrom}
use Rattle.lookup.specs.Tables.{tabled}

pub by_places : {B : Type 0} (n : ℕ) (ys : List B) (at : ℕ → B) → length ys ≡ n → ((i : ℕ) (d : B) → i < n → get_or ys i d ≡ at i) → ys ≡ tabled n at
by_places zero [] at e h = refl
by_places zero (y ∷ ys) at e h = absurd (omega arith)
by_places (suc n) [] at e h = absurd (omega arith)
by_places (suc n) (y ∷ ys) at e h =
    ap₂ ◌∷◌ (h 0 y (omega arith)) (by_places n ys (λ i. at (suc i)) (suc_inj e) (λ i d l. h (suc i) d (omega arith)))

-- the callee stays as it is
module _ {F B : Type 0} (g : Mut F (ℕ × Unit {0}) B) (f : F) (at : ℕ → B) where
  each_place : (m : ℕ) → ((i : ℕ) (y : B) (f' : F) → i < m → Called g f (i, tt) y f' → (y ≡ at i) × (f' ≡ f))
      → (ys : List B) (n i : ℕ) → i + n ≤ m → IsFromFnResultFrom g f ys i n → (k : ℕ) (d : B) → k < n → get_or ys (i + k) d ≡ at (i + k)
  each_place m h ys zero i l t k d b = absurd (omega arith)
  each_place m h ys (suc n) i l (q, y, e, c, t) zero d b =
      let z : i + 0 ≡ i = omega arith in
      rw z (e.1 d ∙ (h i y q (omega arith) c).0)
  each_place m h ys (suc n) i l (q, y, e, c, t) (suc k) d b =
      let s : i + suc k ≡ i + 1 + k = omega arith in
      let same = (h i y q (omega arith) c).1 in
      rw s (each_place m h ys n (i + 1) (omega arith) (subst (λ (p : F). IsFromFnResultFrom g p ys (i + 1) n) same t) k d (omega arith))

  pub made : (n : ℕ) (ys : List B) → ((i : ℕ) (y : B) (f' : F) → i < n → Called g f (i, tt) y f' → (y ≡ at i) × (f' ≡ f))
      → IsFromFnResult g f ys n → ys ≡ tabled n at
  made n ys h r = by_places n ys at r.long (λ i d l. let z : 0 + i ≡ i = omega arith in rw z at (each_place n h ys n 0 (omega arith) r.each i d l))
