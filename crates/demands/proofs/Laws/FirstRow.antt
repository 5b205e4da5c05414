-- A table of reasons: the status is ok exactly where none applies, and else that of the first that does.
use Rattle.std.specs.Prelude.{ℕ, Bool, true, false, not, ◌&&◌, List, [], ◌∷◌, ◌++◌, ◌≡◌, refl, eqb}
use Rattle.std.proofs.Common.{sym, ◌∙◌, ap}
use Rattle.std.proofs.lemmas.Bool.{eqb-false, not-true}
use Rattle.tables.specs.Choice.{picked, passed, pick_both, and_yes}
use Rattle.tables.specs.Reasons.{Reason, first, NoReason, refusals}
use Rattle.demands.specs.Demands.{FirstRow, among}

pub first_found : (rows : List Reason) (ok s : ℕ) → first rows ok ≡ s → (s ≡ ok → ⊥) → FirstRow rows s
first_found [] ok s e n = absurd (n (sym e))
first_found (r ∷ rs) ok s e n = by r.applies refl (λ h. first_found rs ok s h n)
  where
    by : (b : Bool) → r.applies ≡ b → (first rs ok ≡ s → FirstRow rs s) → FirstRow (r ∷ rs) s
    by true a go = record { above = []; row = r; below = rs; place = refl; none_above = tt; applies = a; names = sym (picked _ _ a) ∙ e }
    by false a go =
        let h = go (sym (passed _ _ a) ∙ e) in
        record { above = r ∷ h.above; row = h.row; below = h.below; place = ap (λ (l : List Reason). r ∷ l) h.place; none_above = (a, h.none_above); applies = h.applies; names = h.names }

-- above, row, below: the status is the row's
names_first : (above : List Reason) (r : Reason) (below : List Reason) (ok : ℕ) → NoReason above → r.applies ≡ true → first (above ++ (r ∷ below)) ok ≡ r.status
names_first [] r below ok n a = picked _ _ a
names_first (x ∷ xs) r below ok (n, ns) a = passed _ _ n ∙ names_first xs r below ok ns a

refuses_not_ok : (above : List Reason) (r : Reason) (below : List Reason) (ok : ℕ) → refusals (above ++ (r ∷ below)) ok ≡ true → r.status ≡ ok → ⊥
refuses_not_ok [] r below ok e = eqb-false _ _ (not-true _ (and_yes (not (eqb r.status ok)) _ e).0)
refuses_not_ok (x ∷ xs) r below ok e = refuses_not_ok xs r below ok (and_yes (not (eqb x.status ok)) _ e).1

pub found_first : (rows : List Reason) (ok s : ℕ) → refusals rows ok ≡ true → FirstRow rows s → (first rows ok ≡ s) × (s ≡ ok → ⊥)
found_first rows ok s e h =
    let q : refusals (h.above ++ (h.row ∷ h.below)) ok ≡ true = rw h.place at e in
    (rw h.place (names_first h.above h.row h.below ok h.none_above h.applies) ∙ h.names, λ z. refuses_not_ok h.above h.row h.below ok q (h.names ∙ z))

-- ---- the status is a listed one

abbrev pub all_listed : List Reason → List ℕ → Bool
all_listed [] l = true
all_listed (r ∷ rs) l = among r.status l && all_listed rs l

pub first_listed : (rows : List Reason) (ok : ℕ) (l : List ℕ) → all_listed rows l ≡ true → among ok l ≡ true → among (first rows ok) l ≡ true
first_listed [] ok l e k = k
first_listed (r ∷ rs) ok l e k =
    let h = and_yes (among r.status l) (all_listed rs l) e in
    pick_both (λ (s : ℕ). among s l ≡ true) r.applies r.status (first rs ok) h.0 (first_listed rs ok l h.1 k)
