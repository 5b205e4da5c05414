-- How often a ring's slots are stored: for any machine with a place that turns on where slot bytes are stored, and stays where none are.
use Rattle.std.specs.Prelude.{ℕ, zero, suc, ◌+◌, ◌*◌, ◌/◌, ◌%◌, ◌≤◌, ◌<◌, Bool, true, false, ◌≡◌, refl, eqb}
use mathlib.Core.List.{List, [], ◌∷◌}
use Rattle.std.proofs.Common.{sym, ◌∙◌, ap, eqb-true}
use native.Mathlib.Omega.{arith}
use Rattle.std.proofs.lemmas.Bool.{eqb-false}
use Rattle.tables.specs.Choice.{pick}
use Rattle.logfile.specs.Ring.{newer}
use Rattle.logfile.specs.View.{turned}
use Rattle.logfile.specs.Wear.{once, once_in, stores, stores_of}

-- the stores before slot k is due, where the newest entry lies in slot p
abbrev due : ℕ → ℕ → ℕ
due k p = (k + 3 * p + 3) % 4

due_now : (k p : ℕ) → k < 4 → due k p ≡ 0 → newer p ≡ k
due_now k p h e = omega arith

round_on : (m x : ℕ) → (m + 4 * x) % 4 ≡ m % 4
round_on m x = omega arith

round_three : (m x : ℕ) → (m + 3 * (x % 4)) % 4 ≡ (m + 3 * x) % 4
round_three m x =
    let e : m + 3 * x ≡ m + 3 * (x % 4) + 4 * (3 * (x / 4)) = omega arith in
    rw e (sym (round_on (m + 3 * (x % 4)) (3 * (x / 4))))

round_less : (m : ℕ) → 1 ≤ (m + 1) % 4 → (m + 1) % 4 ≡ m % 4 + 1
round_less m h = omega arith

due_less : (k p : ℕ) → 1 ≤ due k p → due k p ≡ due k (newer p) + 1
due_less k p e =
    let a : k + 3 * newer p + 3 ≡ k + 3 + 3 * newer p = omega arith in
    let b : k + 3 + 3 * (p + 1) ≡ k + 3 * p + 2 + 4 * 1 = omega arith in
    let m : due k (newer p) ≡ (k + 3 * p + 2) % 4 = ap (λ (x : ℕ). x % 4) a ∙ round_three (k + 3) (p + 1) ∙ ap (λ (x : ℕ). x % 4) b ∙ round_on (k + 3 * p + 2) 1 in
    let l = round_less (k + 3 * p + 2) (omega arith) in
    omega arith

-- slot k was stored: it was due, and is due again after three others
due_again : (k p : ℕ) → newer p ≡ k → (due k p ≡ 0) × (due k k ≡ 3)
due_again k p q =
    let a : k + 3 * p + 3 ≡ 0 + 4 * (3 * ((p + 1) / 4) + (p + 1) % 4) = omega arith in
    let b : k + 3 * k + 3 ≡ 3 + 4 * k = omega arith in
    (ap (λ (x : ℕ). x % 4) a ∙ round_on 0 (3 * ((p + 1) / 4) + (p + 1) % 4), ap (λ (x : ℕ). x % 4) b ∙ round_on 3 k)

not_yet : (n : ℕ) → (n ≡ 0 → ⊥) → 1 ≤ n
not_yet n h = omega arith

turns_on : (k p n : ℕ) → k < 4 → (m t : ℕ) → 4 * m + due k (turned n p) ≤ t + 3 → 4 * (once_in k (turned n p) n + m) + due k p ≤ once n + t + 3
unfolding pick
turns_on k p zero h m t a = omega arith
turns_on k p (suc n) h m t a = by (eqb (newer p) k) refl
  where
    by : (b : Bool) → eqb (newer p) k ≡ b → 4 * (pick b 1 0 + m) + due k p ≤ 1 + t + 3
    by true e = let q = eqb-true (newer p) k e in let (z, t) = due_again k p q in let f = rw q at a in omega arith
    by false e = let l = due_less k p (not_yet (due k p) (λ z. eqb-false (newer p) k e (due_now k p h z))) in omega arith

module _ {S E : Type 0} (step : S → E → S) (stored : S → E → ℕ) (place : S → ℕ) (turns : (s : S) (e : E) → place (step s e) ≡ turned (stored s e) (place s)) (k : ℕ) (h : k < 4) where
  due_first : (s : S) (es : List E) → 4 * stores_of step stored place k s es + due k (place s) ≤ stores step stored place s es + 3
  unfolding stores stores_of
  due_first s [] = omega arith
  due_first s (e ∷ es) =
      let q = turns s e in
      rw q (turns_on k (place s) (stored s e) h (stores_of step stored place k (step s e) es) (stores step stored place (step s e) es) (rw q at (due_first (step s e) es)))

  -- no slot is stored more often than a fourth of the stores, rounded up
  pub wear : (s : S) (es : List E) → stores_of step stored place k s es ≤ (stores step stored place s es + 3) / 4
  wear s es = let a = due_first s es in omega arith
