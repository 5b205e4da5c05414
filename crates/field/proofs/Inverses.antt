-- The inverse of every byte, computed once: what needs inverses looks them up.
use Rattle.std.specs.Prelude.{◌≡◌, refl, List, ℕ, zero, suc, ◌<◌, T, ltb, get_or}
use Rattle.std.proofs.Common.{ap, ◌∙◌, sym, zero-lt-suc, arith, ltb→lt}
use Rattle.field.specs.Field.{xtime, inverse}
use Rattle.lookup.specs.Tables.{tabled, table}
use Rattle.field.proofs.Laws.{◌∷≡◌}
use Rattle.lookup.specs.Every.{run, below, same, listed, entry}
use Rattle.field.specs.Inverses.{inverses}

pub inverses_are : table inverse ≡ inverses
unfolding table inverse xtime
inverses_are = listed (table inverse) inverses tt

pub inverse_at : (x : ℕ) → x < 256 → inverse x ≡ get_or inverses x 0
inverse_at x h = sym (entry inverse x h) ∙ ap (λ (l : List ℕ). get_or l x 0) inverses_are

alike_below : (n : ℕ) {f g : ℕ → ℕ} → ((i : ℕ) → i < n → f i ≡ g i) → tabled n f ≡ tabled n g
alike_below zero e = refl
alike_below (suc n) e = e 0 (zero-lt-suc n) ∷≡ alike_below n (λ i h. e (suc i) (omega arith))

-- the table of a function that goes through the inverse, by one test of its 256 entries
pub through : (g h : ℕ → ℕ) (l : List ℕ) → T (run (λ a. ltb (h a) 256) 256 0) → T (same l (tabled 256 (λ a. g (get_or inverses (h a) 0)))) → l ≡ table (λ a. g (inverse (h a)))
unfolding table
through g h l u t =
    listed l (tabled 256 (λ a. g (get_or inverses (h a) 0))) t
    ∙ alike_below 256 (λ a k. ap g (sym (inverse_at (h a) (ltb→lt (h a) 256 (below 256 (λ a. ltb (h a) 256) u a k)))))
