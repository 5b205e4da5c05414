-- The first line of a text, character by character.
use Rattle.std.specs.Prelude.{ℕ, suc, ◌+◌, ◌≤◌, ◌<◌, not, ◌&&◌, true, ◌≡◌, eqb, length, drop, get_or}
use mathlib.Core.List.{List}
use Rattle.std.proofs.Math.Path.{ap}
use Rattle.std.proofs.Common.{drop-cons, arith}
use borrow.Author.Tests.{eq-eqb, ne_eqb, eqb-false, not-true}
use Rattle.tables.specs.Choice.{picked, passed, and_yes}
use Rattle.lines.specs.Lines.{line_length}

-- from place i on
module _ (t : List ℕ) (i : ℕ) where
  pub length_end : i < length t → get_or t i 0 ≡ 0x0A → line_length (drop i t) ≡ 0
  unfolding line_length
  length_end h e = rw (drop-cons t i 0 h) (picked _ _ (eq-eqb _ _ e))

  pub length_on : i < length t → (get_or t i 0 ≡ 0x0A → ⊥) → line_length (drop i t) ≡ suc (line_length (drop (suc i) t))
  unfolding line_length
  length_on h n = rw (drop-cons t i 0 h) (passed _ _ (ne_eqb _ _ n))

-- two characters at once
module _ (t : List ℕ) where
  on : (i : ℕ) → i < length t → not (eqb (get_or t i 0) 0x0A) ≡ true → line_length (drop i t) ≡ line_length (drop (i + 1) t) + 1
  on i h f =
      let n : suc i ≡ i + 1 = omega arith in
      omega (arith, length_on t i h (eqb-false _ _ (not-true _ f)), ap (λ (k : ℕ). line_length (drop k t)) n)

  pub two_on : (i : ℕ) → i + 2 ≤ length t → (not (eqb (get_or t i 0) 0x0A) && not (eqb (get_or t (i + 1) 0) 0x0A)) ≡ true → line_length (drop i t) ≡ line_length (drop (i + 2) t) + 2
  two_on i h f =
      let a = and_yes (not (eqb (get_or t i 0) 0x0A)) _ f in
      let n : i + 1 + 1 ≡ i + 2 = omega arith in
      omega (arith, on i (omega arith) a.0, on (i + 1) (omega arith) a.1, ap (λ (k : ℕ). line_length (drop k t)) n)
