-- A run in the middle: what was written so far, and that the whole run is that and the rest.
use Rattle.std.specs.Prelude.{ℕ, ◌+◌, ◌-◌, ◌≤◌, ◌≡◌, length, drop}
use mathlib.Core.List.{List, [], ◌++◌}
use Rattle.wire.specs.Bytes.{laid}
use Rattle.lines.specs.Lines.{lines_after, Said, Gone, went}

-- some characters read and some written, and then the rest
unfoldable pub onward : {S : Type 0} → ℕ → List ℕ → Gone S → Gone S
onward at out w = record { next = w.next; read = at + w.read; out = out ++ w.out }

pub record Sofar {S : Type 0} (said : S → List ℕ → Said S) (k₀ : S) (t b : List ℕ) (k : S) (at n : ℕ) (out : List ℕ) : Type 0 where
  pub written : List ℕ
  pub place : at ≤ length t
  pub room : n ≤ length b
  pub count : n ≡ length written
  pub lies : out ≡ laid b 0 written
  pub rest : went said k₀ (lines_after [] t) (length b) ≡ onward at written (went said k (lines_after [] (drop at t)) (length b - n))
