-- The first reason that applies, one step on.
use Rattle.std.specs.Prelude.{ℕ, ◌+◌, ◌<◌, ◌≤◌, ◌≡◌, Bool, true, false, List, ◌∷◌, Ok, Err, length, get_or, drop}
use Rattle.std.proofs.Common.{sym, ap, ◌∙◌}
use Rattle.std.proofs.Math.ListN.{drop_of_length-le}
use Rattle.std.proofs.lemmas.List.{at_drop_more}
use Rattle.tables.specs.Choice.{pick, picked, passed}
use Rattle.reasons.specs.First.{first_of}

module _ {R : Type 0} (rs : List (Bool × R)) (i : ℕ) (r : Bool × R) (h : i < length rs) (e : r ≡ get_or rs i r) where
  step : first_of (drop i rs) ≡ pick r.0 (Err r.1) (first_of (drop (i + 1) rs))
  unfolding first_of
  step = at_drop_more first_of rs i r h ∙ ap (λ x. first_of (x ∷ drop (i + 1) rs)) (sym e)

  pub first_found : r.0 ≡ true → first_of (drop i rs) ≡ Err r.1
  first_found t = step ∙ picked _ _ t

  pub first_later : r.0 ≡ false → first_of (drop i rs) ≡ first_of (drop (i + 1) rs)
  first_later t = step ∙ passed _ _ t

pub first_none : {R : Type 0} (rs : List (Bool × R)) (i : ℕ) → length rs ≤ i → Ok tt ≡ first_of (drop i rs)
unfolding first_of
first_none rs i h = ap first_of (sym (drop_of_length-le rs h))
