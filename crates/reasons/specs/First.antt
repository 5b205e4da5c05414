-- The first reason that applies.
use Rattle.std.specs.Prelude.{Bool, List, [], ◌∷◌, Result, Ok, Err}
use Rattle.tables.specs.Choice.{pick}

-- each reason stands behind whether it applies
unfoldable pub first_of : {R : Type 0} → List (Bool × R) → Result (Unit {0}) R
first_of [] = Ok tt
first_of (r ∷ rs) = pick r.0 (Err r.1) (first_of rs)
