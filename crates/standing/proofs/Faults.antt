-- The first of an order's faults, as the code finds it.
use Rattle.std.specs.Prelude.{Bool, true, false, List, [], ◌∷◌, ◌≡◌, refl, Option, Some, None, Result, Err}
use Rattle.std.specs.Result.{result_err}
use Rattle.std.proofs.Common.{ap, ◌∙◌}
use Rattle.tables.specs.Choice.{pick}
use Rattle.reasons.specs.First.{first_of}
use Rattle.refusals.specs.declared.Refusal.{Refusal}
use Rattle.refusals.specs.declared.Refusal.TheVariants.{WrongRights, CrossedLimits, ValueOutside, NumberAbove, NumberTwice}
use Rattle.standing.specs.Rules.{first_fault}

abbrev fault_in : List (Bool × Refusal) → Option Refusal
fault_in [] = None
fault_in (r ∷ rs) = pick r.0 (Some r.1) (fault_in rs)

err_pick : (b : Bool) (x : Refusal) (r : Result (Unit {0}) Refusal) → result_err (pick b (Err x) r) ≡ pick b (Some x) (result_err r)
unfolding pick
err_pick true x r = refl
err_pick false x r = refl

err_first : (rs : List (Bool × Refusal)) → result_err (first_of rs) ≡ fault_in rs
unfolding first_of
err_first [] = refl
err_first (r ∷ rs) = err_pick r.0 r.1 (first_of rs) ∙ ap (pick r.0 (Some r.1)) (err_first rs)

pub fault_found : (rights crossed outside above twice : Bool) {r : Option Refusal} {f : Result (Unit {0}) Refusal} → r ≡ result_err f
    → f ≡ first_of ((rights, WrongRights) ∷ (crossed, CrossedLimits) ∷ (outside, ValueOutside) ∷ (above, NumberAbove) ∷ (twice, NumberTwice) ∷ [])
    → r ≡ first_fault rights crossed outside above twice
unfolding first_fault
fault_found rights crossed outside above twice e q = e ∙ ap result_err q ∙ err_first _
