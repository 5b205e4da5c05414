use mathlib.Core.Path.{◌∙◌}
use mir.Facts.{to_z-of_z}
use Rattle.standing.specs.Rules.{order_refusal}
use Rattle.standing.proofs.Faults.{fault_found}
use Rattle.standing.proofs.refusal.Goals as goal

pub returns : goal.returns
unfolding order_refusal
returns c = fault_found _ _ _ _ _ c.err.ensures.value c.first-first.ensures ∙ simp (c.has_number_twice.ensures, c.has_number_above.ensures, c.hold.ensures, to_z-of_z c.ranges.value, c.are_crossed.ensures, c.has_wrong_rights.ensures)
