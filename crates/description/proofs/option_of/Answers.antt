use Rattle.description.specs.Description.{option_of}
use Rattle.tables.specs.Choice.{pick}
use mathlib.Core.Bool.{Bool, true, false}
use mathlib.Core.Path.{◌≡◌, refl, ◌∙◌}
use mir.Val.{bool_byte}
use Rattle.description.proofs.option_of.Goals as goal

one : (m : Bool) → bool_byte m ≡ pick m 1 0
unfolding pick
one true = refl
one false = refl

pub returns : goal.returns
unfolding option_of
returns c = c.from.ensures ∙ one _
