use Rattle.limits.specs.declared.Limits.{Limits}
use lib.IntN.{ℤ}
use mathlib.Core.Path.{ap₂, ◌∙◌}
use Rattle.orders.specs.Order.{limits_in}
use mir.Facts.{to_z-of_z}
use mir.Val.{SFits}
use mir.Syntax.{w32}
use borrow.Author.Rules.{rules}
use Rattle.orders.proofs.limits_in.Goals as goal

abbrev limits_of : ℤ → ℤ → Limits
limits_of a b = record { lower = a; upper = b }

pub returns : goal.returns
unfolding limits_in
returns c =
    let f : SFits w32 c.signed_at-lower.result = search rules in
    let g : SFits w32 c.signed_at-upper.result = search rules in
    ap₂ limits_of (to_z-of_z f ∙ c.signed_at-lower.ensures) (to_z-of_z g ∙ c.signed_at-upper.ensures)
