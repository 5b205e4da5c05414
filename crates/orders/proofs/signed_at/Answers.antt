use Rattle.orders.specs.Order.{signed}
use mathlib.Core.Path.{◌∙◌, ap}
use mir.Facts.{to_z-of_z}
use mir.Val.{to_z}
use mir.Syntax.{w32}
use borrow.Author.Rules.{rules}
use Rattle.orders.proofs.signed_at.Goals as goal

pub returns : goal.returns
unfolding signed
returns c = to_z-of_z {w = w32} {z = c.number.result} (search rules) ∙ (c.number.ensures ∙ ap (to_z w32) c.le4_at.ensures)
