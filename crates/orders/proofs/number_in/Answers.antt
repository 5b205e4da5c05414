use Rattle.orders.specs.Order.{number_in}
use Rattle.tables.specs.Choice.{choice}
use mathlib.Core.Path.{◌∙◌}
use Rattle.orders.proofs.number_in.Goals as goal

pub returns-then-b-le-NUMBERS : goal.returns-then-b-le-NUMBERS
unfolding number_in
returns-then-b-le-NUMBERS c = c.default_number.ensures ∙ search choice

pub returns : goal.returns
unfolding number_in
returns c = c.byte_at.ensures ∙ search choice
