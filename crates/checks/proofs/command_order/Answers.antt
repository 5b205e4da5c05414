use mathlib.Core.Path.{ap, ◌∙◌}
use Rattle.checks.specs.Order.{told, command_order}
use Rattle.checks.proofs.Order.{told_first}
use Rattle.checks.proofs.command_order.Goals as goal

pub returns : goal.returns
unfolding command_order
returns c = ap told c.first.ensures ∙ told_first _
