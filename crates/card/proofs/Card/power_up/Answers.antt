use Rattle.card.proofs.Laws.{power_broken, power_ends}
use mathlib.Core.Path.{sym, ◌∙◌}
use Rattle.card.proofs.Card.power_up.Goals as goal

pub returns-then-breaks : goal.returns-then-breaks
returns-then-breaks c = c.refused.ensures ∙ power_broken c.args.self (sym c.if-breaks.ensures)

pub returns : goal.returns
returns c = c.sent.ensures ∙ power_ends c.args.self _ c.ended.ensures (sym c.if-breaks.ensures)
