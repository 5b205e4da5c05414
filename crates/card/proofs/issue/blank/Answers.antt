use Rattle.card.specs.Events.{blank, issued}
use lib.IntN.{pos}
use mathlib.Core.Path.{◌∙◌}
use Rattle.card.proofs.issue.blank.Goals as goal

pub returns : goal.returns
unfolding blank
returns c = c.issued.ensures ∙ (λ i. issued (c.alike-settings.ensures i) (c.zeros.ensures i) (pos 0))
