use mathlib.Core.Path.{ap, ◌∙◌}
use Rattle.card.proofs.Laws.{order_refused, order_taken}
use Rattle.standing.specs.Rules.{order_refusal}
use Rattle.card.specs.Events.{issued}
use mir.Facts.{to_z-of_z}
use Rattle.card.proofs.Card.personalise.Goals as goal

pub returns-in-Some : goal.returns-in-Some
returns-in-Some c =
    let a = c.args in
    c.refused.ensures ∙ order_refused a.settings a.keys a.value _ (c.in-Some.ensures ∙ ap (order_refusal a.settings) (to_z-of_z c.ranges.value)) c.blank.ensures

pub returns-in-None : goal.returns-in-None
returns-in-None c =
    let a = c.args in
    let f = to_z-of_z c.ranges.value in
    c.sent.ensures ∙ order_taken a.settings a.keys a.value _ (c.in-None.ensures ∙ ap (order_refusal a.settings) f) (c.issued.ensures ∙ ap (issued a.settings a.keys) f)
