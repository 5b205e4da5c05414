use Rattle.desk.specs.Program.{program_card}
use Rattle.card.specs.Outcome.{reply_of}
use Rattle.card.specs.Events.{personalised}
use Rattle.card.specs.declared.Reply.{Reply}
use Rattle.settings.specs.declared.Settings.{Settings}
use Rattle.keys.specs.declared.Keys.{Keys}
use Rattle.keys.specs.Keys.{zeros}
use lib.IntN.{pos}
use mathlib.Core.Path.{ap, ◌∙◌}
use Rattle.desk.proofs.Desk.program_card.Goals as goal

pub returns : goal.returns
unfolding program_card reply_of
returns c =
    let s = c.alike-settings in
    ap (λ (r : Reply). r.card) c.personalise-reply.ensures
    ∙ (ap (λ (k : Keys). (personalised s.result k (pos 100)).card) c.zeros.ensures
    ∙ ap (λ (x : Settings). (personalised x zeros (pos 100)).card) s.ensures)
