use Rattle.std.specs.Prelude.{Option, is_none}
use Rattle.refusals.specs.declared.Refusal.{Refusal}
use Rattle.refusals.specs.Numbers.{number_of}
use Rattle.answers.specs.Answers.{numbered, refusal_text}
use Rattle.text.specs.Shown.{in_room}
use Rattle.text.specs.Laws.{room_yes}
use Rattle.wire.proofs.Laws.{shows_as, shows_none}
use Rattle.tables.specs.Choice.{picked, passed}
use lib.ListN.{length}
use mathlib.Core.List.{[]}
use mathlib.Core.Path.{sym, ap, ◌∙◌}
use native.Mathlib.Omega.{arith}
use Rattle.notices.proofs.put_refusal.Goals as goal

pub returns-in-None : goal.returns-in-None
unfolding refusal_text
returns-in-None c =
    let b = c.args.answer.now in
    shows_as _ _ _ _ _ (sym (ap (in_room (length b)) (picked _ _ (ap is_none c.in-None.is)) ∙ room_yes (length b) [] (omega arith))) (shows_none b)

pub returns-in-Some : goal.returns-in-Some
unfolding refusal_text
returns-in-Some c =
    let b = c.args.answer.now in
    let e = passed _ _ (ap is_none c.in-Some.is) ∙ ap (λ (r : Option Refusal). numbered (number_of r)) c.in-Some.is ∙ ap numbered (sym c.number.ensures) in
    shows_as _ _ _ _ _ (sym (ap (in_room (length b)) e)) c.put_number.ensures
