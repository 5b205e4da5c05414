use Rattle.std.specs.Prelude.{Option, is_none}
use Rattle.refusals.specs.declared.Refusal.{Refusal}
use Rattle.refusals.specs.Numbers.{number_of}
use Rattle.answers.specs.Answers.{numbered, reply_text}
use Rattle.text.specs.Shown.{in_room, digits_in}
use Rattle.wire.proofs.Laws.{shows_as}
use Rattle.tables.specs.Choice.{picked, passed}
use lib.ListN.{length}
use mathlib.Core.Path.{sym, ap, ◌∙◌}
use Rattle.answers.proofs.put_reply.Goals as goal

pub returns-in-Some : goal.returns-in-Some
unfolding reply_text
returns-in-Some c =
    let b = c.args.answer.now in
    let e = passed _ _ (ap is_none c.in-Some.is) ∙ ap (λ (r : Option Refusal). numbered (number_of r)) c.in-Some.is ∙ ap numbered (sym c.number.ensures) in
    shows_as _ _ _ _ _ (sym (ap (in_room (length b)) e)) c.put_number.ensures

pub returns-in-None : goal.returns-in-None
unfolding reply_text digits_in
returns-in-None c =
    let b = c.args.answer.now in
    shows_as _ _ _ _ _ (sym (ap (in_room (length b)) (picked _ _ (ap is_none c.in-None.is)))) c.put_digits.ensures
