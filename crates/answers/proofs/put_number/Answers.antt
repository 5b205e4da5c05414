use Rattle.text.specs.Laws.{room_yes, room_no}
use Rattle.wire.proofs.Laws.{shows_as, shows_none, shows_whole}
use Rattle.answers.specs.Answers.{numbered}
use Rattle.answers.specs.Laws.{length_numbered}
use lib.ListN.{length}
use native.Mathlib.Omega.{arith}
use mathlib.Core.Path.{refl, sym}
use Rattle.answers.proofs.put_number.Goals as goal

pub returns-then-answer-lt2 : goal.returns-then-answer-lt2
returns-then-answer-lt2 c =
    let a = c.args in
    let l = length_numbered a.n in
    shows_as _ _ _ _ _ (sym (room_no (length a.answer.now) (numbered a.n) (omega arith))) (shows_none a.answer.now)

pub returns : goal.returns
unfolding numbered
returns c =
    let a = c.args in
    let l = length_numbered a.n in
    shows_as _ _ _ _ _ (sym (room_yes (length a.answer.now) (numbered a.n) (omega arith))) (shows_whole _ _ _ _ refl (omega arith) c.lay.ensures)
