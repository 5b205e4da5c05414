use Rattle.std.specs.Prelude.{is_none}
use Rattle.answers.specs.Answers.{reply_size}
use Rattle.answers.proofs.Steps.{half}
use Rattle.tables.specs.Choice.{picked, passed}
use lib.Dec.{ltb}
use mathlib.Core.Path.{sym, ap, ◌∙◌}
use Rattle.answers.proofs.fits.Goals as goal

pub returns-in-Some : goal.returns-in-Some
unfolding reply_size
returns-in-Some c = ap (λ n. ltb n c.args.room) (sym (passed _ _ (ap is_none c.in-Some.is)))

pub returns-in-None : goal.returns-in-None
unfolding reply_size
returns-in-None c =
    let a = c.args in
    half a.len a.room ∙ ap (λ n. ltb n a.room) (sym (picked _ _ (ap is_none c.in-None.is)))
