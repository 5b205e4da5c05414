use Rattle.told.specs.declared.Frame.TheVariants.{Opening, FileBytes}
use Rattle.told.specs.Told.{framed}
use mathlib.Core.Path.{◌≡◌}
use borrow.Author.Rules.{rules}
use Rattle.told.proofs.event.Goals as goal

pub returns-in-Opening : goal.returns-in-Opening
unfolding framed
returns-in-Opening c = let e : c.args.frame ≡ Opening = search rules in rw e c.open_chain.ensures

pub returns-in-FileBytes : goal.returns-in-FileBytes
unfolding framed
returns-in-FileBytes c = let e : c.args.frame ≡ FileBytes = search rules in rw e c.file_frame.ensures
