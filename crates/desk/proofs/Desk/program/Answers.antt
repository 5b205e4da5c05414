use Rattle.desk.specs.Program.{program_desk}
use mathlib.Core.Path.{refl}
use Rattle.desk.proofs.Desk.program.Goals as goal

pub returns : goal.returns
unfolding program_desk
returns c = rw c.program_card.ensures refl
