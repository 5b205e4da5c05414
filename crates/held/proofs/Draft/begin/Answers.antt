use Rattle.held.specs.Held.{begun}
use mathlib.Core.Path.{refl}
use Rattle.held.proofs.Draft.begin.Goals as goal

pub returns : goal.returns
unfolding begun
returns c = refl
