use Rattle.held.specs.Held.{over}
use mathlib.Core.Path.{refl}
use Rattle.held.proofs.Draft.over.Goals as goal

pub returns : goal.returns
unfolding over
returns c = refl
