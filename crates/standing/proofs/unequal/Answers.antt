use mathlib.Core.Path.{refl}
use Rattle.standing.specs.Rules.{unequal}
use Rattle.standing.proofs.unequal.Goals as goal

-- `unequal` meets its contract: its tests are the definition's.
pub returns : goal.returns
unfolding unequal
returns c = refl
