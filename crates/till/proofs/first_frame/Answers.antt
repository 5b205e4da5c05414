use Rattle.till.specs.Till.{first_frame}
use mathlib.Core.Path.{refl}
use Rattle.till.proofs.first_frame.Goals as goal

pub returns : goal.returns
unfolding first_frame
returns c = refl
