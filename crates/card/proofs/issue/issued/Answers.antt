use Rattle.card.specs.Events.{issued}
use mir.Facts.{to_z-of_z}
use mathlib.Core.Path.{refl}
use Rattle.card.proofs.issue.issued.Goals as goal

pub returns : goal.returns
unfolding issued
returns c = rw (c.zeros.ensures, c.resting.ensures, c.empty.ensures, c.bare.ensures, to_z-of_z c.ranges.value) refl
