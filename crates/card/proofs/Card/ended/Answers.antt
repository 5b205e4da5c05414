use Rattle.card.specs.Events.{ended}
use Rattle.card.specs.View.{view, put}
use mathlib.Core.Path.{refl}
use Rattle.card.proofs.Card.ended.Goals as goal

pub returns : goal.returns
unfolding ended put view
returns c = rw (c.drop_pending.ensures, c.drop_pending-2.ensures, c.bare.ensures) refl
