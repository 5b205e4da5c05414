use Rattle.card.specs.View.{on_channel}
use mathlib.Core.Path.{refl}
use Rattle.card.proofs.Card.on_channel.Goals as goal

pub returns : goal.returns
unfolding on_channel
returns c = refl
