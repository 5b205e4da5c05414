use Rattle.handshake.specs.Guarded.{pair_of}
use Rattle.handshake.proofs.pair.Goals as goal

pub returns : goal.returns
unfolding pair_of
returns c = c.lay.ensures
