use mathlib.Core.Path.{refl}
use Rattle.handshake.specs.Handshake.{first_reply}
use Rattle.handshake.proofs.first_reply.Goals as goal

pub returns : goal.returns
unfolding first_reply
returns c = c.encrypt.ensures.whole refl
