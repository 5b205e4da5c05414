use Rattle.handshake.proofs.Laying.{failed_by}
use lib.ListN.{length}
use mathlib.Core.Path.{refl, ◌≡◌}
use borrow.Author.Rules.{rules}
use Rattle.handshake.proofs.is_failed.Goals as goal

pub returns : goal.returns
returns c = let lx : length c.decrypt-x.result ≡ 32 = search rules in failed_by c.args.k c.args.b c.args.d.now c.if-d-ne32.false lx c.pair.ensures (c.decrypt-x.ensures.whole refl) c.rotate-turned.ensures c.is_same.ensures
