use Rattle.handshake.proofs.Laying.{reply_by}
use lib.ListN.{length}
use mathlib.Core.Path.{refl, ◌≡◌}
use borrow.Author.Rules.{rules}
use Rattle.handshake.proofs.second_reply.Goals as goal
use Rattle.handshake.proofs.second_reply.Goals.{Start}

lengths : (s : Start) → (length s.args.ti ≡ 4) × (length s.args.caps ≡ 6)
lengths s = (search rules, search rules)

pub returns : goal.returns
returns c =
    let l = lengths (goal.at.returns c).Start in
    let la : length c.rotate-turned.result ≡ 16 = search rules in
    reply_by c.args.k c.args.ti c.args.caps c.args.d.now l.0 la l.1 c.brought_a.ensures c.rotate-turned.ensures
    c.lay.ensures c.lay-2.ensures c.lay-3.ensures (c.encrypt.ensures.whole refl)
