use Rattle.card.proofs.Laws.{answered_by, delivers}
use mathlib.Core.Path.{refl}
use Rattle.card.proofs.Card.deliver.Goals as goal

pub returns : goal.returns
returns c =
    let a = c.args in
    answered_by _ _ _ c.sent.ensures (delivers a.self a.bytes.now a.reply.now c.next_place.ensures c.write.ensures c.advanced.ensures refl c.close_last-len.ensures)
