use Rattle.checks.specs.Order.{word_of}
use Rattle.card.proofs.Laws.{answered_by, refused_answers}
use Rattle.card.proofs.Card.refuse.Goals as goal

pub returns : goal.returns
returns c =
    let w = rw c.word.ensures at c.say-len.ensures in
    answered_by _ _ _ c.sent.ensures (refused_answers c.args.self (word_of c.args.status) c.args.reply.now c.requires c.ended.ensures w.0 w.1)
