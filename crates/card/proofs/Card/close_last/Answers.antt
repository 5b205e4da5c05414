use Rattle.card.proofs.Laws.{closes, closes_not}
use Rattle.card.proofs.Card.close_last.Goals as goal

pub returns-then-last : goal.returns-then-last
returns-then-last c =
    closes c.args.reply.now c.requires c.if-last.true c.say.ensures.0 c.say.ensures.1

pub returns : goal.returns
returns c = closes_not c.args.reply.now c.if-last.false
