use Rattle.told.proofs.Steps.{tells_none, tells_two}
use Rattle.told.proofs.answer.Goals as goal

pub returns-then-reply-eq0 : goal.returns-then-reply-eq0
returns-then-reply-eq0 c = let a = c.args in tells_none a.refusal a.reply.now c.if-reply-eq0.true

pub returns : goal.returns
returns c =
    let two = c.requires c.if-reply-eq0.false in
    tells_two c.args.refusal c.args.reply.now two.0 two.1
