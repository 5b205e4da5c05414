use Rattle.std.proofs.Common.{sym, ◌∙◌, arith}
use Rattle.reasons.proofs.Steps.{first_found, first_later, first_none}
use Rattle.reasons.proofs.first.Goals as goal

pub returns-then-applies : goal.returns-then-applies
returns-then-applies g c =
    let l = c.loop-applies in
    sym (first_found _ _ _ c.loop-applies-test.true c.loop-applies-item.is c.if-applies.true) ∙ l.invariant

pub loop-applies-preserved : goal.loop-applies-preserved
loop-applies-preserved g c =
    let l = c.loop-applies in
    sym (first_later _ _ _ c.loop-applies-test.true c.loop-applies-item.is c.if-applies.false) ∙ l.invariant

pub returns : goal.returns
returns g c =
    let l = c.loop-applies in
    first_none c.args.reasons.now _ (omega (arith, c.loop-applies-test.false)) ∙ l.invariant
