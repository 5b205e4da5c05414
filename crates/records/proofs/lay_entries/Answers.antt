use mathlib.Core.Path.{refl, ◌∙◌}
use native.Mathlib.Omega.{arith}
use borrow.Author.Rules.{rules}
use Rattle.records.proofs.Reading.{oldest_none, oldest_step, oldest_all}
use Rattle.records.proofs.lay_entries.Goals as goal

pub loop-k-init : goal.loop-k-init
loop-k-init c = (refl, oldest_none c.args.reply.now _ _ _)

pub loop-k-preserved : goal.loop-k-preserved
loop-k-preserved c =
    let l = c.loop-k in
    let a = c.args in
    (search rules, c.lay.ensures ∙ oldest_step a.reply.now a.slots.now l.reply a.place a.first a.number l.k c.requires (omega arith) l.invariant.1)

pub returns : goal.returns
returns c =
    let l = c.loop-k in
    let a = c.args in
    oldest_all a.reply.now a.slots.now l.reply a.place a.first a.number l.k c.requires (omega arith) (omega arith) l.invariant.1
