use Rattle.card.proofs.Laws.{bench_answers, answered_by, answered_as, no_bench, opening_bench, opening_refused, opening_taken}
use Rattle.card.specs.View.{view}
use Rattle.checks.specs.declared.Admitted.{Admitted}
use Rattle.checks.proofs.Order.{word_not_ok}
use mathlib.Core.Path.{sym, ap}
use Rattle.card.proofs.Card.open_chain.Goals as goal

pub returns-in-Some : goal.returns-in-Some
returns-in-Some c =
    let a = c.args in
    answered_by _ _ _ c.refused.ensures (answered_as _ _ _ _ _ (opening_bench a.self a.frame.now _ c.in-Some.ensures) (bench_answers a.self _ a.reply.now))

pub refuse-requires : goal.refuse-requires
refuse-requires c = (no_bench c.args.self _ c.in_default.ensures).0

pub returns-in-Err : goal.returns-in-Err
unfolding view
returns-in-Err c =
    let a = c.args in
    let u = no_bench a.self _ c.in_default.ensures in
    opening_refused a.self a.frame.now a.reply.now u.0 u.1 _ c.in-Err.ensures.status (word_not_ok _) c.refuse.ensures

pub returns : goal.returns
unfolding view
returns c =
    let a = c.args in
    let u = no_bench a.self _ c.in_default.ensures in
    answered_by _ _ _ c.sent.ensures
    (opening_taken a.self a.frame.now a.reply.now u.0 u.1 (sym c.in-Ok.ensures.status) (ap (λ (a : Admitted). a.role) c.in-Ok.ensures.admitted) c.data.ensures c.announced.ensures c.chained-next.ensures c.on_channel.ensures)
