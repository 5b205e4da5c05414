use Rattle.card.proofs.Laws.{bench_answers, answered_by, answered_as, no_bench, bytes_bench, bytes_answered, bytes_refused}
use Rattle.checks.proofs.Order.{word_not_ok}
use mathlib.Core.Path.{sym}
use Rattle.card.proofs.Card.file_frame.Goals as goal

pub returns-in-Some : goal.returns-in-Some
returns-in-Some c =
    let a = c.args in
    answered_by _ _ _ c.refused.ensures (answered_as _ _ _ _ _ (bytes_bench a.self a.bytes.now _ c.in-Some.ensures) (bench_answers a.self _ a.reply.now))

pub deliver-requires : goal.deliver-requires
deliver-requires c = (no_bench c.args.self _ c.in_default.ensures).0

pub refuse-requires : goal.refuse-requires
refuse-requires c = (no_bench c.args.self _ c.in_default.ensures).0

pub returns-in-Ok : goal.returns-in-Ok
returns-in-Ok c =
    let a = c.args in
    let u = no_bench a.self _ c.in_default.ensures in
    bytes_answered a.self a.bytes.now a.reply.now u.0 u.1 (sym c.in-Ok.ensures) c.deliver.ensures

pub returns-in-Err : goal.returns-in-Err
returns-in-Err c =
    let a = c.args in
    let u = no_bench a.self _ c.in_default.ensures in
    bytes_refused a.self a.bytes.now a.reply.now u.0 u.1 _ c.in-Err.ensures (word_not_ok _) c.refuse.ensures
