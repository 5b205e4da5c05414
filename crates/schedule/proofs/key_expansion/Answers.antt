use borrow.Author.Rules.{rules}
use mathlib.Core.Path.{◌≡◌, sym, ap, ◌∙◌}
use native.Mathlib.Omega.{arith}
use lib.ListN.{length}
use Rattle.fips197.specs.Schedule.{by_round_keys}
use Rattle.schedule.proofs.Grown.{grown, grows, whole_schedule}
use Rattle.schedule.proofs.key_expansion.Goals as goal

pub loop-i-preserved : goal.loop-i-preserved
loop-i-preserved c =
    let l = c.loop-i in grows c.args.k c.next_key-next.result l.w l.i (omega arith) l.invariant c.next_key-next.ensures

pub returns : goal.returns
returns c =
    let k = c.args.k in
    let long : length k ≡ 16 = search rules in
    let ten : c.loop-i.i ≡ 10 = omega arith in
    c.loop-i.invariant ∙ ap (grown k) ten ∙ whole_schedule k ∙ sym (by_round_keys k long)
