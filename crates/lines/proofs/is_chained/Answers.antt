use Rattle.lines.proofs.FrameLaws.{chained_odd, chained_not}
use native.Mathlib.Omega.{arith}
use Rattle.lines.proofs.is_chained.Goals as goal

pub overflow_sub-result : goal.overflow_sub-result
overflow_sub-result c = omega (arith, c.line_end.ensures)

pub returns-then-first : goal.returns-then-first
returns-then-first c =
    let a = c.args in
    chained_odd a.text.now a.at c.byte_at-first.ensures c.if-first.true c.line_end.ensures

pub returns : goal.returns
returns c =
    let a = c.args in
    chained_not a.text.now a.at c.byte_at-first.ensures c.if-first.false
