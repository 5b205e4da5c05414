use Rattle.lines.proofs.Laws.{put_short, put_all}
use native.Mathlib.Omega.{arith}
use Rattle.lines.proofs.put.Goals as goal

pub returns-then-saturating_sub-len : goal.returns-then-saturating_sub-len
returns-then-saturating_sub-len c = let a = c.args in put_short a.line.now a.out.now a.at (omega (arith, c.saturating_sub.ensures))

pub returns : goal.returns
returns c = let a = c.args in put_all a.line.now a.out.now a.at _ _ (omega (arith, c.saturating_sub.ensures)) c.lay.ensures c.lay-2.ensures
