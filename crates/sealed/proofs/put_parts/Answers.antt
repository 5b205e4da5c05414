use Rattle.sealed.proofs.Laying.{parts_by}
use lib.ListN.{length}
use mathlib.Core.Path.{◌≡◌}
use borrow.Author.Rules.{rules}
use Rattle.sealed.proofs.put_parts.Goals as goal
use Rattle.sealed.proofs.put_parts.Goals.{Start}

long : (s : Start) → length s.args.mac ≡ 8
long s = search rules

pub returns : goal.returns
returns c = let a = c.args in parts_by a.frame.now a.d.now a.mac a.out.now c.requires.0 (long (goal.at.returns c).Start) c.requires.2 c.lay.ensures c.lay-2.ensures c.lay-3.ensures c.lay-4.ensures c.lay-5.ensures
