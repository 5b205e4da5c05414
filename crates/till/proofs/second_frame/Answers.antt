use Rattle.till.proofs.Laying.{frame_by}
use lib.ListN.{length}
use mathlib.Core.Path.{◌≡◌}
use borrow.Author.Rules.{rules}
use Rattle.till.proofs.second_frame.Goals as goal

pub returns : goal.returns
returns c = let l : length c.args.d ≡ 32 = search rules in frame_by c.args.d l c.lay.ensures c.lay-2.ensures
