use Rattle.till.proofs.Laying.{part_by}
use lib.ListN.{length}
use mathlib.Core.Path.{refl, ◌≡◌}
use borrow.Author.Rules.{rules}
use Rattle.till.proofs.second_part.Goals as goal

pub returns : goal.returns
returns c = let la : length c.args.a ≡ 16 = search rules in let lb : length c.args.b ≡ 16 = search rules in part_by c.args.k c.args.a c.args.b la lb c.lay.ensures c.lay-2.ensures (c.encrypt.ensures.whole refl)
