use borrow.Author.Rules.{rules}
use lib.Seq.{take_all}
use Rattle.wire.specs.Same.{same_pointwise}
use Rattle.wire.proofs.is_same.Goals as goal

-- also where the bytes compared are a part that is all of them
pub returns : goal.returns
returns c = rw (c.eq.ensures, same_pointwise) (search (rules, take_all))
