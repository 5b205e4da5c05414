use Rattle.derivation.proofs.Laying.{vector_by}
use lib.ListN.{length}
use mathlib.Core.Path.{◌≡◌}
use borrow.Author.Rules.{rules}
use Rattle.derivation.proofs.session_vector.Goals as goal
use Rattle.derivation.proofs.session_vector.Goals.{Start}

long : (s : Start) → (length s.args.a ≡ 16) × (length s.args.b ≡ 16)
long s = (search rules, search rules)

pub returns : goal.returns
returns c = vector_by c.args.a c.args.b (long (goal.at.returns c).Start).0 (long (goal.at.returns c).Start).1 c.mixed-six.ensures c.lay.ensures c.lay-2.ensures c.lay-3.ensures c.lay-4.ensures c.lay-5.ensures
