use borrow.Author.Rules.{rules}
use mathlib.Core.Path.{ap, ◌∙◌}
use mathlib.Core.List.{List}
use Prim.Native.Nat.{ℕ}
use lib.ListN.{get_or}
use Rattle.lookup.specs.Every.{entry}
use Rattle.lookup.proofs.look.Goals as goal

pub returns : goal.returns
returns c = λ f e. ap (λ (l : List ℕ). get_or l c.args.a 0) e ∙ entry f c.args.a (search rules)
