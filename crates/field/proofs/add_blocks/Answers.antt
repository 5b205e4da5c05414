use Rattle.std.proofs.Common.{rules, get_or}
use Rattle.field.specs.Bytes.{◌⊞◌}
use Rattle.field.specs.Field.{◌⊕◌}
use Rattle.lookup.proofs.Made.{made}
use Rattle.field.proofs.add_blocks.Goals as goal

pub returns : goal.returns
unfolding ◌⊞◌
returns c = made _ _ (λ i. get_or c.args.a i 0 ⊕ get_or c.args.b i 0) 16 _ (λ i y f l k. search rules) c.from_fn.ensures.items
