use Rattle.std.proofs.Common.{rules, ◌+◌, ◌*◌, ◌/◌, ◌%◌, get_or}
use Rattle.lookup.proofs.Made.{made}
use Rattle.aes.proofs.steps.lifted.Goals as goal

pub returns : goal.returns
returns c = made _ _ (λ i. get_or c.args.s (i / 4 * 4 + (i + 1) % 4) 0) 16 _ (λ i y f l k. search rules) c.from_fn.ensures.items
