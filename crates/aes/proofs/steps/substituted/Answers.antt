use Rattle.std.proofs.Common.{rules, ◌*◌, ◌%◌, get_or}
use Rattle.lookup.proofs.Made.{made}
use Rattle.aes.proofs.steps.substituted.Goals as goal

pub returns : goal.returns
returns c = λ f e. made _ _ (λ i. f (get_or c.args.s (i * c.args.far % 16) 0)) 16 _ (λ i y f' l k. search rules) c.from_fn.ensures.items
