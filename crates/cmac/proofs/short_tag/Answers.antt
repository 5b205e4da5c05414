use Rattle.std.proofs.Common.{rules, ◌+◌, ◌*◌, ap, get_or, ◌∙◌}
use Rattle.lookup.proofs.Made.{made}
use Rattle.cmac.specs.Cmac.{truncated}
use Rattle.cmac.proofs.short_tag.Goals as goal

pub returns : goal.returns
unfolding truncated
returns c = made _ _ (λ i. get_or c.tag-t.result (2 * i + 1) 0) 8 _ (λ i y f l k. search rules) c.from_fn.ensures.items ∙ ap truncated c.tag-t.ensures
