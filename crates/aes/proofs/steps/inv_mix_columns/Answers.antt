use Rattle.std.proofs.Common.{rules}
use Rattle.fips197.specs.Steps.{unmixed, inv_mix_columns}
use Rattle.aes.proofs.steps.inv_mix_columns.Goals as goal

pub returns : goal.returns
unfolding inv_mix_columns
returns c = c.columnwise.ensures unmixed (λ x y z w r p. search rules)
