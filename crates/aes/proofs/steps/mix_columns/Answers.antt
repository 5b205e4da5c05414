use Rattle.std.proofs.Common.{rules}
use Rattle.fips197.specs.Steps.{mixed, mix_columns}
use Rattle.aes.proofs.steps.mix_columns.Goals as goal

pub returns : goal.returns
unfolding mix_columns
returns c = c.columnwise.ensures mixed (λ x y z w r p. search rules)
