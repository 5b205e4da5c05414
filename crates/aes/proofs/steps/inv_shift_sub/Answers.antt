use Rattle.fips197.specs.Steps.{bytewise, inv_shift_rows}
use Rattle.aes.proofs.steps.inv_shift_sub.Goals as goal

pub returns : goal.returns
unfolding bytewise inv_shift_rows
returns c = λ f e. c.substituted.ensures f e
