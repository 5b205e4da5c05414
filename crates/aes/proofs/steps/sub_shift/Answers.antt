use Rattle.fips197.specs.Steps.{bytewise, shift_rows}
use Rattle.aes.proofs.steps.sub_shift.Goals as goal

pub returns : goal.returns
unfolding bytewise shift_rows
returns c = λ f e. c.substituted.ensures f e
