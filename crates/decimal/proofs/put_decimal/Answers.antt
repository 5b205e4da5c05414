use Rattle.decimal.specs.Shown.{decimal_in}
use Rattle.decimal.proofs.put_decimal.Goals as goal

pub returns : goal.returns
unfolding decimal_in
returns c = c.put.ensures
