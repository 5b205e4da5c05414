use Rattle.orders.specs.Order.{file_in}
use mathlib.Core.Path.{refl}
use Rattle.orders.proofs.file_in.Goals as goal

pub returns : goal.returns
unfolding file_in
returns c = rw (c.rights_in-rights.ensures, c.number_in-number.ensures) refl
