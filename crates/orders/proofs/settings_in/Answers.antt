use Rattle.orders.specs.Order.{settings_in}
use mathlib.Core.Path.{refl}
use Rattle.orders.proofs.settings_in.Goals as goal

pub returns : goal.returns
unfolding settings_in
returns c =
    rw (c.limits_in.ensures, c.file_in-5.ensures, c.file_in-4.ensures, c.file_in-3.ensures, c.file_in-2.ensures, c.file_in.ensures, c.byte_at-modes.ensures, c.byte_at-switches.ensures) refl
