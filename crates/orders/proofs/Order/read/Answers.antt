use Rattle.orders.specs.Order.{order_in}
use mir.Facts.{to_z-of_z}
use mir.Val.{SFits}
use mir.Syntax.{w32}
use borrow.Author.Rules.{rules}
use Rattle.orders.proofs.Order.read.Goals as goal

pub returns : goal.returns
unfolding order_in
returns c =
    let f : SFits w32 c.signed_at-value.result = search rules in
    rw (c.settings_in-settings.ensures, to_z-of_z f, c.signed_at-value.ensures, c.keys_in-keys.ensures)
