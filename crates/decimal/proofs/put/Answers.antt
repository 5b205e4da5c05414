use Rattle.wire.proofs.Laws.{shows_as}
use mathlib.Core.Path.{ap}
use mathlib.Core.List.{◌++◌}
use lib.ListN.{length}
use Rattle.decimal.proofs.Steps.{digits_left}
use Rattle.text.specs.Shown.{in_room}
use Rattle.decimal.proofs.put.Goals as goal

pub returns : goal.returns
returns c =
    let a = c.args in
    let e = digits_left a.n c.zeros-from.result c.ten_of-ten.result c.ten_of-ten.ensures c.zeros-from.ensures.1 in
    shows_as _ _ a.out.now _ _ (ap (λ l. in_room (length a.out.now) (a.sign.now ++ l)) e) c.show.ensures
