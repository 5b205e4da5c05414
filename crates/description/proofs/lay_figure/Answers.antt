use Rattle.description.specs.Description.{figure}
use Rattle.wire.specs.Bytes.{four}
use Rattle.wire.proofs.Laws.{laid_room}
use lib.Seq.{length-take-le}
use native.Mathlib.Nat.{sub-zero}
use native.Mathlib.Omega.{arith}
use mathlib.Core.Path.{◌∙◌}
use Rattle.description.proofs.lay_figure.Goals as goal

pub returns : goal.returns
returns c =
    let a = c.args in
    let n = length-take-le a.width (four a.v) (omega arith) in
    simp (c.four_of-bytes.ensures, sub-zero) at c.lay.ensures ∙ laid_room a.reply.now a.at (figure a.width a.v) (omega arith)
