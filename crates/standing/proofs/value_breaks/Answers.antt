use borrow.Author.Rules.{rules}
use mir.Syntax.{w32}
use mir.Val.{SFits}
use mir.Facts.{to_z-of_z}
use Rattle.standing.specs.Parts.{value_broken}
use Rattle.standing.proofs.value_breaks.Goals as goal

pub returns : goal.returns
unfolding value_broken
returns c =
    let f : SFits w32 c.args.purse.value = search rules in
    let g : SFits w32 c.args.purse.pending = search rules in
    simp (c.hold.ensures, c.hold-2.ensures, c.unequal.ensures, to_z-of_z, f, g)
