use mir.Syntax.{w32}
use mir.Val.{SFits}
use mir.Facts.{to_z-of_z}
use native.Mathlib.Omega.{arith}
use Rattle.books.specs.Books.{figures_text}
use Rattle.text.specs.Adds.{adds_then}
use borrow.Author.Rules.{rules}
use Rattle.books.proofs.put_figures.Goals as goal

pub returns : goal.returns
unfolding figures_text
returns c =
    let p = c.args.purse in
    let v : SFits w32 p.value = search rules in
    let w : SFits w32 p.pending = search rules in
    let x = adds_then _ _ _ _ (rw (to_z-of_z v) at c.add_signed-a.ensures.adds) (rw (to_z-of_z w) at c.add_signed-b.ensures.adds) in
    let y = adds_then _ _ _ _ x c.add_decimal-c.ensures.adds in
    let z = adds_then _ _ _ _ y c.add_decimal-d.ensures.adds in
    record { adds = adds_then _ _ _ _ z c.add_decimal.ensures.adds; upper_bound = omega arith }
