use native.Mathlib.Omega.{arith}
use Rattle.books.specs.Books.{pending_letters}
use Rattle.text.specs.Adds.{adds_then}
use Rattle.books.proofs.Books.add_pending.Goals as goal

pub returns : goal.returns
unfolding pending_letters
returns c =
    let x = adds_then _ _ _ _ c.add_letter-a.ensures.adds c.add_letter-b.ensures.adds in
    let y = adds_then _ _ _ _ x c.add_letter-c.ensures.adds in
    let z = adds_then _ _ _ _ y c.add_letter-d.ensures.adds in
    let w = adds_then _ _ _ _ z c.add_letter-e.ensures.adds in
    record { adds = adds_then _ _ _ _ w c.add_char.ensures; upper_bound = omega arith }
