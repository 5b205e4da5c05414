use native.Mathlib.Omega.{arith}
use Rattle.text.specs.Adds.{adds_then}
use Rattle.books.proofs.add_decimal.Goals as goal

pub returns : goal.returns
returns c = record { adds = adds_then _ _ _ _ c.add_number-a.ensures.adds c.add_char.ensures; upper_bound = omega arith }
