use Rattle.text.specs.Adds.{adds_then}
use Rattle.books.proofs.add_real.Goals as goal

pub returns : goal.returns
returns c = adds_then _ _ _ _ c.add_decimal-a.ensures.adds c.add_number.ensures.adds
