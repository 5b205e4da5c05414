use Rattle.books.specs.Books.{marks_text}
use Rattle.text.specs.Adds.{adds_then}
use Rattle.books.proofs.Books.add_marks.Goals as goal

pub returns : goal.returns
unfolding marks_text
returns c = adds_then _ _ _ _ (adds_then _ _ _ _ c.add_decimal-a.ensures.adds c.add_pending-b.ensures.adds) c.add_stage.ensures
