use Rattle.text.specs.Adds.{adds_room}
use Rattle.books.proofs.add_char.Goals as goal

pub returns : goal.returns
returns c = adds_room _ _ _ c.requires c.lay.ensures
