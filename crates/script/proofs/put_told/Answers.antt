use Rattle.told.specs.Told.{said_of}
use Rattle.script.proofs.put_told.Goals as goal

pub returns : goal.returns
unfolding said_of
returns c = c.put.ensures
