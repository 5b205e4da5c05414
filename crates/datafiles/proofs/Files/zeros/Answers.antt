use borrow.Author.Rules.{rules}
use Rattle.datafiles.specs.Files.{zeros}
use Rattle.datafiles.proofs.Files.zeros.Goals as goal

pub returns : goal.returns
unfolding zeros
returns c = search rules
