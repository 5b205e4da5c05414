use Rattle.datafiles.specs.Files.{end_of}
use Rattle.tables.specs.Choice.{choice}
use Rattle.datafiles.proofs.end_of.Goals as goal

pub returns-then-len-eq0 : goal.returns-then-len-eq0
unfolding end_of
returns-then-len-eq0 c = search choice

pub returns : goal.returns
unfolding end_of
returns c = search choice
