use Rattle.text.specs.Hex.{capital}
use Rattle.tables.specs.Choice.{choice}
use Rattle.text.proofs.capital_of.Goals as goal

pub returns-then-n-lt10 : goal.returns-then-n-lt10
unfolding capital
returns-then-n-lt10 c = search choice

pub returns : goal.returns
unfolding capital
returns c = search choice
