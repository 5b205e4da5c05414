use Rattle.lookup.specs.Every.{listed}
use Rattle.text.specs.Hex.{digit_of}
use Rattle.lookup.specs.Tables.{table}
use Rattle.tables.specs.Choice.{pick}
use Rattle.text.proofs.values.Goals as goal

-- one test of all 256 entries
pub returns : goal.returns
unfolding digit_of table pick
returns c = listed _ _ tt
