use borrow.Author.Rules.{rules}
use Rattle.standing.specs.Parts.{log_broken}
use Rattle.standing.proofs.log_breaks.Goals as goal

pub returns : goal.returns
unfolding log_broken
returns c = search rules
