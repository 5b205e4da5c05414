use Rattle.wire.specs.Bytes.{outside_of}
use borrow.Author.Rules.{rules}
use Rattle.wire.proofs.is_outside.Goals as goal

pub returns : goal.returns
unfolding outside_of
returns c = search rules
