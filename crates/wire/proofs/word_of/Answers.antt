use native.Mathlib.Omega.{arith}
use borrow.Author.Rules.{rules}
use Rattle.wire.specs.Bytes.{word}
use Rattle.wire.proofs.word_of.Goals as goal

pub returns : goal.returns
unfolding word
returns c = search (rules, arith)
