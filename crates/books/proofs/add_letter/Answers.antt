use native.Mathlib.Omega.{arith}
use Rattle.tables.specs.Choice.{pick}
use Rattle.text.specs.Adds.{adds_none}
use Rattle.books.proofs.add_letter.Goals as goal

pub returns-then-flag : goal.returns-then-flag
unfolding pick
returns-then-flag c = rw c.if-flag.true (record { adds = c.add_char.ensures; upper_bound = omega arith })

pub returns : goal.returns
unfolding pick
returns c = rw c.if-flag.false (record { adds = adds_none _ _; upper_bound = omega arith })
