use Rattle.books.specs.Books.{stage_text}
use Rattle.books.proofs.add_stage.Goals as goal

pub returns-in-Closed : goal.returns-in-Closed
unfolding stage_text
returns-in-Closed c = rw c.in-Closed.is c.add_char.ensures

pub returns-in-Bench : goal.returns-in-Bench
unfolding stage_text
returns-in-Bench c = rw c.in-Bench.is c.add_number.ensures.adds

pub returns-in-Waiting : goal.returns-in-Waiting
unfolding stage_text
returns-in-Waiting c = rw c.in-Waiting.is c.add_decimal.ensures.adds

pub returns-in-Real : goal.returns-in-Real
unfolding stage_text
returns-in-Real c = rw c.in-Real.is c.add_real.ensures
