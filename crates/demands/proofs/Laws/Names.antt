-- An INS that changes neither value nor log is nothing to the books.
use Rattle.std.specs.Prelude.{ℕ, List, ◌≡◌}
use Rattle.tables.specs.Choice.{pick}
use Rattle.effects.specs.Laws.{Other}
use Rattle.demands.specs.Strike.{idle}
use Rattle.demands.specs.History.{book_line}

pub book_other : (i : ℕ) (d : List ℕ) → Other i → book_line i d ≡ idle
unfolding book_line pick
book_other i d o = simp (o.no_credit, o.no_debit, o.no_rebook, o.no_entry, o.no_clear, o.no_commit, o.no_abort)
