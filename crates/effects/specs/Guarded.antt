-- What the value file's function answers for every command and data field: the same as Effects where no reason of the table applies.
use Rattle.std.specs.Prelude.{ℕ, List, eqb}
use Rattle.tables.specs.Choice.{pick}
use Rattle.limits.specs.declared.Limits.{Limits}
use Rattle.purse.specs.declared.Purse.{Purse}
use Rattle.purse.specs.Purse as purse
use Rattle.purse.specs.Guarded.{credit_in, debit_in, rebook_in}
use Rattle.columns.specs.Table.{credit, debit, limited_credit, commit_transaction, abort_transaction}
use Rattle.frames.specs.Frame.{amount_of}

unfoldable pub purse_in : Limits → ℕ → List ℕ → Purse → Purse
purse_in l i d p =
    pick (eqb i credit) (credit_in l p (amount_of d))
    (pick (eqb i debit) (debit_in l p (amount_of d))
    (pick (eqb i limited_credit) (rebook_in l p (amount_of d))
    (pick (eqb i commit_transaction) (purse.settled p)
    (pick (eqb i abort_transaction) (purse.dropped p)
    p))))
