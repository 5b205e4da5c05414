-- What an accepted command does to each part of the card.
use Rattle.std.specs.Prelude.{ℕ, List, eqb}
use Rattle.tables.specs.Choice.{pick}
use Rattle.roles.specs.declared.Role.{Role}
use Rattle.datafiles.specs.declared.Files.{Files}
use Rattle.datafiles.specs.Files as files
use Rattle.purse.specs.declared.Purse.{Purse}
use Rattle.purse.specs.Purse as purse
use Rattle.logfile.specs.Journal.{Journal}
use Rattle.logfile.specs.Journal as journal
use Rattle.columns.specs.Table.{write_data, credit, debit, limited_credit, write_record, clear_record_file, commit_transaction, abort_transaction}
use Rattle.frames.specs.Frame.{offset_of, bytes_in, amount_of}

-- the value file
unfoldable pub purse_after : ℕ → List ℕ → Purse → Purse
purse_after i d p =
    pick (eqb i credit) (purse.credited p (amount_of d))
    (pick (eqb i debit) (purse.debited p (amount_of d))
    (pick (eqb i limited_credit) (purse.rebooked p (amount_of d))
    (pick (eqb i commit_transaction) (purse.settled p)
    (pick (eqb i abort_transaction) (purse.dropped p)
    p))))

-- the log
unfoldable pub journal_after : ℕ → List ℕ → Journal → Journal
journal_after i d j =
    pick (eqb i write_record) (journal.written j (offset_of d) (bytes_in d))
    (pick (eqb i clear_record_file) (journal.cleared j)
    (pick (eqb i commit_transaction) (journal.settled j)
    (pick (eqb i abort_transaction) (journal.dropped j)
    j)))

-- the slot bytes that it stores
unfoldable pub stored_after : ℕ → Journal → ℕ
stored_after i j = pick (eqb i commit_transaction) (journal.stored j) 0

-- the data files: writes act at once and make nothing pending
unfoldable pub files_after : ℕ → Role → List ℕ → Files → Files
files_after i r d f = pick (eqb i write_data) (files.written f r (offset_of d) (bytes_in d)) f
