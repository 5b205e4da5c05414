-- The data of an accepted command's reply: reads show committed figures only.
use Rattle.std.specs.Prelude.{ℕ, List, [], eqb, length}
use Rattle.std.specs.Int.{w32}
use Rattle.std.proofs.Common.{of_z}
use Rattle.tables.specs.Choice.{pick}
use Rattle.wire.specs.Bytes.{four}
use Rattle.roles.specs.declared.Role.{Role}
use Rattle.datafiles.specs.declared.Files.{Files}
use Rattle.datafiles.specs.Files as files
use Rattle.purse.specs.declared.Purse.{Purse}
use Rattle.logfile.specs.Journal.{Journal}
use Rattle.logfile.specs.Journal as journal
use Rattle.columns.specs.Table.{read_data, get_value, read_records, get_file_settings}
use Rattle.frames.specs.Frame.{offset_of, length_of}
use Rattle.settings.specs.declared.Settings.{Settings}
use Rattle.description.specs.Description.{described}

unfoldable pub shown_of : Settings → Files → Purse → Journal → ℕ → Role → List ℕ → List ℕ
shown_of s f p j i r d =
    pick (eqb i read_data) (files.shown f r (offset_of d) (length_of d))
    (pick (eqb i get_value) (four (of_z w32 p.value))
    (pick (eqb i read_records) (journal.shown j (offset_of d) (length_of d))
    (pick (eqb i get_file_settings) (described s p.allowance (length j.entries) r)
    [])))
