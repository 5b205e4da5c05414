-- What the functions show for every command and data field: the same as Replies where no reason of the table applies.
use Rattle.std.specs.Prelude.{ℕ, List, [], eqb, ltb, ℤ}
use Rattle.std.specs.Int.{w32}
use Rattle.std.proofs.Common.{of_z}
use Rattle.tables.specs.Choice.{pick}
use Rattle.wire.specs.Bytes.{four}
use Rattle.roles.specs.declared.Role.{Role}
use Rattle.datafiles.specs.declared.Files.{Files}
use Rattle.datafiles.specs.Files as files
use Rattle.purse.specs.declared.Purse.{Purse}
use Rattle.logfile.specs.declared.Log.{Log}
use Rattle.records.specs.Shown as records
use Rattle.columns.specs.Table.{read_data, get_value, read_records, get_file_settings}
use Rattle.frames.specs.Frame.{offset_of, length_of}
use Rattle.settings.specs.declared.Settings.{Settings}
use Rattle.description.specs.Description.{described_in}

-- in a buffer of this room
unfoldable pub value_in : ℕ → ℤ → List ℕ
value_in room value = pick (ltb room 4) [] (four (of_z w32 value))

unfoldable pub shown_in : ℕ → Settings → Files → Purse → Log → ℕ → Role → List ℕ → List ℕ
shown_in room s f p l i r d =
    pick (eqb i read_data) (files.shown_in room f r (offset_of d) (length_of d))
    (pick (eqb i get_value) (value_in room p.value)
    (pick (eqb i read_records) (records.shown_in room l (offset_of d) (length_of d))
    (pick (eqb i get_file_settings) (described_in room s p.allowance l.count r)
    [])))
