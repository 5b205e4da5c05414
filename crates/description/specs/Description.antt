-- What GetFileSettings shows; figures go least significant byte first.
use Rattle.std.specs.Prelude.{ℕ, ◌+◌, List, [], ◌∷◌, ◌++◌, ltb, take}
use Rattle.std.specs.Int.{w32}
use Rattle.std.proofs.Common.{of_z}
use Rattle.tables.specs.Choice.{pick}
use Rattle.wire.specs.Bytes.{four}
use Rattle.roles.specs.declared.Role.{Role}
use Rattle.roles.specs.Roles.{is_data, is_value, size_of}
use Rattle.logfile.specs.Journal.{entry_size, most_entries}
use Rattle.settings.specs.declared.FileSettings.{FileSettings}
use Rattle.settings.specs.declared.Settings.{Settings}
use Rattle.settings.specs.Settings.{file_at}

-- the first bytes of a number, as many as its field is wide
abbrev pub figure : ℕ → ℕ → List ℕ
figure width v = take width (four v)

-- file kind, option byte and rights
abbrev pub head_of : ℕ → ℕ → ℕ → List ℕ
head_of kind option rights = kind ∷ option ∷ figure 2 rights

-- then the size for data
abbrev pub of_data : ℕ → ℕ → ℕ → List ℕ
of_data option rights size = head_of 0x00 option rights ++ figure 3 size

-- lower limit, upper limit, committed allowance and the byte of switches for value
abbrev pub of_value : ℕ → ℕ → ℕ → ℕ → ℕ → ℕ → List ℕ
of_value option rights lower upper allowance switches = head_of 0x02 option rights ++ figure 4 lower ++ figure 4 upper ++ figure 4 allowance ++ figure 1 switches

-- entry size, largest and committed number of entries for the log
abbrev pub of_log : ℕ → ℕ → ℕ → ℕ → ℕ → List ℕ
of_log option rights size most entries = head_of 0x04 option rights ++ figure 3 size ++ figure 3 most ++ figure 3 entries

-- the switches: bit 0 LimitedCredit on, bit 1 free GetValue
unfoldable pub switches_of : Settings → ℕ
switches_of s = pick s.limited 1 0 + pick s.free 2 0

-- the option byte: 01h for a file in MAC mode, else 00h
unfoldable pub option_of : FileSettings → ℕ
option_of f = pick f.maced 0x01 0x00

-- the file of role r by its kind, with the committed allowance and the committed number of entries
unfoldable pub described : Settings → ℕ → ℕ → Role → List ℕ
described s allowance entries r =
    let f = file_at s r in
    pick (is_data r) (of_data (option_of f) f.rights (size_of r))
    (pick (is_value r) (of_value (option_of f) f.rights (of_z w32 s.limits.lower) (of_z w32 s.limits.upper) allowance (switches_of s))
    (of_log (option_of f) f.rights entry_size most_entries entries))

-- in a buffer of this room
unfoldable pub described_in : ℕ → Settings → ℕ → ℕ → Role → List ℕ
described_in room s allowance entries r = pick (ltb room 17) [] (described s allowance entries r)
