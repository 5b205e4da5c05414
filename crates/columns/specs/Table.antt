-- The command table, and which kind of file suits a command.
use Rattle.std.specs.Prelude.{ℕ, Bool, ◌&&◌, ◌||◌, eqb}
use Rattle.roles.specs.declared.Role.{Role}
use Rattle.roles.specs.Roles.{is_data, is_value, is_log}

-- ---- INS

abbrev pub read_data : ℕ
read_data = 0xAD

abbrev pub write_data : ℕ
write_data = 0x8D

abbrev pub get_value : ℕ
get_value = 0x6C

abbrev pub credit : ℕ
credit = 0x0C

abbrev pub debit : ℕ
debit = 0xDC

abbrev pub limited_credit : ℕ
limited_credit = 0x1C

abbrev pub read_records : ℕ
read_records = 0xAB

abbrev pub write_record : ℕ
write_record = 0x8B

abbrev pub clear_record_file : ℕ
clear_record_file = 0xEB

abbrev pub commit_transaction : ℕ
commit_transaction = 0xC7

abbrev pub abort_transaction : ℕ
abort_transaction = 0xA7

abbrev pub get_file_settings : ℕ
get_file_settings = 0xF5

-- AuthenticateEV2First, its first part and its second
abbrev pub authenticate_first : ℕ
authenticate_first = 0x71

abbrev pub authenticate_second : ℕ
authenticate_second = 0xAF

-- ---- on which kind of file a command acts

abbrev pub on_data : ℕ → Bool
on_data i = eqb i read_data || eqb i write_data

abbrev pub on_value : ℕ → Bool
on_value i = eqb i get_value || eqb i credit || eqb i debit || eqb i limited_credit

abbrev pub on_log : ℕ → Bool
on_log i = eqb i read_records || eqb i write_record || eqb i clear_record_file

unfoldable pub on_file : ℕ → Bool
on_file i = on_data i || on_value i || on_log i

-- the commands that name a file: these, and GetFileSettings, which any file suits and no right grants
unfoldable pub names_file : ℕ → Bool
names_file i = on_file i || eqb i get_file_settings

-- commit and abort, which name no file
abbrev pub ends : ℕ → Bool
ends i = eqb i commit_transaction || eqb i abort_transaction

-- the base commands and GetFileSettings: all but the two parts of an authentication
abbrev pub is_base : ℕ → Bool
is_base i = names_file i || ends i

-- the commands whose reply has data; they change nothing
abbrev pub shows : ℕ → Bool
shows i = eqb i read_data || eqb i get_value || eqb i read_records || eqb i get_file_settings

-- ---- granted by: R, W as listed; RW grants every command on a file

abbrev pub by_read : ℕ → Bool
by_read i = eqb i read_data || eqb i get_value || eqb i debit || eqb i read_records

abbrev pub by_write : ℕ → Bool
by_write i = eqb i write_data || eqb i get_value || eqb i debit || eqb i limited_credit || eqb i write_record

-- ---- a file of this role is of the kind on which the command acts

unfoldable pub suits : ℕ → Role → Bool
suits i r = (on_data i && is_data r) || (on_value i && is_value r) || (on_log i && is_log r)
