-- The sixteen reasons for refusal, in the paper's order; and the two of a frame of file bytes.
use Rattle.std.specs.Prelude.{ℕ, ◌+◌, ◌-◌, Bool, true, false, not, ◌&&◌, ◌||◌, List, [], ◌∷◌, ltb, leb, eqb, pos, ◌+ℤ◌, ◌-ℤ◌, length, drop}
use Rattle.tables.specs.Choice.{pick, any}
use Rattle.tables.specs.Reasons.{Reason, ◌when◌, first}
use Rattle.wire.specs.Bytes.{outside_of, same}
use Rattle.roles.specs.declared.Role.{Role}
use Rattle.roles.specs.Roles.{is_file, size_of}
use Rattle.datafiles.specs.Files.{end_of}
use Rattle.limits.specs.declared.Limits.{Limits}
use Rattle.limits.specs.Limits.{within}
use Rattle.purse.specs.declared.Purse.{Purse}
use Rattle.logfile.specs.Journal.{entry_size}
use Rattle.access.specs.declared.Access.{Access}
use Rattle.access.specs.Rights.{last_key, is_never, is_not_granted}
use Rattle.keys.specs.declared.Keys.{Keys}
use Rattle.keys.specs.Keys.{key_at}
use Rattle.chains.specs.declared.Chain.{Chain}
use Rattle.chains.specs.Chain.{is_open, wrong_bytes}
use Rattle.channel.specs.declared.Stage.{Stage}
use Rattle.channel.specs.declared.Channel.{Channel}
use Rattle.channel.specs.Channel.{is_waiting, stage_key, counter_of, last_count}
use Rattle.sealing.specs.Sealing.{seal_of}
use Rattle.handshake.specs.Handshake.{fails}
use Rattle.columns.specs.Table.{read_data, write_data, get_value, credit, debit, limited_credit, read_records, write_record, clear_record_file, commit_transaction, abort_transaction, get_file_settings, authenticate_first, authenticate_second, on_data, on_file, names_file, ends, is_base, suits}
use Rattle.frames.specs.Frame.{ins_of, data_of, offset_of, length_of, amount_of, option_of, key_in, caps_in, lrp_in, wrong_size, wrong_class, wrong_parameters, wrong_frame}
use Rattle.rows.specs.State.{Core, log_pending}
use Rattle.modes.specs.Modes.{role_in, access_for, maced, mac_size, plain_of, mac_of}

-- ---- places 5 to 13: the INS i with the data field d, at the stage g; x is the data field as sent, m that it carries a MAC;
-- r is the role of the file that it names;
-- o says that the frame opens a chain: a WriteData without its bytes and its MAC

-- INS not in the command table; a second part without a first; an opening of another INS than WriteData
unfoldable pub unknown_command : Bool → Stage → ℕ → Bool
unknown_command true g i = not (eqb i write_data)
unknown_command false g i = not (is_base i || eqb i authenticate_first || (eqb i authenticate_second && is_waiting g))

-- a first part waits and this is not the second; a chain is open
unfoldable pub interrupts : Stage → Chain → ℕ → Bool
interrupts g k i = (is_waiting g && not (eqb i authenticate_second)) || is_open k

-- the bytes behind a write's length field: as many as it says, and none in an opening
unfoldable pub sent_of : Bool → List ℕ → ℕ
sent_of true d = 0
sent_of false d = length_of d

-- data field of the wrong length
unfoldable pub length_cases : Bool → ℕ → List ℕ → List Bool
length_cases o i d =
    (eqb i read_data && not (eqb (length d) 7))
    ∷ (eqb i write_data && not (eqb (length d) (sent_of o d + 7)))
    ∷ (eqb i get_value && not (eqb (length d) 1))
    ∷ (eqb i credit && not (eqb (length d) 5))
    ∷ (eqb i debit && not (eqb (length d) 5))
    ∷ (eqb i limited_credit && not (eqb (length d) 5))
    ∷ (eqb i read_records && not (eqb (length d) 7))
    ∷ (eqb i write_record && not (eqb (length d) (sent_of o d + 7)))
    ∷ (eqb i clear_record_file && not (eqb (length d) 1))
    ∷ (eqb i commit_transaction && ltb 1 (length d))
    ∷ (eqb i abort_transaction && ltb 0 (length d))
    ∷ (eqb i get_file_settings && not (eqb (length d) 1))
    ∷ (eqb i authenticate_first && (ltb (length d) 2 || not (eqb (length d) (caps_in d + 2))))
    ∷ (eqb i authenticate_second && not (eqb (length d) 32))
    ∷ []

abbrev pub wrong_length : Bool → ℕ → List ℕ → Bool
wrong_length o i d = any (length_cases o i d)

-- fewer than eight bytes where a MAC comes off
unfoldable pub lacks_mac : Bool → List ℕ → Bool
lacks_mac m x = m && ltb (length x) mac_size

-- file number not in the card
unfoldable pub unknown_file : ℕ → Role → Bool
unknown_file i r = names_file i && not (is_file r)

-- file of another kind; or every condition that could grant the command is Fh
unfoldable pub other_kind_or_never : ℕ → Role → Access → Bool
other_kind_or_never i r a = on_file i && (not (suits i r) || is_never a)

-- no granting condition is free or equals the session key
unfoldable pub not_granted : ℕ → Access → Bool
not_granted i a = on_file i && is_not_granted a

-- a second part that fails
unfoldable pub part_fails : Keys → Channel → ℕ → List ℕ → Bool
part_fails ks ch i d = eqb i authenticate_second && (eqb (length d) 32 && fails (key_at ks (stage_key ch.stage)) ch.secret d)

-- a chain in MAC mode, its MAC unread; sealed says that the command is in that mode
abbrev pub sealed_chain : Bool → Bool → Bool
sealed_chain o sealed = o && sealed

-- wrong MAC
unfoldable pub forged : Channel → Bool → ℕ → List ℕ → Bool
forged ch m i x = m && not (same (mac_of x) (seal_of ch.secret i (counter_of ch.stage) ch.ti (plain_of m x)))

-- a base command or GetFileSettings at command counter FFFFh
unfoldable pub used_up : Stage → ℕ → Bool
used_up g i = is_base i && eqb (counter_of g) last_count

-- LimitedCredit while off; WriteRecord while a clear is pending
unfoldable pub switched_off : ℕ → Bool → Bool → Bool
switched_off i limited clears = (eqb i limited_credit && not limited) || (eqb i write_record && clears)

-- amount of 0 or negative
abbrev pub no_amount : List ℕ → Bool
no_amount d = eqb (amount_of d) 0 || leb 0x80000000 (amount_of d)

-- authentication key above 4, or LRP bit set
abbrev pub no_key : List ℕ → Bool
no_key d = ltb last_key (key_in d) || eqb (lrp_in d) 1

-- these; write of length 0; commit option not 00h
unfoldable pub parameter_cases : ℕ → List ℕ → List Bool
parameter_cases i d =
    ((eqb i credit || eqb i debit || eqb i limited_credit) && no_amount d)
    ∷ ((eqb i write_data || eqb i write_record) && eqb (length_of d) 0)
    ∷ (eqb i commit_transaction && not (eqb (option_of d) 0))
    ∷ (eqb i authenticate_first && no_key d)
    ∷ []

abbrev pub bad_parameter : ℕ → List ℕ → Bool
bad_parameter i d = any (parameter_cases i d)

-- a command with an offset and a length
unfoldable pub ranged : ℕ → Bool
ranged i = on_data i || eqb i read_records || eqb i write_record

-- and the room that they are held to: the file's bytes, the log's entries, a new entry's bytes
unfoldable pub room_of : ℕ → Role → ℕ → ℕ
room_of i r entries = pick (eqb i read_records) entries (pick (eqb i write_record) entry_size (size_of r))

-- the new pending value outside the limits; more than what is left of the allowance
unfoldable pub amount_cases : Limits → Purse → ℕ → ℕ → List Bool
amount_cases l p i a =
    (eqb i credit && not (within l (p.pending +ℤ pos a)))
    ∷ (eqb i debit && not (within l (p.pending -ℤ pos a)))
    ∷ (eqb i limited_credit && (not (within l (p.pending +ℤ pos a)) || ltb p.left a))
    ∷ []

abbrev pub outside_amount : Limits → Purse → ℕ → ℕ → Bool
outside_amount l p i a = any (amount_cases l p i a)

-- outside a file, the log, a limit or the allowance
unfoldable pub outside : Limits → Purse → ℕ → ℕ → Role → List ℕ → Bool
outside l p entries i r d =
    pick (ranged i) (outside_of (room_of i r entries) (offset_of d) (length_of d)) (outside_amount l p i (amount_of d))

-- the most bytes that a read in MAC mode shows
abbrev pub maced_read : ℕ
maced_read = 248

-- a ReadData in MAC mode of more than these, length 0 counted as what it reads
unfoldable pub long_read : Bool → ℕ → Role → List ℕ → Bool
long_read m i r d = eqb i read_data && (m && ltb maced_read (end_of (size_of r) (offset_of d) (length_of d) - offset_of d))

-- commit or abort with nothing pending
unfoldable pub nothing_pending : ℕ → Bool → Bool → Bool
nothing_pending i value log = ends i && not (value || log)

-- ---- the table

-- the command is in MAC mode
abbrev pub maced_in : Core → ℕ → List ℕ → Bool
maced_in c i x = maced c.settings c.channel.stage i x

-- places 1 to 13: the frame f, with the INS i, the data field x, and d, which is x without its MAC where m says that it has one;
-- it names a file of role r, to which access is a
abbrev pub rows_under : Bool → Role → Access → Bool → Core → List ℕ → ℕ → List ℕ → List ℕ → List Reason
rows_under o r a m c f i x d =
    (0x6700 when wrong_size f)
    ∷ (0x6E00 when wrong_class f)
    ∷ (0x6A86 when wrong_parameters f)
    ∷ (0x6700 when wrong_frame f)
    ∷ (0x911C when unknown_command o c.channel.stage i)
    ∷ (0x91CA when interrupts c.channel.stage c.channel.chain i)
    ∷ (0x917E when wrong_length o i d || lacks_mac m x)
    ∷ (0x91F0 when unknown_file i r)
    ∷ (0x919D when other_kind_or_never i r a)
    ∷ (0x91AE when not_granted i a || part_fails c.keys c.channel i d)
    ∷ (0x919D when sealed_chain o (maced_in c i x))
    ∷ (0x911E when forged c.channel m i x || used_up c.channel.stage i)
    ∷ (0x919D when switched_off i c.settings.limited c.journal.clears)
    ∷ (0x919E when bad_parameter i d)
    ∷ (0x91BE when outside c.settings.limits c.purse (length c.journal.entries) i r d || long_read m i r d)
    ∷ (0x910C when nothing_pending i c.purse.moved (log_pending c.journal))
    ∷ []

-- a command in MAC mode carries a MAC; an opening carries none
abbrev pub carries : Bool → Bool → Bool
carries true sealed = false
carries false sealed = sealed

abbrev pub carries_mac : Bool → Core → ℕ → List ℕ → Bool
carries_mac o c i x = carries o (maced_in c i x)

unfoldable pub rows_for : Bool → Core → List ℕ → ℕ → List ℕ → List Reason
rows_for o c f i x =
    rows_under o (role_in c.settings x) (access_for c.settings c.channel.stage i x) (carries_mac o c i x) c f i x (plain_of (carries_mac o c i x) x)

-- where none applies; the status of an accepted command's reply is a matter of the command
abbrev pub ok : ℕ
ok = 0x9100

-- the first reason that applies names the status
unfoldable pub status_for : Bool → Core → List ℕ → ℕ
status_for o c f = first (rows_for o c f (ins_of f) (data_of f)) ok

-- the same from place 5 on
unfoldable pub command_status : Bool → Core → ℕ → List ℕ → ℕ
command_status o c i x = first (drop 4 (rows_for o c [] i x)) ok

-- of a command, and of an opening
abbrev pub status_of : Core → List ℕ → ℕ
status_of = status_for false

abbrev pub opening_status : Core → List ℕ → ℕ
opening_status = status_for true

-- ---- a frame b of file bytes: none without an open chain; another size, or past the announced length

abbrev pub bytes_rows : Chain → List ℕ → List Reason
bytes_rows k b = (0x911C when not (is_open k)) ∷ (0x917E when wrong_bytes k (length b)) ∷ []

unfoldable pub bytes_status : Chain → List ℕ → ℕ
bytes_status k b = first (bytes_rows k b) ok
