-- What status 9100 says of the rows, for each command that a row tests; which MAC is right; and what is pending on the log.
use Rattle.std.specs.Prelude.{ℕ, Bool, true, false, ◌&&◌, ◌||◌, List, [], ◌∷◌, ◌++◌, ◌≡◌, refl, eqb, ltb, length, drop, take, pos, ◌+ℤ◌, ◌-ℤ◌}
use Rattle.std.proofs.Math.Bool.{not}
use Rattle.std.proofs.Common.{sym, ap, ◌∙◌}
use borrow.Author.Tests.{not-false, eqb-true}
use Rattle.tables.specs.Choice.{pick, none, or_no, and_right}
use Rattle.tables.specs.Reasons.{NoReason, no_reason, first_passes}
use Rattle.wire.specs.Bytes.{outside_of}
use Rattle.wire.specs.Same.{same_equal}
use Rattle.roles.specs.declared.Role.{Role}
use Rattle.roles.specs.Roles.{size_of}
use Rattle.limits.specs.declared.Limits.{Limits}
use Rattle.limits.specs.Limits.{within}
use Rattle.purse.specs.declared.Purse.{Purse}
use Rattle.logfile.specs.declared.Log.{Log}
use Rattle.logfile.specs.Journal.{entry_size, some}
use Rattle.logfile.specs.View as log
use Rattle.frames.specs.Frame.{ins_of, data_of, offset_of, length_of, amount_of}
use Rattle.columns.specs.Table.{read_data, write_data, credit, debit, limited_credit, read_records, write_record, get_file_settings, authenticate_first, authenticate_second, on_file}
use Rattle.rows.specs.State.{Core, log_pending}
use Rattle.chains.specs.Chain.{is_open}
use Rattle.channel.specs.declared.Channel.{Channel}
use Rattle.channel.specs.Channel.{is_real, is_waiting, counter_of}
use Rattle.sealing.specs.Sealing.{seal_of}
use Rattle.sealing.specs.Laws.{length_seal}
use Rattle.modes.specs.Modes.{role_in, maced_under, plain_of}
use Rattle.modes.specs.Laws.{plain_sealed, mac_sealed}
use Rattle.rows.specs.Rows.{unknown_command, interrupts, length_cases, wrong_length, lacks_mac, other_kind_or_never, not_granted, part_fails, forged, switched_off, parameter_cases, ranged, room_of, amount_cases, outside, long_read, nothing_pending, maced_in, carries_mac, rows_for, ok, status_for, command_status}

-- none of the sixteen rows applies
pub clear : (o : Bool) (c : Core) (f : List ℕ) → status_for o c f ≡ ok → NoReason (rows_for o c f (ins_of f) (data_of f))
unfolding status_for rows_for
clear o c f e = no_reason (rows_for o c f (ins_of f) (data_of f)) ok refl e

-- none from place 5 on
pub command_clear : (o : Bool) (c : Core) (i : ℕ) (x : List ℕ) → command_status o c i x ≡ ok → NoReason (drop 4 (rows_for o c [] i x))
unfolding command_status rows_for
command_clear o c i x e = no_reason (drop 4 (rows_for o c [] i x)) ok refl e

pub command_ok : (o : Bool) (c : Core) (f : List ℕ) → status_for o c f ≡ ok → command_status o c (ins_of f) (data_of f) ≡ ok
unfolding status_for command_status rows_for
command_ok o c f e =
    let n = clear o c f e in
    sym (first_passes (take 4 (rows_for o c f (ins_of f) (data_of f))) (drop 4 (rows_for o c [] (ins_of f) (data_of f))) ok (n.0, (n.1.0, (n.1.1.0, (n.1.1.1.0, tt))))) ∙ e

-- GetFileSettings is refused at places 1 to 7, and for its MAC or at the counter's end: places 8 and 9 spare it, and so do those behind
pub settings_told : (c : Core) (f x : List ℕ) → NoReason (take 3 (drop 8 (rows_for false c f get_file_settings x))) × NoReason (drop 12 (rows_for false c f get_file_settings x))
unfolding rows_for other_kind_or_never not_granted on_file part_fails switched_off parameter_cases outside ranged amount_cases long_read nothing_pending pick
settings_told c f x = ((refl, (refl, (refl, tt))), (refl, (refl, (refl, (refl, tt)))))

-- what a row that does not apply says, where it joins two cases
module _ (o : Bool) (c : Core) (i : ℕ) (x : List ℕ) (e : command_status o c i x ≡ ok) where
  -- the data field without its MAC
  abbrev pub plain_in : List ℕ
  plain_in = plain_of (carries_mac o c i x) x

  pub known : unknown_command o c.channel.stage i ≡ false
  unfolding rows_for
  known = (command_clear o c i x e).0

  -- place 5a
  pub unbroken : interrupts c.channel.stage c.channel.chain i ≡ false
  unfolding rows_for
  unbroken = (command_clear o c i x e).1.0

  pub no_chain : is_open c.channel.chain ≡ false
  unfolding interrupts
  no_chain = (or_no (is_waiting c.channel.stage && not (eqb i authenticate_second)) _ unbroken).1

  pub long_enough : (wrong_length o i plain_in ≡ false) × (lacks_mac (carries_mac o c i x) x ≡ false)
  unfolding rows_for
  long_enough = or_no _ _ (command_clear o c i x e).1.1.0

  -- place 12
  pub inside : (outside c.settings.limits c.purse (length c.journal.entries) i (role_in c.settings x) plain_in ≡ false)
      × (long_read (carries_mac o c i x) i (role_in c.settings x) plain_in ≡ false)
  unfolding rows_for
  inside = or_no _ _ (command_clear o c i x e).1.1.1.1.1.1.1.1.1.1.0

-- ---- the parts of an authentication

-- they carry no MAC
pub first_plain : (c : Core) (x : List ℕ) → maced_in c authenticate_first x ≡ false
unfolding maced_under on_file
first_plain c x = and_right (is_real c.channel.stage) false refl

pub second_plain : (c : Core) (x : List ℕ) → maced_in c authenticate_second x ≡ false
unfolding maced_under on_file
second_plain c x = and_right (is_real c.channel.stage) false refl

pub second_length : (o : Bool) (d : List ℕ) → wrong_length o authenticate_second d ≡ false → length d ≡ 32
unfolding length_cases
second_length o d e = eqb-true (length d) 32 (not-false _ (none (length_cases o authenticate_second d) e).1.1.1.1.1.1.1.1.1.1.1.1.1.0)

module _ (l : Limits) (p : Purse) (n : ℕ) (r : Role) (d : List ℕ) where
  pub read_inside : outside l p n read_data r d ≡ false → outside_of (size_of r) (offset_of d) (length_of d) ≡ false
  unfolding outside ranged room_of pick
  read_inside e = e

  pub write_inside : outside l p n write_data r d ≡ false → outside_of (size_of r) (offset_of d) (length_of d) ≡ false
  unfolding outside ranged room_of pick
  write_inside e = e

  pub entries_inside : outside l p n read_records r d ≡ false → outside_of n (offset_of d) (length_of d) ≡ false
  unfolding outside ranged room_of pick
  entries_inside e = e

  pub entry_inside : outside l p n write_record r d ≡ false → outside_of entry_size (offset_of d) (length_of d) ≡ false
  unfolding outside ranged room_of pick
  entry_inside e = e

  pub credit_inside : outside l p n credit r d ≡ false → within l (p.pending +ℤ pos (amount_of d)) ≡ true
  unfolding outside ranged amount_cases pick
  credit_inside e = not-false _ (none (amount_cases l p credit (amount_of d)) e).0

  pub debit_inside : outside l p n debit r d ≡ false → within l (p.pending -ℤ pos (amount_of d)) ≡ true
  unfolding outside ranged amount_cases pick
  debit_inside e = not-false _ (none (amount_cases l p debit (amount_of d)) e).1.0

  pub rebook_inside : outside l p n limited_credit r d ≡ false → (not (within l (p.pending +ℤ pos (amount_of d))) ≡ false) × (ltb p.left (amount_of d) ≡ false)
  unfolding outside ranged amount_cases pick
  rebook_inside e = or_no _ _ (none (amount_cases l p limited_credit (amount_of d)) e).1.1.0

-- ---- a MAC

-- the one that the terminal of the card's session puts in is right
pub right_mac : (k : Channel) (i : ℕ) (d : List ℕ) → forged k true i (d ++ seal_of k.secret i (counter_of k.stage) k.ti d) ≡ false
unfolding forged
right_mac k i d =
    let t = seal_of k.secret i (counter_of k.stage) k.ti d in
    let l = length_seal k.secret i (counter_of k.stage) k.ti d in
    rw (mac_sealed d t l, plain_sealed d t l) (ap not (same_equal t t refl))

-- ---- the log

-- what is pending on it by its two flags
pub pending_view : (l : Log) → log_pending (log.view l) ≡ (l.adds || l.clears)
unfolding log_pending log.view some pick
pending_view l = by l.adds
  where
    by : (b : Bool) → (some (pick b (l.entry ∷ []) []) || l.clears) ≡ (b || l.clears)
    by true = refl
    by false = refl
