-- What is known of an accepted command's data field, its MAC taken off: an accepted write has room, in the new entry or in its data file.
use Rattle.std.specs.Prelude.{ℕ, ◌+◌, ◌≤◌, Bool, ◌||◌, List, ◌≡◌, refl, eqb, leb, length}
use Rattle.std.proofs.Math.Bool.{true, false, not}
use Rattle.std.proofs.Math.Path.{subst}
use Rattle.std.proofs.Common.{arith}
use borrow.Author.Tests.{not-false, eqb-true, ltb-false, le-leb}
use Rattle.tables.specs.Choice.{or_no, none}
use Rattle.wire.specs.Bytes.{outside_of}
use Rattle.wire.proofs.Laws.{length_part}
use Rattle.roles.specs.declared.Role.{Role}
use Rattle.roles.specs.Roles.{is_data, size_of}
use Rattle.logfile.specs.Journal.{entry_size}
use Rattle.access.specs.Rights.{last_key}
use Rattle.frames.specs.Frame.{offset_of, length_of, bytes_in, key_in}
use Rattle.columns.specs.Table.{write_data, write_record, authenticate_first, on_file, suits}
use Rattle.rows.specs.State.{Core}
use Rattle.modes.specs.Modes.{role_in, access_for, plain_of}
use Rattle.rows.specs.Rows.{sent_of, length_cases, wrong_length, other_kind_or_never, switched_off, parameter_cases, bad_parameter, outside, maced_in, rows_for, ok, command_status}
use Rattle.rows.specs.Laws.{command_clear, inside, long_enough, write_inside, entry_inside}

-- of the INS i, the role r of the file that it names, and the data field d
pub record Cleared (c : Core) (i : ℕ) (r : Role) (d : List ℕ) : Type 0 where
  pub inside : outside c.settings.limits c.purse (length c.journal.entries) i r d ≡ false
  pub long : wrong_length false i d ≡ false
  pub on : switched_off i c.settings.limited c.journal.clears ≡ false
  pub sound : bad_parameter i d ≡ false
  pub file : i ≡ write_data → is_data r ≡ true

-- ---- from the status

pub or_false_false : (a : Bool) → ((a || false) || false) ≡ true → a ≡ true
or_false_false true e = refl
or_false_false false e = e

-- a write's length field is the number of bytes sent
pub write_long : (d : List ℕ) → wrong_length false write_data d ≡ false → length d ≡ length_of d + 7
unfolding length_cases sent_of
write_long d w = let n : not (eqb (length d) (length_of d + 7)) ≡ false = search (none (length_cases false write_data d) w) in eqb-true _ _ (not-false _ n)

module _ (c : Core) (i : ℕ) (x : List ℕ) (e : command_status false c i x ≡ ok) where
  abbrev plain : List ℕ
  plain = plain_of (maced_in c i x) x

  abbrev role : Role
  role = role_in c.settings x

  write_file : i ≡ write_data → is_data role ≡ true
  unfolding rows_for other_kind_or_never on_file suits
  write_file q =
      let k : other_kind_or_never i role (access_for c.settings c.channel.stage i x) ≡ false = (command_clear false c i x e).1.1.1.1.0 in
      let w : other_kind_or_never write_data role (access_for c.settings c.channel.stage i x) ≡ false = subst (λ (j : ℕ). other_kind_or_never j role (access_for c.settings c.channel.stage i x) ≡ false) q k in
      let t : suits write_data role ≡ true = not-false _ (or_no (not (suits write_data role)) _ w).0 in
      or_false_false _ t

  pub cleared : Cleared c i role plain
  unfolding rows_for
  cleared =
      let n = command_clear false c i x e in
      record {
        inside = (inside false c i x e).0;
        long = (long_enough false c i x e).0;
        on = n.1.1.1.1.1.1.1.1.0;
        sound = n.1.1.1.1.1.1.1.1.1.0;
        file = write_file;
      }

-- ---- what it says of each command

-- a write's bytes lie inside a room that its range is not outside of
room : (size : ℕ) (d : List ℕ) → length d ≡ length_of d + 7 → outside_of size (offset_of d) (length_of d) ≡ false → offset_of d + length (bytes_in d) ≤ size
unfolding outside_of
room size d q o =
    let l = length_part d 7 (length d) (omega arith) in
    let h = ltb-false size (offset_of d + length_of d) (or_no (leb size (offset_of d)) _ o).1 in
    omega arith

module _ (c : Core) (r : Role) (d : List ℕ) where
  pub entry_room : Cleared c write_record r d → offset_of d + length (bytes_in d) ≤ entry_size
  unfolding length_cases sent_of
  entry_room h =
      let n : not (eqb (length d) (length_of d + 7)) ≡ false = search (none (length_cases false write_record d) h.long) in
      room _ d (eqb-true _ _ (not-false _ n)) (entry_inside _ _ _ r d h.inside)

  pub write_room : Cleared c write_data r d → offset_of d + length (bytes_in d) ≤ size_of r
  write_room h = room _ d (write_long d h.long) (write_inside _ _ _ r d h.inside)

  -- a first part names a key 0 to 4
  pub key_named : Cleared c authenticate_first r d → leb (key_in d) last_key ≡ true
  unfolding parameter_cases
  key_named h = le-leb _ _ (ltb-false last_key (key_in d) (or_no _ _ (none (parameter_cases authenticate_first d) h.sound).1.1.1.0).0)
