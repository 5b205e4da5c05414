-- What is known of an accepted opening and of an accepted frame of file bytes.
use Rattle.std.specs.Prelude.{ℕ, ◌+◌, ◌≤◌, Bool, false, ◌&&◌, List, [], ◌∷◌, ◌≡◌, refl, eqb, leb, ltb, length}
use Rattle.std.proofs.Math.Bool.{true, not}
use Rattle.std.proofs.Common.{subst, arith, eqb-true, ltb-false}
use Rattle.std.proofs.lemmas.Bool.{not-false, eqb-false}
use Rattle.tables.specs.Choice.{pick, none, or_no}
use Rattle.tables.specs.Reasons.{no_reason}
use Rattle.wire.specs.Bytes.{outside_of}
use Rattle.roles.specs.declared.Role.{Role}
use Rattle.roles.specs.Roles.{is_data, size_of}
use Rattle.chains.specs.declared.Chain.{Chain}
use Rattle.chains.specs.Chain.{is_open, most_bytes, wrong_bytes}
use Rattle.chains.specs.Laws.{Carried}
use Rattle.channel.specs.Channel.{is_waiting}
use Rattle.frames.specs.Frame.{ins_of, data_of, offset_of, length_of}
use Rattle.columns.specs.Table.{write_data, authenticate_second, on_file, suits}
use Rattle.modes.specs.Modes.{role_in, access_for, plain_of}
use Rattle.rows.specs.State.{Core}
use Rattle.rows.specs.Rows.{sent_of, length_cases, unknown_command, interrupts, other_kind_or_never, parameter_cases, rows_for, ok, opening_status, command_status, bytes_rows, bytes_status}
use Rattle.rows.specs.Laws.{command_ok, command_clear, known, unbroken, long_enough, inside, write_inside}
use Rattle.rows.specs.Inside.{or_false_false}

-- ---- an opening

-- of the role r of the file that it names, and of its data field d
pub record Announced (c : Core) (r : Role) (d : List ℕ) : Type 0 where
  pub file : is_data r ≡ true
  pub range : offset_of d + length_of d ≤ size_of r
  pub some : length_of d ≡ 0 → ⊥
  pub ended : is_open c.channel.chain ≡ false
  pub alone : is_waiting c.channel.stage ≡ false
  pub long : length d ≡ 7

-- what each place says of it
module _ (c : Core) (d : List ℕ) (e : command_status true c write_data d ≡ ok) where
  abbrev role : Role
  role = role_in c.settings d

  opened_kind : other_kind_or_never write_data role (access_for c.settings c.channel.stage write_data d) ≡ false
  unfolding rows_for
  opened_kind = (command_clear true c write_data d e).1.1.1.1.0

  opened_file : is_data role ≡ true
  unfolding other_kind_or_never on_file suits
  opened_file = or_false_false _ (not-false _ (or_no (not (suits write_data role)) _ opened_kind).0)

  opened_free : ((is_waiting c.channel.stage && true) ≡ false) × (is_open c.channel.chain ≡ false)
  unfolding interrupts
  opened_free = or_no (is_waiting c.channel.stage && not (eqb write_data authenticate_second)) _ (unbroken true c write_data d e)

  opened_inside : outside_of (size_of role) (offset_of d) (length_of d) ≡ false
  unfolding plain_of pick
  opened_inside = write_inside _ _ _ role d (inside true c write_data d e).0

  opened_range : ltb (size_of role) (offset_of d + length_of d) ≡ false
  unfolding outside_of
  opened_range = (or_no (leb (size_of role) (offset_of d)) _ opened_inside).1

  opened_some : eqb (length_of d) 0 ≡ false
  unfolding rows_for plain_of pick parameter_cases
  opened_some = (none (parameter_cases write_data d) (command_clear true c write_data d e).1.1.1.1.1.1.1.1.1.0).1.0

  opened_seven : not (eqb (length d) 7) ≡ false
  unfolding plain_of pick length_cases sent_of
  opened_seven = (none (length_cases true write_data d) (long_enough true c write_data d e).0).1.0

  announces : Announced c role d
  announces =
      record {
        file = opened_file;
        range = ltb-false _ _ opened_range;
        some = eqb-false _ _ opened_some;
        ended = opened_free.1;
        alone = waits_not (is_waiting c.channel.stage) opened_free.0;
        long = eqb-true _ _ (not-false _ opened_seven);
      }
    where
      waits_not : (b : Bool) → (b && true) ≡ false → b ≡ false
      waits_not true h = h
      waits_not false h = refl

pub opens_write : (c : Core) (f : List ℕ) → opening_status c f ≡ ok → ins_of f ≡ write_data
unfolding unknown_command
opens_write c f e = eqb-true (ins_of f) write_data (not-false _ (known true c (ins_of f) (data_of f) (command_ok true c f e)))

pub opening_announces : (c : Core) (f : List ℕ) → opening_status c f ≡ ok → Announced c (role_in c.settings (data_of f)) (data_of f)
opening_announces c f e = announces c (data_of f) (subst (λ (j : ℕ). command_status true c j (data_of f) ≡ ok) (opens_write c f e) (command_ok true c f e))

-- ---- a frame of file bytes

pub carried : (k : Chain) (b : List ℕ) → bytes_status k b ≡ ok → Carried k (length b)
unfolding bytes_status wrong_bytes
carried k b e =
    let r = no_reason (bytes_rows k b) ok refl e in
    let w = none (eqb (length b) 0 ∷ ltb most_bytes (length b) ∷ ltb k.left (length b) ∷ []) r.1.0 in
    record { opened = not-false _ r.0; some = not_none (length b) (eqb-false _ _ w.0); most = ltb-false _ _ w.1.0; fits = ltb-false _ _ w.1.1.0 }
  where
    not_none : (n : ℕ) → (n ≡ 0 → ⊥) → 1 ≤ n
    not_none n h = omega (arith, h)
