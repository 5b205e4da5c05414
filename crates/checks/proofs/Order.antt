-- The order of checks over what the code's tests answer, and that it is the rows'.
use Rattle.std.specs.Prelude.{ℕ, Bool, true, ◌≡◌, Result, Ok, Err, IsErrAnd, not, eqb, length, drop}
use Rattle.std.proofs.Math.Bool.{false}
use mathlib.Core.List.{List, [], ◌∷◌}
use Rattle.std.proofs.Math.Path.{refl, ap}
use Rattle.std.proofs.Common.{sym, ◌∙◌}
use Rattle.std.proofs.lemmas.Bool.{eqb-false}
use Rattle.std.proofs.lemmas.Result.{err_from_is_err_and}
use borrow.Author.Tests.{eq-eqb, ne_eqb}
use Rattle.tables.specs.Choice.{pick, hit, skip, picked}
use Rattle.tables.specs.Reasons.{Reason, ◌when◌, first, no_reason, none_first, first_half, first_refuses, first_passes}
use Rattle.reasons.specs.First.{first_of}
use Rattle.roles.specs.declared.Role.TheVariants.{NoFile}
use Rattle.frames.specs.declared.Faults.{Faults}
use Rattle.frames.specs.Faults.{faults_of}
use Rattle.frames.specs.Frame.{ins_of, data_of, wrong_size, wrong_class, wrong_parameters, wrong_frame}
use Rattle.chains.specs.declared.Chain.{Chain}
use Rattle.chains.specs.Chain.{wrong_bytes}
use Rattle.commands.specs.declared.Places.{Places}
use Rattle.commands.specs.Places.{places_under, places_of}
use Rattle.rows.specs.State.{Core}
use Rattle.modes.specs.Modes.{role_in}
use Rattle.rows.specs.Rows.{carries_mac, rows_for, ok, status_for, command_status, bytes_status}
use Rattle.checks.specs.declared.Status.{Status}
use Rattle.checks.specs.declared.Status.TheVariants.{WrongLength, WrongClass, WrongParameters, UnknownCommand, Aborted, DataLength, NoSuchFile, Denied, NotGranted, Integrity, BadParameter, Outside, NothingPending}
use Rattle.checks.specs.declared.Admitted.{Admitted}
use Rattle.checks.specs.declared.Refused.{Refused}
use Rattle.checks.specs.Order.{word_of, told, Checked, left_by, nameless, command_order, frame_order, frame_part, framed, in_order, maced_for, role_for, checked_of, admitted_of}

-- no refusal's status is ok
pub word_not_ok : (s : Status) → word_of s ≡ ok → ⊥
word_not_ok WrongLength e = eqb-false _ _ refl e
word_not_ok WrongClass e = eqb-false _ _ refl e
word_not_ok WrongParameters e = eqb-false _ _ refl e
word_not_ok UnknownCommand e = eqb-false _ _ refl e
word_not_ok Aborted e = eqb-false _ _ refl e
word_not_ok DataLength e = eqb-false _ _ refl e
word_not_ok NoSuchFile e = eqb-false _ _ refl e
word_not_ok Denied e = eqb-false _ _ refl e
word_not_ok NotGranted e = eqb-false _ _ refl e
word_not_ok Integrity e = eqb-false _ _ refl e
word_not_ok BadParameter e = eqb-false _ _ refl e
word_not_ok Outside e = eqb-false _ _ refl e
word_not_ok NothingPending e = eqb-false _ _ refl e

-- ---- a table of the code's, and of the rules'

abbrev pub rows_of : List (Bool × Status) → List Reason
rows_of [] = []
rows_of (r ∷ rs) = (word_of r.1 when r.0) ∷ rows_of rs

told_pick : (b : Bool) (s : Status) (r : Result (Unit {0}) Status) → told (pick b (Err s) r) ≡ pick b (word_of s) (told r)
unfolding pick
told_pick true s r = refl
told_pick false s r = refl

pub told_first : (rs : List (Bool × Status)) → told (first_of rs) ≡ first (rows_of rs) ok
unfolding first_of
told_first [] = refl
told_first (r ∷ rs) = told_pick r.0 r.1 (first_of rs) ∙ ap (pick r.0 (word_of r.1)) (told_first rs)

-- ---- a frame

command_by : (o : Bool) (c : Core) (i : ℕ) (d : List ℕ) {r : ℕ} {p : Places} → p ≡ places_of o c i d → r ≡ in_order p → r ≡ command_status o c i d
unfolding command_status rows_for command_order places_of places_under
command_by o c i d e q = rw e at q

module _ (o : Bool) (c : Core) (f : List ℕ) where
  frames : List Reason
  frames = frame_part (wrong_size f) (wrong_class f) (wrong_parameters f) (wrong_frame f)

  -- s is what the order makes of the faults v that were asked
  module _ {s : ℕ} {v : Faults} (ev : v ≡ faults_of f) (e : s ≡ frame_order v.size v.class v.parameters v.frame) where
    by_frame : s ≡ first frames ok
    unfolding frame_order faults_of frames
    by_frame = rw ev at e

    pub frame_refuses : (s ≡ ok → ⊥) → s ≡ status_for o c f
    unfolding status_for rows_for frames
    frame_refuses n = by_frame ∙ first_refuses frames (drop 4 (rows_for o c [] (ins_of f) (data_of f))) ok (λ q. n (by_frame ∙ q))

    -- r is what it makes of the places p
    pub frame_passes : {r i : ℕ} {d : List ℕ} {p : Places} → s ≡ ok → i ≡ ins_of f → d ≡ data_of f → p ≡ places_of o c i d → r ≡ in_order p → r ≡ status_for o c f
    unfolding status_for command_status rows_for frames
    frame_passes z ei ed k q = command_by o c _ _ k q ∙ rw (ei, ed) (sym (first_passes frames (drop 4 (rows_for o c [] (ins_of f) (data_of f))) ok (no_reason frames ok refl (sym by_frame ∙ z))))

    pub frame_refused : (s ≡ ok → ⊥) → record { status = s; maced = false; role = NoFile } ≡ checked_of o c f
    unfolding checked_of maced_for role_for framed frame_order frames
    frame_refused n =
        let e = ne_eqb (first frames ok) ok (λ q. n (by_frame ∙ q)) in
        λ i. record { status = frame_refuses n i; maced = skip _ (carries_mac o c (ins_of f) (data_of f)) false e refl i; role = skip _ (role_in c.settings (data_of f)) NoFile e refl i }

    pub frame_passed : {r i : ℕ} {d : List ℕ} {p : Places} → s ≡ ok → i ≡ ins_of f → d ≡ data_of f → p ≡ places_of o c i d → r ≡ in_order p
        → record { status = r; maced = p.maced; role = p.role } ≡ checked_of o c f
    unfolding checked_of maced_for role_for framed frame_order frames places_of places_under
    frame_passed {p = p} z ei ed k q =
        let e = eq-eqb (first frames ok) ok (sym by_frame ∙ z) in
        let a : p.maced ≡ carries_mac o c (ins_of f) (data_of f) = rw (k, ei, ed) refl in
        let b : p.role ≡ role_in c.settings (data_of f) = rw (k, ed) refl in
        λ j. record { status = frame_passes z ei ed k q j; maced = hit _ _ false e a j; role = hit _ _ NoFile e b j }

  -- what an accepted frame carries on
  pub admits : {i : ℕ} {d : List ℕ} {p : Places} → i ≡ ins_of f → d ≡ data_of f → p ≡ places_of o c i d → record { maced = p.maced; role = p.role } ≡ admitted_of o c f
  unfolding places_of places_under
  admits ei ed k = rw (k, ei, ed) refl

  pub status_told : {r : Checked} → r ≡ checked_of o c f → r.status ≡ status_for o c f
  unfolding checked_of
  status_told e = ap (λ (r : Checked). r.status) e

  -- what an accepted frame has
  passes : status_for o c f ≡ ok → framed f ≡ true
  unfolding framed frame_order frames status_for rows_for
  passes z = eq-eqb _ ok (none_first frames ok (first_half frames (drop 4 (rows_for o c [] (ins_of f) (data_of f))) (no_reason (rows_for o c f (ins_of f) (data_of f)) ok refl z)))

  pub maced_told : {r : Checked} → r ≡ checked_of o c f → status_for o c f ≡ ok → r.maced ≡ carries_mac o c (ins_of f) (data_of f)
  unfolding checked_of maced_for
  maced_told e z = ap (λ (r : Checked). r.maced) e ∙ picked _ _ (passes z)

  pub role_told : {r : Checked} → r ≡ checked_of o c f → status_for o c f ≡ ok → r.role ≡ role_in c.settings (data_of f)
  unfolding checked_of role_for
  role_told e z = ap (λ (r : Checked). r.role) e ∙ picked _ _ (passes z)

  -- what a `?` hands on of places 1 to 4
  pub handed_on : (r : Result Admitted Refused) (s : Status) → IsErrAnd r (λ e. e ≡ nameless s) → left_by (Err (nameless s)) ≡ checked_of o c f → left_by r ≡ checked_of o c f
  handed_on r s p h =
      let (e, is, q) = err_from_is_err_and r p in
      ap left_by is ∙ ap (λ x. left_by (Err x)) q ∙ h

  -- an accepted frame is answered what its command takes on
  pub admitted_told : (r : Result Admitted Refused) → left_by r ≡ checked_of o c f → status_for o c f ≡ ok → (a : Admitted) × (r ≡ Ok a) × (a ≡ admitted_of o c f)
  admitted_told (Ok a) h z = (a, refl, λ i. record { maced = maced_told h z i; role = role_told h z i })
  admitted_told (Err x) h z = absurd (word_not_ok x.status (status_told h ∙ z))

-- ---- a frame of file bytes

twice : (b : Bool) → not (not b) ≡ b
twice true = refl
twice false = refl

pub bytes_told : (k : Chain) (b : List ℕ) {w : Bool} {r : Result (Unit {0}) Status} → w ≡ wrong_bytes k (length b)
    → r ≡ first_of ((eqb k.left 0, UnknownCommand) ∷ (w, DataLength) ∷ []) → told r ≡ bytes_status k b
unfolding bytes_status
bytes_told k b ew e = ap told e ∙ told_first _ ∙ rw (ew, twice (eqb k.left 0)) refl
