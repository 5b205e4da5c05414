-- What is pending on a card is the work of the open transaction's operations, and a commit books it.
use Rattle.std.specs.Prelude.{ℕ, ◌+◌, ◌≤◌, min, Bool, ◌≡◌, ℤ, length, take, replicate}
use Rattle.std.proofs.Math.Bool.{true, false}
use mathlib.Core.List.{List, [], ◌∷◌, ◌++◌}
use Rattle.std.proofs.Math.Path.{refl}
use Rattle.std.proofs.Common.{◌∙◌, arith}
use Rattle.tables.specs.Choice.{pick}
use Rattle.wire.specs.Bytes.{laid, laid_in}
use Rattle.wire.proofs.Laws.{laid_room}
use Rattle.purse.specs.declared.Purse.{Purse}
use Rattle.purse.specs.Purse as purse
use Rattle.logfile.specs.Journal.{Journal}
use Rattle.logfile.specs.Journal as journal
use Rattle.logfile.specs.Fit.{Fit}
use Rattle.logfile.proofs.FitLaws.{length_fresh}
use Rattle.demands.specs.Books.{Op, paid_in, paid_out, rebooked, entered, cleared, outflow, inflow, is_debit, is_rebooking, is_entry, is_clear, sum, some, value_after, allowance_after, overwritten}
use Rattle.demands.proofs.Laws.Posting.{one_more, has_clear, plus, minus, value_none, log_after}

-- ---- the value file

pub record OpenPurse (p : Purse) (tx : List Op) : Type 0 where
  pub value : p.pending ≡ value_after p.value tx
  pub left : p.left ≡ pick (some is_rebooking tx) 0 p.allowance
  pub debits : p.debits ≡ min (sum outflow tx) 2147483647
  pub debited : p.debited ≡ some is_debit tx

pub purse_rests : (v : ℤ) (a : ℕ) → OpenPurse (purse.resting v a) []
unfolding purse.resting sum some pick
purse_rests v a = record { value = value_none v; left = refl; debits = refl; debited = refl }

module _ (p : Purse) (tx : List Op) (h : OpenPurse p tx) where
  pub purse_in_lem : (n : ℕ) → OpenPurse (purse.credited p n) (tx ++ (paid_in n ∷ []))
  unfolding purse.credited value_after
  purse_in_lem n = record { value = simp one_more (rw h.value (plus p.value (sum inflow tx) (sum outflow tx) n)); left = simp one_more h.left; debits = simp one_more h.debits; debited = simp one_more h.debited }

  pub purse_out : (n : ℕ) → OpenPurse (purse.debited p n) (tx ++ (paid_out n ∷ []))
  unfolding purse.debited value_after
  purse_out n = record { value = simp one_more (rw h.value (minus p.value (sum inflow tx) (sum outflow tx) n)); left = simp one_more h.left; debits = simp one_more (omega (arith, h.debits)); debited = simp one_more }

  pub purse_rebooked : (n : ℕ) → OpenPurse (purse.rebooked p n) (tx ++ (rebooked n ∷ []))
  unfolding purse.rebooked value_after pick
  purse_rebooked n = record { value = simp one_more (rw h.value (plus p.value (sum inflow tx) (sum outflow tx) n)); left = simp one_more; debits = simp one_more h.debits; debited = simp one_more h.debited }

  pub purse_entered : (at : ℕ) (bytes : List ℕ) → OpenPurse p (tx ++ (entered at bytes ∷ []))
  unfolding value_after
  purse_entered at bytes = record { value = simp one_more h.value; left = simp one_more h.left; debits = simp one_more h.debits; debited = simp one_more h.debited }

  pub purse_cleared : OpenPurse p (tx ++ (cleared ∷ []))
  unfolding value_after
  purse_cleared = record { value = simp one_more h.value; left = simp one_more h.left; debits = simp one_more h.debits; debited = simp one_more h.debited }

  pub allowance_booked : pick p.debited p.debits p.left ≡ allowance_after p.allowance tx
  unfolding allowance_after
  allowance_booked = rw (h.debited, h.debits, h.left)

-- ---- the log

pub record OpenLog (j : Journal) (tx : List Op) : Type 0 where
  pub clears : j.clears ≡ some is_clear tx
  pub adds : some is_clear tx ≡ false → journal.some j.fresh ≡ some is_entry tx
  pub entry : some is_clear tx ≡ false → journal.fresh_or journal.blank j.fresh ≡ overwritten (replicate 16 0) tx

pub log_rests : (es : List (List ℕ)) → OpenLog (journal.resting es) []
unfolding journal.resting journal.fresh_or journal.blank journal.some some overwritten
log_rests es = record { clears = refl; adds = λ _. refl; entry = λ _. refl }

pushed_one : (fs es : List (List ℕ)) → journal.pushed fs es ≡ pick (journal.some fs) (take 4 (journal.fresh_or journal.blank fs ∷ es)) es
unfolding journal.pushed journal.fresh_or journal.some pick
pushed_one [] es = refl
pushed_one (f ∷ fs) es = refl

module _ (j : Journal) (tx : List Op) (h : OpenLog j tx) where
  pub log_in : (n : ℕ) → OpenLog j (tx ++ (paid_in n ∷ []))
  unfolding overwritten
  log_in n = record { clears = simp one_more h.clears; adds = simp one_more h.adds; entry = simp one_more h.entry }

  pub log_out : (n : ℕ) → OpenLog j (tx ++ (paid_out n ∷ []))
  unfolding overwritten
  log_out n = record { clears = simp one_more h.clears; adds = simp one_more h.adds; entry = simp one_more h.entry }

  pub log_rebooked : (n : ℕ) → OpenLog j (tx ++ (rebooked n ∷ []))
  unfolding overwritten
  log_rebooked n = record { clears = simp one_more h.clears; adds = simp one_more h.adds; entry = simp one_more h.entry }

  pub log_entered : Fit j → (at : ℕ) (bytes : List ℕ) → at + length bytes ≤ 16 → OpenLog (journal.written j at bytes) (tx ++ (entered at bytes ∷ []))
  unfolding overwritten journal.written journal.fresh_or journal.some
  log_entered f at bytes room =
      let sized = length_fresh journal.blank j.fresh (unfold journal.blank in refl) f.fresh_sized in
      let e : laid_in (journal.fresh_or journal.blank j.fresh) at bytes ≡ laid (journal.fresh_or journal.blank j.fresh) at bytes = laid_room _ at bytes (omega arith) in
      record { clears = simp one_more h.clears; adds = simp one_more (λ _. refl); entry = simp one_more (λ q. e ∙ rw (h.entry q)) }

  pub log_cleared : OpenLog (journal.cleared j) (tx ++ (cleared ∷ []))
  unfolding journal.cleared
  log_cleared = record { clears = simp one_more; adds = λ q. absurd (has_clear tx q); entry = λ q. absurd (has_clear tx q) }

  pub log_booked : (journal.settled j).entries ≡ log_after j.entries tx
  unfolding journal.settled journal.resting log_after
  log_booked = by (some is_clear tx) refl
    where
      by : (t : Bool) → some is_clear tx ≡ t → pick j.clears [] (journal.pushed j.fresh j.entries) ≡ pick (some is_clear tx) [] (pick (some is_entry tx) (take 4 (overwritten (replicate 16 0) tx ∷ j.entries)) j.entries)
      by true q = unfold pick in rw (h.clears, q)
      by false q = unfold pick in rw (h.clears, q, pushed_one j.fresh j.entries, h.adds q, h.entry q)
