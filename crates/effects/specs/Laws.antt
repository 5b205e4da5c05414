-- What holds of each command that changes value or log, and of every other INS, holds of every INS.
use Rattle.std.specs.Prelude.{ℕ, List, Bool, true, false, ◌≡◌, refl, eqb}
use Rattle.std.proofs.Common.{sym, subst, eqb-true}
use Rattle.tables.specs.Choice.{pick, passed}
use Rattle.purse.specs.declared.Purse.{Purse}
use Rattle.logfile.specs.Journal.{Journal}
use Rattle.columns.specs.Table.{credit, debit, limited_credit, write_record, clear_record_file, commit_transaction, abort_transaction}
use Rattle.effects.specs.Effects.{purse_after, journal_after, stored_after}

-- an INS of none of them
pub record Other (i : ℕ) : Type 0 where
  pub no_credit : eqb i credit ≡ false
  pub no_debit : eqb i debit ≡ false
  pub no_rebook : eqb i limited_credit ≡ false
  pub no_entry : eqb i write_record ≡ false
  pub no_clear : eqb i clear_record_file ≡ false
  pub no_commit : eqb i commit_transaction ≡ false
  pub no_abort : eqb i abort_transaction ≡ false

module _ (P : ℕ → Type 0) where
  either : (i k : ℕ) → P k → (eqb i k ≡ false → P i) → P i
  either i k p q = by (eqb i k) refl
    where
      by : (b : Bool) → eqb i k ≡ b → P i
      by true e = subst P (sym (eqb-true i k e)) p
      by false e = q e

  pub by_name : P credit → P debit → P limited_credit → P write_record → P clear_record_file → P commit_transaction → P abort_transaction
      → ((i : ℕ) → Other i → P i) → (i : ℕ) → P i
  by_name p1 p2 p3 p4 p5 p6 p7 q i =
      either i credit p1 λ e1.
      either i debit p2 λ e2.
      either i limited_credit p3 λ e3.
      either i write_record p4 λ e4.
      either i clear_record_file p5 λ e5.
      either i commit_transaction p6 λ e6.
      either i abort_transaction p7 λ e7. q i (record { no_credit = e1; no_debit = e2; no_rebook = e3; no_entry = e4; no_clear = e5; no_commit = e6; no_abort = e7 })

-- ---- an INS of none of them changes neither

module _ (i : ℕ) (d : List ℕ) where
  pub purse_other : (p : Purse) → Other i → purse_after i d p ≡ p
  unfolding purse_after pick
  purse_other p o = simp (o.no_credit, o.no_debit, o.no_rebook, o.no_commit, o.no_abort)

  pub journal_other : (j : Journal) → Other i → journal_after i d j ≡ j
  unfolding journal_after pick
  journal_other j o = simp (o.no_entry, o.no_clear, o.no_commit, o.no_abort)

-- and stores no slot byte
pub stored_other : (i : ℕ) (j : Journal) → Other i → stored_after i j ≡ 0
unfolding stored_after
stored_other i j o = passed _ _ o.no_commit
