-- The standing rules of a state, with the sizes of its files and entries, and that every step keeps them.
use Rattle.std.specs.Prelude.{ℕ, Bool, true, false, ◌&&◌, List, ◌≡◌, drop, Option}
use Rattle.std.proofs.Math.Bool.{or-true}
use Rattle.std.proofs.Math.Path.{refl}
use Rattle.std.proofs.Common.{subst, eqb-true}
use Rattle.std.proofs.lemmas.Bool.{not-false}
use Rattle.tables.specs.Choice.{pick, pick_both, pick_cases}
use Rattle.roles.specs.declared.Role.{Role}
use Rattle.datafiles.specs.declared.Files.{Files}
use Rattle.datafiles.specs.Laws.{Sized}
use Rattle.datafiles.proofs.Laws.{written_sized}
use Rattle.limits.specs.declared.Limits.{Limits}
use Rattle.limits.specs.Limits.{crossed}
use Rattle.purse.specs.declared.Purse.{Purse}
use Rattle.standing.specs.Laws as rules-laws
use Rattle.logfile.specs.Journal.{Journal}
use Rattle.logfile.specs.Journal as journal
use Rattle.logfile.specs.Fit.{Fit}
use Rattle.logfile.proofs.FitLaws.{fit_written, fit_cleared, fit_settled, fit_dropped}
use Rattle.wire.specs.Listed.{length_filled}
use Rattle.chains.specs.Chain.{unchained}
use Rattle.chains.specs.Laws.{none_sound}
use Rattle.channel.specs.declared.Stage.TheVariants.{Closed}
use Rattle.channel.specs.declared.Inputs.{Inputs}
use Rattle.channel.specs.Channel.{stage_of}
use Rattle.channel.specs.Fitting.{Fitting}
use Rattle.channel.proofs.Fitting.{bare_fitting, bench_sound, key_sound, counted_fitting}
use Rattle.cmac.specs.Laws.{length_cmac}
use Rattle.derivation.specs.Derivation.{mac_key}
use Rattle.handshake.specs.Handshake.{caps_of}
use Rattle.authentication.specs.Authentication.{begun, opened}
use Rattle.access.specs.Rights.{session_sound}
use Rattle.frames.specs.Frame.{offset_of, bytes_in}
use Rattle.columns.specs.Table.{write_record, authenticate_first}
use Rattle.settings.specs.Settings.{rights_broken, number_above, number_twice}
use Rattle.rows.specs.State.{Core, State, log_pending}
use Rattle.rows.specs.Rows.{switched_off}
use Rattle.rows.specs.Laws.{credit_inside, debit_inside, rebook_inside}
use Rattle.rows.specs.Inside.{Cleared, key_named}
use Rattle.effects.specs.Effects.{purse_after, journal_after, files_after}
use Rattle.effects.specs.Laws.{by_name, purse_other, journal_other}
use Rattle.card.specs.Events.{channel_after, changed, ended, with_session}
use Rattle.demands.specs.History.{Handed}

-- a new entry and a clear are never pending together
abbrev pub both : Journal → Bool
both j = journal.some j.fresh && j.clears

pub record Sound (s : State) : Type 0 where
  pub rights : rights_broken s.core.settings ≡ false
  pub limits : crossed s.core.settings.limits ≡ false
  pub above : number_above s.core.settings ≡ false
  pub twice : number_twice s.core.settings ≡ false
  pub channel : Fitting s.core.channel
  pub figures : rules-laws.Sound s.core.settings.limits s.core.purse (log_pending s.core.journal)
  pub journal : Fit s.core.journal
  pub apart : both s.core.journal ≡ false
  pub files : Sized s.files

-- ---- an accepted command, part by part

-- something new is pending on the log, and the purse is as it was
log_pends : {l : Limits} {p : Purse} {b : Bool} → rules-laws.Sound l p b → rules-laws.Sound l p true
log_pends {l} {p} h = record { value = h.value; pending = h.pending; allowance = h.allowance; left = h.left; debits = h.debits; noted = h.noted; equal = rw (or-true p.moved) }

module _ (c : Core) (r : Role) (d : List ℕ) where
  figures_kept : rules-laws.Sound c.settings.limits c.purse (log_pending c.journal) → (i : ℕ) → Cleared c i r d
      → rules-laws.Sound c.settings.limits (purse_after i d c.purse) (log_pending (journal_after i d c.journal))
  unfolding purse_after journal_after pick log_pending journal.written journal.cleared journal.some
  figures_kept h =
      by_name (λ i. Cleared c i r d → rules-laws.Sound c.settings.limits (purse_after i d c.purse) (log_pending (journal_after i d c.journal)))
      (λ e. rules-laws.credited_sound _ h _ (credit_inside _ _ _ r d e.inside))
      (λ e. rules-laws.debited_sound _ h _ (debit_inside _ _ _ r d e.inside))
      (λ e. rules-laws.rebooked_sound _ h _ (not-false _ (rebook_inside _ _ _ r d e.inside).0))
      (λ e. log_pends h)
      (λ e. log_pends h)
      (λ e. rules-laws.settled_sound _ h)
      (λ e. rules-laws.dropped_sound _ h)
      (λ i o e. rw (purse_other i d c.purse o, journal_other i d c.journal o) h)

  journal_kept : Fit c.journal → (i : ℕ) → Fit (journal_after i d c.journal)
  unfolding journal_after pick
  journal_kept h =
      by_name (λ i. Fit (journal_after i d c.journal)) h h h (fit_written _ _ _ h) (fit_cleared _ h) (fit_settled _ h) (fit_dropped _ h)
      (λ i o. rw (journal_other i d c.journal o) h)

  no_clear_pending : Cleared c write_record r d → c.journal.clears ≡ false
  unfolding switched_off
  no_clear_pending e = e.on

  apart_kept : both c.journal ≡ false → (i : ℕ) → Cleared c i r d → both (journal_after i d c.journal) ≡ false
  unfolding journal_after pick journal.written journal.cleared journal.settled journal.dropped journal.resting journal.some
  apart_kept h =
      by_name (λ i. Cleared c i r d → both (journal_after i d c.journal) ≡ false)
      (λ e. h) (λ e. h) (λ e. h) no_clear_pending (λ e. refl) (λ e. refl) (λ e. refl)
      (λ i o e. rw (journal_other i d c.journal o) h)

files_kept : (f : Files) (i : ℕ) (r : Role) (d : List ℕ) → Sized f → Sized (files_after i r d f)
unfolding files_after
files_kept f i r d h = pick_both Sized _ _ _ (written_sized f r (offset_of d) (bytes_in d) h) h

-- ---- the channel

channel_kept : (c : Core) (u : Inputs) (i : ℕ) (r : Role) (d : List ℕ) → Handed u → Fitting c.channel → Cleared c i r d → Fitting (channel_after c.keys u i d c.channel)
unfolding channel_after
channel_kept c u i r d handed h e =
    pick_cases Fitting _ _ _
    (λ t. unfold begun caps_of in record { known = key_named c r d (subst (λ (j : ℕ). Cleared c j r d) (eqb-true i authenticate_first t) e); secret = handed.random; ti = handed.ti; caps = length_filled 6 (drop 2 d); chain = none_sound; free = unfold unchained in refl })
    (λ _. pick_cases Fitting _ _ _
    (λ t. unfold opened mac_key in record { known = key_sound c.channel.stage h.known; secret = length_cmac _ _; ti = h.ti; caps = refl; chain = none_sound; free = unfold unchained in refl })
    (λ _. counted_fitting c.channel h))

-- ---- the steps

pub changed_sound : (s : State) (u : Inputs) (i : ℕ) (r : Role) (d : List ℕ) → Handed u → Sound s → Cleared s.core i r d → Sound (changed s u i r d)
unfolding changed
changed_sound s u i r d handed h e =
    record {
      rights = h.rights;
      limits = h.limits;
      above = h.above;
      twice = h.twice;
      channel = channel_kept s.core u i r d handed h.channel e;
      figures = figures_kept s.core r d h.figures i e;
      journal = journal_kept s.core r d h.journal i;
      apart = apart_kept s.core r d h.apart i e;
      files = files_kept s.files i r d h.files;
    }

pub ended_sound : (s : State) → Sound s → Sound (ended s)
unfolding ended journal.dropped journal.resting journal.some
ended_sound s h =
    record {
      rights = h.rights;
      limits = h.limits;
      above = h.above;
      twice = h.twice;
      channel = bare_fitting Closed refl;
      figures = rules-laws.dropped_sound _ h.figures;
      journal = fit_dropped _ h.journal;
      apart = refl;
      files = h.files;
    }

pub session_sound_lem : (s : State) (k : Option ℕ) → Sound s → session_sound k ≡ true → Sound (with_session s k)
unfolding with_session
session_sound_lem s k h e = record { rights = h.rights; limits = h.limits; above = h.above; twice = h.twice; channel = bare_fitting (stage_of k) (bench_sound k e); figures = h.figures; journal = h.journal; apart = h.apart; files = h.files }
