-- The card of an accepted personalisation: it keeps the rules, nothing is pending, and its books hold the starting value alone.
use Rattle.std.proofs.Math.Bool.{false}
use Rattle.refusals.specs.declared.Refusal.{Refusal}
use Rattle.refusals.specs.Numbers.{number, number_of}
use Rattle.std.specs.Prelude.{Bool, true, not, List, [], ◌∷◌, ◌≡◌, ℤ, Option, Some}
use Rattle.std.proofs.Math.Path.{refl}
use Rattle.std.proofs.Common.{arith, sym, ap, ◌∙◌}
use Rattle.std.proofs.lemmas.Bool.{not-false}
use Rattle.tables.specs.Choice.{pick}
use Rattle.tables.specs.Reasons.{Reason, ◌when◌, first, no_reason}
use Rattle.datafiles.specs.Files as files
use Rattle.datafiles.proofs.Laws.{sized}
use Rattle.limits.specs.Limits.{crossed, within}
use Rattle.purse.specs.Purse as purse
use Rattle.standing.specs.Laws as rules-laws
use Rattle.logfile.specs.Ring as ring
use Rattle.logfile.specs.View as log
use Rattle.logfile.specs.Journal as journal
use Rattle.logfile.proofs.Laws as logfile
use Rattle.keys.specs.declared.Keys.{Keys}
use Rattle.chains.specs.Chain.{unchained, chain_sound}
use Rattle.channel.specs.Channel.{bare}
use Rattle.settings.specs.declared.Settings.{Settings}
use Rattle.settings.specs.Settings.{rights_broken, number_above, number_twice}
use Rattle.card.specs.View.{view}
use Rattle.standing.specs.Parts.{log_broken, chain_broken}
use Rattle.standing.proofs.Parts.{joined}
use Rattle.standing.specs.Rules.{first_fault, order_refusal}
use Rattle.card.specs.Events.{issued}
use Rattle.demands.specs.History.{books_of}
use Rattle.demands.specs.Demands.{Kept, Taken}
use Rattle.demands.proofs.Laws.Steps.{sound_view}
use Rattle.demands.proofs.Laws.Opened.{purse_rests, log_rests}
use Rattle.demands.proofs.Laws.Booked.{Open}

-- a refusal's number, by whether it applies
told : (b : Bool) (r : Refusal) (x : Option Refusal) → number_of (pick b (Some r) x) ≡ pick b (number r) (number_of x)
unfolding pick
told true r x = refl
told false r x = refl

module _ (s : Settings) (ks : Keys) (v : ℤ) (e : Taken s v) where
  reasons : List Reason
  reasons = (1 when rights_broken s) ∷ (2 when crossed s.limits) ∷ (3 when not (within s.limits v)) ∷ (7 when number_above s) ∷ (8 when number_twice s) ∷ []

  none : first reasons 0 ≡ 0
  unfolding order_refusal first_fault reasons
  none = sym (told _ _ _ ∙ ap (pick (rights_broken s) 1) (told _ _ _ ∙ ap (pick (crossed s.limits) 2) (told _ _ _ ∙ ap (pick (not (within s.limits v)) 3) (told _ _ _ ∙ ap (pick (number_above s) 7) (told _ _ _))))) ∙ ap number_of e

  pub issued_kept : Kept (issued s ks v)
  unfolding issued order_refusal first_fault reasons log_broken chain_broken log.empty files.zeros journal.blank bare unchained chain_sound pick
  issued_kept =
      let n = no_reason reasons 0 refl none in
      let figures = rules-laws.resting_sound s.limits v 0 false (not-false _ n.1.1.0) (omega arith) in
      record {
        rules = joined _ _ _ _ _ (n.0, (n.1.0, (n.1.1.1.0, (n.1.1.1.1.0, (refl, (refl, (rules-laws.unbroken figures, (refl, tt))))))));
        files = sized _ refl refl refl;
        slots = refl;
        entry = refl;
        secret = refl;
        ti = refl;
        caps = refl;
      }

  pub issued_open : Open (view (issued s ks v)) []
  unfolding view issued
  issued_open = record { sound = sound_view (issued s ks v) issued_kept; value = purse_rests v 0; entries = rw logfile.view_empty (log_rests []) }

  pub issued_books : books_of (view (issued s ks v)) ≡ record { value = v; allowance = 0; log = [] }
  unfolding view issued purse.resting log.view log.empty ring.ringed
  issued_books = refl
