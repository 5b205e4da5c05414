-- Demand 2, proved.
use Rattle.std.specs.Prelude.{ℕ, List, ◌↔◌, ◌≡◌, ℤ}
use Rattle.std.proofs.Math.Bool.{true, false}
use Rattle.std.proofs.Math.Path.{refl}
use Rattle.std.proofs.Common.{sym, ◌∙◌, ap}
use Rattle.tables.specs.Reasons.{Reason, first, NoReason, refusals, no_reason, none_first}
use Rattle.keys.specs.declared.Keys.{Keys}
use Rattle.settings.specs.declared.Settings.{Settings}
use Rattle.frames.specs.Frame.{ins_of, data_of}
use Rattle.rows.specs.Rows.{rows_for, ok, status_for, bytes_rows, bytes_status}
use Rattle.card.specs.declared.Card.{Card}
use Rattle.card.specs.View.{view}
use Rattle.card.specs.Outcome.{Outcome, answered_one}
use Rattle.card.specs.Events.{Played, judged, played, laid_into, benched, commanded, opening_played, chain_opened, bytes_played, bytes_sent, issued}
use Rattle.card.specs.Events as events
use Rattle.card.proofs.Laws.{bench_plays, judged_accepted, judged_refused}
use Rattle.demands.specs.History.{Event}
use Rattle.demands.specs.Demands.{FirstRow, Judged, rows_on, Demand2, Taken, reached, Standing}
use Rattle.demands.proofs.Laws.FirstRow.{first_found, found_first}
use Rattle.demands.proofs.Laws.Steps.{run_kept, outcome_plays}
use Rattle.demands.proofs.Laws.Issued.{issued_kept}
use Rattle.demands.proofs.Laws.CleanRuns.{reached_clean}

-- an event whose status is the first of these rows
module _ (c : Card) (rows : List Reason) (listed : refusals rows ok ≡ true) (status : ℕ) (e : status ≡ first rows ok) (p : Played) where
  accepted : (status ≡ ok) ↔ NoReason rows
  accepted = (λ z. no_reason rows ok listed (sym e ∙ z), λ n. e ∙ none_first rows ok n)

  refused : (s : ℕ) → ((status ≡ s) × (s ≡ ok → ⊥)) ↔ FirstRow rows s
  refused s = (λ h. first_found rows ok s (sym e ∙ h.0) h.1, λ first. let h = found_first rows ok s listed first in (e ∙ h.0, h.1))

  judges : (event : ℕ → Outcome) → ((room : ℕ) → event room ≡ benched c room (judged status (view c) p)) → Judged c event status rows p
  judges event plays =
      record {
        accepted = accepted;
        refused = refused;
        accepts = λ h n room k. plays room ∙ sym (bench_plays c room _ k h.rules) ∙ sym (judged_accepted c status p (accepted.1 n));
        refuses = λ s h first room k.
            let q = (refused s).1 first in
            plays room ∙ sym (bench_plays c room _ k h.rules) ∙ sym (judged_refused c status p (λ z. q.1 (sym q.0 ∙ z))) ∙ ap (λ (n : ℕ). laid_into c (events.refused (view c) n)) q.0;
        one = λ before after after' r r'. answered_one _ before after after' r r';
      }

pub demand2 : (c : Card) (f b : List ℕ) → Demand2 c f b
demand2 c f b =
    record {
      command = λ u. judges c (rows_on false c f) (unfold rows_for in refl) (status_for false (view c).core f) (unfold status_for in refl) (events.accepted (view c) u (ins_of f) (data_of f)) (commanded c f u) (λ room. unfold commanded played in refl);
      chain = judges c (rows_on true c f) (unfold rows_for in refl) (status_for true (view c).core f) (unfold status_for in refl) (events.opening (view c) (data_of f)) (chain_opened c f) (λ room. unfold chain_opened opening_played in refl);
      file_bytes = judges c (bytes_rows c.channel.chain b) refl (bytes_status c.channel.chain b) (unfold bytes_status in refl) (events.delivered (view c) b) (bytes_sent c b) (λ room. unfold bytes_sent bytes_played view in refl);
    }

pub standing : (s : Settings) (ks : Keys) (v : ℤ) → Taken s v → (es : List Event) → Standing s ks v es
unfolding laid_into
standing s ks v t es =
    let h = run_kept (issued s ks v) (issued_kept s ks v t) es in
    record {
      keeps = h;
      never = λ e. ap (λ (o : Outcome). o.refusal) (outcome_plays (reached s ks v es) h e);
      clean = reached_clean s ks v t es;
    }
