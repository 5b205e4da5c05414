-- Renumbering is invisible but for the number.
use Rattle.std.specs.Prelude.{ℕ, Bool, List, [], ◌∷◌, ◌≡◌, eqb}
use Rattle.std.proofs.Math.Bool.{true, false}
use Rattle.std.proofs.Math.Path.{refl, sym, ap}
use Rattle.std.proofs.Common.{subst, ◌∙◌}
use Rattle.tables.specs.Choice.{pick}
use Rattle.settings.specs.declared.Settings.{Settings}
use Rattle.rows.specs.State.{State}
use Rattle.rows.specs.Rows.{ok, bytes_status}
use Rattle.card.specs.declared.Card.{Card}
use Rattle.card.specs.View.{view, put}
use Rattle.card.specs.Outcome.{Outcome, reply_of}
use Rattle.card.specs.Events.{ended, Played, refused, judged, played, laid_into, opening_played, delivered, bytes_played, with_session}
use Rattle.demands.specs.History.{next, outcome, plays, Said, said, run, along}
use Rattle.demands.specs.Demands.{Kept}
use Rattle.demands.specs.Numbers.{ButNumbers, Alike, Exchanged, Pair, commands, openings, file_bytes, session_change, power_up, left, right, Fits, AllFit, Unnoticed, Renumbered}
use Rattle.demands.proofs.Laws.Steps.{outcome_plays, next_kept}
use Rattle.demands.proofs.Laws.Exchanged.{on_settings, played_on, same_status, same_accepted, same_opening}
use Rattle.demands.proofs.Proofs.Demand3.{fixed_moves}

-- ---- one event on a state

-- by its status
judged_alike : (s : State) (t : Settings) {a b : ℕ} (p q : Played) → a ≡ b → played_on p t ≡ q → played_on (judged a s p) t ≡ judged b (on_settings s t) q
judged_alike s t {a} p q e h = pick_on (eqb a ok) ∙ (λ j. judged (e j) (on_settings s t) (h j))
  where
    pick_on : (x : Bool) → played_on (pick x p (refused s a)) t ≡ pick x (played_on p t) (refused (on_settings s t) a)
    pick_on true = unfold pick in refl
    pick_on false = unfold pick refused ended in refl

module _ (c d : Card) (k : ButNumbers (view c).core.settings d.settings) (v : view d ≡ on_settings (view c) d.settings) where
  -- what fits on d fits on c with the settings of d
  moved : (o : Bool) (f g : List ℕ) → Exchanged o (view c).core (view d).core f g → Exchanged o (view c).core (on_settings (view c) d.settings).core f g
  moved o f g = subst (λ (s : State). Exchanged o (view c).core s.core f g) v

  plays_alike : (p : Pair) → Fits c d p → played_on (plays (view c) (left p)) d.settings ≡ plays (on_settings (view c) d.settings) (right p)
  unfolding plays played opening_played bytes_played with_session ended delivered
  plays_alike (commands f g u handed) e =
      judged_alike (view c) d.settings _ _ (same_status false (view c) d.settings k f g (moved false f g e)) (same_accepted (view c) d.settings k f g u (moved false f g e))
  plays_alike (openings f g) e = judged_alike (view c) d.settings _ _ (same_status true (view c) d.settings k f g (moved true f g e)) (same_opening (view c) d.settings k f g (moved true f g e))
  plays_alike (file_bytes b) e = judged_alike (view c) d.settings {a = bytes_status (view c).core.channel.chain b} (delivered (view c) b) _ refl refl
  plays_alike (session_change n known) e = refl
  plays_alike power_up e = refl

-- ---- one event on a card

module _ (c d : Card) (h : Kept c) (i : Kept d) (a : Alike c d) (p : Pair) (e : Fits c d p) where
  abbrev t : Settings
  t = d.settings

  -- d is c with other settings
  abbrev twin : Card
  twin = record { settings = t; keys = c.keys; files = c.files; purse = c.purse; log = c.log; channel = c.channel }

  is_twin : twin ≡ d
  is_twin = λ j. record { settings = t; keys = a.keys j; files = a.files j; purse = a.purse j; log = a.log j; channel = a.channel j }

  same_view : view d ≡ on_settings (view c) t
  same_view = ap view (sym is_twin) ∙ (unfold view in refl)

  same_numbers : ButNumbers (view c).core.settings t
  unfolding view
  same_numbers = a.settings

  same_plays : plays (view d) (right p) ≡ played_on (plays (view c) (left p)) t
  same_plays = ap (λ (s : State). plays s (right p)) same_view ∙ sym (plays_alike c d same_numbers same_view p e)

  same_outcome : outcome d (right p) ≡ laid_into twin (played_on (plays (view c) (left p)) t)
  same_outcome = outcome_plays d i (right p) ∙ (λ j. laid_into (sym is_twin j) (same_plays j))

  -- what is seen of it
  same_said : said c (left p) ≡ said d (right p)
  unfolding said
  same_said = ap said_of (outcome_plays c h (left p)) ∙ same_laid ∙ sym (ap said_of same_outcome)
    where
      said_of : Outcome → Said
      said_of o = record { refusal = o.refusal; bytes = o.out; len = (reply_of o).len }

      same_laid : said_of (laid_into c (plays (view c) (left p))) ≡ said_of (laid_into twin (played_on (plays (view c) (left p)) t))
      same_laid = unfold laid_into reply_of in refl

  -- and the cards behind it
  pub stays_alike : Alike (next c (left p)) (next d (right p))
  stays_alike =
      subst (λ (o : Outcome). Alike o.card (next d (right p))) (sym (outcome_plays c h (left p)))
      (subst (λ (o : Outcome). Alike (laid_into c (plays (view c) (left p))).card o.card) (sym same_outcome) laid_alike)
    where
      settings_stay : (plays (view c) (left p)).state.core.settings ≡ c.settings
      settings_stay = unfold view in (fixed_moves (view c) (left p)).0

      laid_alike : Alike (laid_into c (plays (view c) (left p))).card (laid_into twin (played_on (plays (view c) (left p)) t)).card
      laid_alike = unfold laid_into put in record { settings = rw settings_stay a.settings; keys = refl; files = refl; purse = refl; log = refl; channel = refl }

-- ---- any run

unnoticed : (c d : Card) → Kept c → Kept d → Alike c d → (ps : List Pair) → AllFit c d ps → Unnoticed c d ps
unfolding along run
unnoticed c d h i a [] f = record { replies = refl; alike = a }
unnoticed c d h i a (p ∷ ps) (e, es) =
    let z = unnoticed (next c (left p)) (next d (right p)) (next_kept c h (left p)) (next_kept d i (right p)) (stays_alike c d h i a p e) ps es in
    record { replies = λ j. same_said c d h i a p e j ∷ z.replies j; alike = z.alike }

pub renumbered : Renumbered
renumbered = unnoticed
