-- A card without a session holds no byte of one, through every run.
use Rattle.std.specs.Prelude.{ℕ, List, [], ◌∷◌, eqb, ℤ}
use Rattle.std.proofs.Common.{sym, ap, subst}
use Rattle.tables.specs.Choice.{pick_both}
use Rattle.keys.specs.declared.Keys.{Keys}
use Rattle.channel.specs.declared.Stage.TheVariants.{Closed}
use Rattle.settings.specs.declared.Settings.{Settings}
use Rattle.rows.specs.State.{State}
use Rattle.frames.specs.Frame.{ins_of, data_of}
use Rattle.rows.specs.Rows.{ok, status_of, opening_status, bytes_status}
use Rattle.card.specs.View.{view}
use Rattle.card.specs.Events.{changed, Played, ended, refused, accepted_plain, accepted, judged, played, opening, opening_played, delivered, bytes_played, with_session, issued}
use Rattle.demands.specs.History.{Event, command, opens, delivers, session, power, plays, run}
use Rattle.demands.specs.Demands.{Taken, Clean, reached}
use Rattle.demands.proofs.Laws.Clean.{bare_clean, chained_clean, advanced_clean, after_clean}
use Rattle.demands.proofs.Laws.Steps.{moves, view_run}
use Rattle.demands.proofs.Laws.Issued.{issued_kept}

judged_clean : (s : State) (status : ℕ) (p : Played) → Clean p.state.core.channel → Clean (judged status s p).state.core.channel
unfolding refused ended
judged_clean s status p h = pick_both (λ (q : Played). Clean q.state.core.channel) (eqb status ok) _ _ h (bare_clean Closed)

moves_clean : (s : State) (e : Event) → Clean s.core.channel → Clean (moves s e).core.channel
unfolding plays
moves_clean s (command f u handed) h = unfold played in judged_clean s (status_of s.core f) (accepted s u (ins_of f) (data_of f)) (unfold accepted accepted_plain changed in after_clean s.core.keys u _ _ s.core.channel h)
moves_clean s (opens f) h = unfold opening_played in judged_clean s (opening_status s.core f) (opening s (data_of f)) (unfold opening in chained_clean _ _ h)
moves_clean s (delivers b) h = unfold bytes_played in judged_clean s (bytes_status s.core.channel.chain b) (delivered s b) (unfold delivered in advanced_clean _ _ h)
moves_clean s (session k known) h = unfold with_session in bare_clean _
moves_clean s power h = unfold ended in bare_clean Closed

run_clean : (s : State) (es : List Event) → Clean s.core.channel → Clean (run moves s es).core.channel
unfolding run
run_clean s [] h = h
run_clean s (e ∷ es) h = run_clean (moves s e) es (moves_clean s e h)

pub reached_clean : (s : Settings) (ks : Keys) (v : ℤ) → Taken s v → (es : List Event) → Clean (reached s ks v es).channel
unfolding view
reached_clean s ks v t es =
    let q = ap (λ (x : State). x.core.channel) (view_run (issued s ks v) (issued_kept s ks v t) es) in
    subst Clean (sym q) (run_clean (view (issued s ks v)) es (unfold issued in bare_clean Closed))
