-- What each event does to the log's slots and to the place of the newest entry.
use Rattle.std.specs.Prelude.{ℕ, not, ◌≡◌, eqb, Option, Some, is_none}
use Rattle.refusals.specs.declared.Refusal.{Refusal}
use Rattle.refusals.specs.declared.Refusal.TheVariants.{BrokenRule, UnknownKey}
use mathlib.Core.List.{List, []}
use Rattle.std.proofs.Math.Path.{refl}
use Rattle.std.proofs.Common.{sym, subst}
use Rattle.tables.specs.Choice.{pick, pick_both}
use Rattle.logfile.specs.declared.Log.{Log}
use Rattle.logfile.specs.Journal as journal
use Rattle.logfile.specs.View as log
use Rattle.logfile.specs.Slots.{Stores}
use Rattle.logfile.proofs.Slots.{same_stores_none, commit_stores}
use Rattle.access.specs.Rights.{session_sound}
use Rattle.frames.specs.Frame.{ins_of, data_of}
use Rattle.rows.specs.Rows.{ok, status_of, opening_status, bytes_status}
use Rattle.effects.specs.Effects.{journal_after, stored_after}
use Rattle.effects.specs.Laws.{by_name, journal_other, stored_other}
use Rattle.card.specs.declared.Card.{Card}
use Rattle.card.specs.View.{view, put, broken}
use Rattle.card.specs.Outcome.{Outcome, bench}
use Rattle.card.specs.Events.{Played, changed, ended, refused, accepted_plain, accepted, judged, played, laid_into, bench_refusal, benched, commanded, opening, opening_played, chain_opened, delivered, bytes_played, bytes_sent, with_session, session_changed, powered_up, reply_room}
use Rattle.demands.specs.History.{Event, command, opens, delivers, session, power, outcome, next, plays, plain_in}
use Rattle.demands.specs.Demands.{Kept}
use Rattle.demands.specs.Ring.{stored_at, place_of}
use Rattle.demands.proofs.Laws.Steps.{outcome_plays}

-- ---- the slots

command_stores : (l : Log) (d : List ℕ) (i : ℕ) → Stores (stored_after i (log.view l)) l.entry l (log.put l (stored_after i (log.view l)) (journal_after i d (log.view l)))
unfolding stored_after journal_after pick log.put_stored
command_stores l d =
    by_name (λ i. Stores (stored_after i (log.view l)) l.entry l (log.put l (stored_after i (log.view l)) (journal_after i d (log.view l))))
    (same_stores_none l _ refl)
    (same_stores_none l _ refl)
    (same_stores_none l _ refl)
    (same_stores_none l _ (unfold journal.written in refl))
    (same_stores_none l _ (unfold journal.cleared in refl))
    (commit_stores l)
    (same_stores_none l _ (unfold journal.dropped journal.resting in refl))
    (λ i o. rw (stored_other i (log.view l) o, journal_other i d (log.view l) o) (same_stores_none l (log.view l) refl))

Slotted : Card → Played → Type 0
Slotted c p = Stores p.stored c.log.entry c.log (log.put c.log p.stored p.state.core.journal)

judged_slotted : (c : Card) (status : ℕ) (p : Played) → Slotted c p → Slotted c (judged status (view c) p)
unfolding Slotted
judged_slotted c status p h =
    pick_both (Slotted c) (eqb status ok) p (refused (view c) status) h
    (unfold refused ended view in same_stores_none c.log _ (unfold journal.dropped journal.resting in refl))

plays_stores : (c : Card) (e : Event) → Slotted c (plays (view c) e)
unfolding plays
plays_stores c (command f u handed) =
    unfold played in judged_slotted c (status_of (view c).core f) (accepted (view c) u (ins_of f) (data_of f))
    (unfold Slotted accepted accepted_plain changed view in command_stores c.log (plain_in (view c).core f) (ins_of f))
plays_stores c (opens f) =
    unfold opening_played in judged_slotted c (opening_status (view c).core f) (opening (view c) (data_of f)) (unfold Slotted opening view in same_stores_none c.log _ refl)
plays_stores c (delivers b) =
    unfold bytes_played in judged_slotted c (bytes_status (view c).core.channel.chain b) (delivered (view c) b) (unfold Slotted delivered view in same_stores_none c.log _ refl)
plays_stores c (session k known) = unfold Slotted with_session view in same_stores_none c.log _ refl
plays_stores c power = unfold Slotted ended view in same_stores_none c.log _ (unfold journal.dropped journal.resting in refl)

pub event_stores : (c : Card) → Kept c → (e : Event) → Stores (stored_at c e) c.log.entry c.log (next c e).log
unfolding laid_into put Slotted
event_stores c h e = subst (λ (o : Outcome). Stores o.stored c.log.entry c.log o.card.log) (sym (outcome_plays c h e)) (plays_stores c e)

-- ---- the place, on any card: a bench refusal stores nothing and turns nothing

abbrev Turned : Card → Outcome → Type 0
Turned c o = o.card.log.place ≡ log.turned o.stored (place_of c)

module _ (c : Card) where
  bench_turned : (n : Option Refusal) → Turned c (bench c n)
  unfolding bench
  bench_turned n = refl

  laid_turned : (p : Played) → Turned c (laid_into c p)
  unfolding laid_into put log.put
  laid_turned p = refl

  benched_turned : (p : Played) → Turned c (benched c reply_room p)
  benched_turned p = pick_both (Turned c) (is_none (bench_refusal (broken c) reply_room)) (laid_into c p) (bench c (bench_refusal (broken c) reply_room)) (laid_turned p) (bench_turned (bench_refusal (broken c) reply_room))

  unless_broken : (p : Played) → Turned c (pick (broken c) (bench c (Some BrokenRule)) (laid_into c p))
  unless_broken p = pick_both (Turned c) (broken c) (bench c (Some BrokenRule)) (laid_into c p) (bench_turned (Some BrokenRule)) (laid_turned p)

  pub turns : (e : Event) → Turned c (outcome c e)
  unfolding outcome
  turns (command f u handed) = unfold commanded in benched_turned (played (view c) u f)
  turns (opens f) = unfold chain_opened in benched_turned (opening_played (view c) f)
  turns (delivers b) = unfold bytes_sent in benched_turned (bytes_played (view c) b)
  turns (session k known) =
      let p : Played = record { state = with_session (view c) k; stored = 0; out = [] } in
      unfold session_changed in pick_both (Turned c) (not (session_sound k)) (bench c (Some UnknownKey)) (pick (broken c) (bench c (Some BrokenRule)) (laid_into c p)) (bench_turned (Some UnknownKey)) (unless_broken p)
  turns power = unfold powered_up in unless_broken (record { state = ended (view c); stored = 0; out = [] })
