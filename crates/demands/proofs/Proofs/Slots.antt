-- Only a commit with a new entry alters slot bytes, and only in that entry's slot; and the count of every event is the definition's.
use Rattle.std.specs.Prelude.{ℕ, ◌/◌, ◌%◌, ◌<◌, Bool, not, ◌&&◌, ◌≡◌, eqb, get_or}
use Rattle.std.proofs.Math.Bool.{true, false}
use Rattle.std.proofs.Math.Path.{refl, ap}
use Rattle.std.proofs.Common.{◌∙◌, subst, arith}
use Rattle.tables.specs.Choice.{pick, pick_both}
use Rattle.logfile.specs.Journal as journal
use Rattle.logfile.specs.Ring.{slot, newer}
use Rattle.logfile.specs.Slots.{Stores}
use Rattle.logfile.proofs.Slots.{stored_slot, other_bytes}
use Rattle.frames.specs.Frame.{ins_of, data_of}
use Rattle.columns.specs.Table.{commit_transaction}
use Rattle.standing.proofs.Parts.{log_placed}
use Rattle.rows.specs.State.{State}
use Rattle.rows.specs.Rows.{ok, status_of, opening_status, bytes_status}
use Rattle.effects.specs.Effects.{stored_after}
use Rattle.card.specs.declared.Card.{Card}
use Rattle.card.specs.View.{view}
use Rattle.card.specs.Outcome.{Outcome}
use Rattle.card.specs.Events.{Played, refused, accepted_plain, accepted, judged, played, laid_into, opening, opening_played, delivered, bytes_played}
use Rattle.card.proofs.Laws.{log_unbroken}
use Rattle.demands.specs.History.{Event, command, opens, delivers, session, power, next, plays}
use Rattle.demands.specs.Demands.{Kept}
use Rattle.demands.specs.Ring.{stored_at, place_of, commits_entry, SlotsKept}
use Rattle.demands.proofs.Laws.Steps.{outcome_plays, next_kept}
use Rattle.demands.proofs.Laws.Stored.{event_stores}

-- ---- the count

-- a: accepted, b: a commit, x: a new entry is pending, y: a clear is
by_flags : (a b x y : Bool) (p q : Played) → p.stored ≡ pick b (pick y 0 (pick x 16 0)) 0 → q.stored ≡ 0
    → (pick a p q).stored ≡ pick (a && (b && (x && not y))) 16 0
unfolding pick
by_flags false b x y p q e k = k
by_flags true false x y p q e k = e
by_flags true true false true p q e k = e
by_flags true true false false p q e k = e
by_flags true true true true p q e k = e
by_flags true true true false p q e k = e

judged_none : (s : State) (status : ℕ) (p : Played) → p.stored ≡ 0 → (judged status s p).stored ≡ 0
unfolding refused
judged_none s status p e = pick_both (λ (q : Played). q.stored ≡ 0) (eqb status ok) p (refused s status) e refl

plays_count : (s : State) (e : Event) → (plays s e).stored ≡ pick (commits_entry s e) 16 0
unfolding plays commits_entry
plays_count s (command f u handed) =
    unfold played in by_flags (eqb (status_of s.core f) ok) (eqb (ins_of f) commit_transaction) (journal.some s.core.journal.fresh) s.core.journal.clears
    (accepted s u (ins_of f) (data_of f)) (refused s (status_of s.core f)) (unfold accepted accepted_plain stored_after journal.stored in refl) (unfold refused in refl)
plays_count s (opens f) = unfold opening_played pick in judged_none s (opening_status s.core f) (opening s (data_of f)) (unfold opening in refl)
plays_count s (delivers b) = unfold bytes_played pick in judged_none s (bytes_status s.core.channel.chain b) (delivered s b) (unfold delivered in refl)
plays_count s (session k known) = unfold pick in refl
plays_count s power = unfold pick in refl

-- ---- the slots

module _ (c : Card) (h : Kept c) (e : Event) where
  counted : stored_at c e ≡ pick (commits_entry (view c) e) 16 0
  unfolding laid_into
  counted = ap (λ (o : Outcome). o.stored) (outcome_plays c h e) ∙ plays_count (view c) e

  -- as the count says
  stores_by : (b : Bool) → commits_entry (view c) e ≡ b → Stores (pick b 16 0) c.log.entry c.log (next c e).log
  stores_by b q = subst (λ (n : ℕ). Stores n c.log.entry c.log (next c e).log) (counted ∙ ap (λ (x : Bool). pick x 16 0) q) (event_stores c h e)

  entry_stored : commits_entry (view c) e ≡ true → (place_of (next c e) ≡ newer (place_of c)) × (slot (place_of (next c e)) (next c e).log.slots ≡ c.log.entry)
  entry_stored q =
      let t : Stores 16 c.log.entry c.log (next c e).log = unfold pick in stores_by true q in
      (t.0, stored_slot c.log.entry c.log (next c e).log h.slots h.entry 15 t)

  none_stored : commits_entry (view c) e ≡ false → (place_of (next c e) ≡ place_of c) × ((next c e).log.slots ≡ c.log.slots)
  none_stored q = let t : Stores 0 c.log.entry c.log (next c e).log = unfold pick in stores_by false q in t

  others_kept : (i : ℕ) → i < 64 → (i / 16 ≡ place_of (next c e) → ⊥) → get_or (next c e).log.slots i 0 ≡ get_or c.log.slots i 0
  others_kept i few d =
      let p = log_placed (next c e).log (log_unbroken (next c e) (next_kept c h e).rules) in
      let r : place_of (next c e) % 4 ≡ place_of (next c e) = omega (arith, p) in
      other_bytes c.log.entry c.log (next c e).log h.slots h.entry (stored_at c e) (event_stores c h e) i few (λ q. d (q ∙ r))

pub slots_kept : SlotsKept
slots_kept c h e = record { count = counted c h e; entry = entry_stored c h e; others = others_kept c h e; still = none_stored c h e }
