-- The same history on cards and on the states that they stand for.
use Rattle.std.specs.Prelude.{ℕ, zero, suc, ◌<◌, Bool, true, false, List, [], ◌∷◌, ◌≡◌, refl, eqb, length}
use Rattle.std.proofs.Math.Path.{sym}
use Rattle.std.proofs.Common.{◌∙◌, ap, arith, lt-ltb, le-ltb, eq-eqb, eqb-true}
use Rattle.std.proofs.lemmas.Bool.{not-false}
use Rattle.tables.specs.Choice.{pick, pick_cases, passed, not_no, or_no, or_none}
use Rattle.standing.specs.Laws as rules-laws
use Rattle.logfile.specs.declared.Log.{Log}
use Rattle.logfile.specs.Journal.{Journal}
use Rattle.logfile.specs.Journal as journal
use Rattle.logfile.specs.View as log
use Rattle.logfile.proofs.Laws as logfile
use Rattle.logfile.proofs.Entries.{length_round}
use Rattle.logfile.proofs.FitLaws.{fit_view, length_fresh}
use Rattle.modes.specs.Modes.{role_in}
use Rattle.rows.specs.State.{State, log_pending}
use Rattle.rows.specs.Rows.{ok, status_of, opening_status, bytes_status}
use Rattle.rows.specs.Laws.{command_ok, pending_view}
use Rattle.rows.specs.Inside.{Cleared, cleared}
use Rattle.rows.specs.Openings.{opening_announces, carried}
use Rattle.card.specs.declared.Card.{Card}
use Rattle.card.specs.View.{view, put}
use Rattle.standing.specs.Parts.{log_broken, chain_broken}
use Rattle.standing.proofs.Parts.{log_few, log_placed, log_apart, parted, joined}
use Rattle.card.specs.Outcome.{Outcome}
use Rattle.card.specs.Events.{Played, refused, accepted_plain, accepted, judged, played, laid_into, opening, opening_played, chain_opened, delivered, bytes_played, bytes_sent, session_changed, powered_up, reply_room}
use Rattle.card.proofs.Laws.{log_unbroken, bench_plays, command_plays}
use Rattle.demands.specs.History.{Handed, Event, command, opens, delivers, session, power, outcome, next, plays, run, along, plain_in}
use Rattle.demands.specs.Demands.{Kept}
use Rattle.demands.proofs.Laws.Sound.{Sound, changed_sound, ended_sound, session_sound_lem}
use Rattle.demands.proofs.Laws.Chained.{opening_sound, delivered_sound}
use Rattle.channel.specs.declared.Inputs.{Inputs}
use Rattle.frames.specs.Frame.{ins_of, data_of}

-- ---- a card that keeps the rules stands for a sound state

some_view : (l : Log) → journal.some (log.view l).fresh ≡ l.adds
unfolding log.view journal.some pick
some_view l = by l.adds
  where
    by : (b : Bool) → journal.some (pick b (l.entry ∷ []) []) ≡ b
    by true = refl
    by false = refl

pub sound_view : (c : Card) → Kept c → Sound (view c)
unfolding view log.view log_broken chain_broken
sound_view c h =
    let n = parted c.settings c.purse c.log c.channel.stage c.channel.chain h.rules in
    let w = n.1.1.1.1 in
    let chain = or_no _ _ w.1.1.1.0 in
    record {
      rights = n.0;
      limits = n.1.0;
      above = n.1.1.0;
      twice = n.1.1.1.0;
      channel = record { known = not-false _ w.0; secret = h.secret; ti = h.ti; caps = h.caps; chain = not-false _ chain.0; free = chain.1 };
      figures = rw (pending_view c.log) (rules-laws.sound w.1.1.0);
      journal = fit_view c.log (log_few c.log w.1.0) h.slots h.entry;
      apart = rw (some_view c.log) (log_apart c.log w.1.0);
      files = h.files;
    }

-- a place that turns stays one of four
turned_four : (n p : ℕ) → p < 4 → log.turned n p < 4
turned_four zero p h = h
turned_four (suc n) p h = omega arith

-- a sound state, laid into a card, is a card that keeps the rules and stands for that state

pub put_kept : (c : Card) (n : ℕ) (s : State) → Kept c → Sound s → Kept (put c n s)
unfolding put log.put log_broken log_pending chain_broken
put_kept c n s k h =
    let placed = turned_four n c.log.place (log_placed c.log (log_unbroken c k.rules)) in
    record {
      rules = joined _ _ _ _ _ (h.rights, (h.limits, (h.above, (h.twice, (not_no _ h.channel.known, (or_none _ _ (or_none _ _ (le-ltb 4 (length s.core.journal.entries) h.journal.few) (not_no _ (lt-ltb _ _ placed))) h.apart, (rules-laws.unbroken h.figures, (or_none _ _ (not_no _ h.channel.chain) h.channel.free, tt))))))));
      files = h.files;
      slots = length_round c.log.slots (log.turned n c.log.place) s.core.journal.entries h.journal.sized k.slots;
      entry = length_fresh c.log.entry s.core.journal.fresh k.entry h.journal.fresh_sized;
      secret = h.channel.secret;
      ti = h.channel.ti;
      caps = h.channel.caps;
    }

pub view_put : (c : Card) (n : ℕ) (s : State) → Kept c → Sound s → view (put c n s) ≡ s
unfolding view put
view_put c n s k h = ap (λ (j : Journal). record { core = record { settings = s.core.settings; keys = s.core.keys; purse = s.core.purse; journal = j; channel = s.core.channel }; files = s.files }) (logfile.view_put c.log n s.core.journal k.slots h.journal)

-- ---- an event on a state

abbrev pub moves : State → Event → State
moves s e = (plays s e).state

pub outcome_plays : (c : Card) → Kept c → (e : Event) → outcome c e ≡ laid_into c (plays (view c) e)
unfolding outcome plays session_changed powered_up
outcome_plays c h (command f u handed) = sym (command_plays c f u reply_room (omega arith) h.rules)
outcome_plays c h (opens f) = unfold chain_opened in sym (bench_plays c reply_room _ (omega arith) h.rules)
outcome_plays c h (delivers b) = unfold bytes_sent in sym (bench_plays c reply_room _ (omega arith) h.rules)
outcome_plays c h (session k known) = passed _ _ (not_no _ known) ∙ passed _ _ h.rules
outcome_plays c h power = passed _ _ h.rules

-- the data field of an accepted frame
pub accepted_cleared : (s : State) (f : List ℕ) → eqb (status_of s.core f) ok ≡ true → Cleared s.core (ins_of f) (role_in s.core.settings (data_of f)) (plain_in s.core f)
accepted_cleared s f e = cleared s.core (ins_of f) (data_of f) (command_ok false s.core f (eqb-true _ _ e))

-- by its status
judged_sound : (s : State) (status : ℕ) (p : Played) → Sound s → (status ≡ ok → Sound p.state) → Sound (judged status s p).state
unfolding refused
judged_sound s status p h go = pick_cases (λ (q : Played). Sound q.state) (eqb status ok) _ _ (λ e. go (eqb-true _ _ e)) (λ e. ended_sound s h)

played_sound : (s : State) (f : List ℕ) (u : Inputs) → Handed u → Sound s → Sound (played s u f).state
unfolding played accepted accepted_plain
played_sound s f u handed h = judged_sound s (status_of s.core f) _ h (λ e. changed_sound s u _ _ _ handed h (accepted_cleared s f (eq-eqb _ _ e)))

pub moves_sound : (s : State) (e : Event) → Sound s → Sound (moves s e)
unfolding plays
moves_sound s (command f u handed) h = played_sound s f u handed h
moves_sound s (opens f) h = unfold opening_played in judged_sound s (opening_status s.core f) (opening s (data_of f)) h (λ e. opening_sound s (data_of f) h (opening_announces s.core f e))
moves_sound s (delivers b) h = unfold bytes_played in judged_sound s (bytes_status s.core.channel.chain b) (delivered s b) h (λ e. delivered_sound s b h (carried s.core.channel.chain b e))
moves_sound s (session k known) h = session_sound_lem s k h known
moves_sound s power h = ended_sound s h

-- ---- on the card

next_put : (c : Card) → Kept c → (e : Event) → next c e ≡ put c (plays (view c) e).stored (moves (view c) e)
unfolding laid_into
next_put c h e = ap (λ (o : Outcome). o.card) (outcome_plays c h e)

pub next_kept : (c : Card) → Kept c → (e : Event) → Kept (next c e)
next_kept c h e = rw (next_put c h e) (put_kept c (plays (view c) e).stored (moves (view c) e) h (moves_sound (view c) e (sound_view c h)))

pub view_next : (c : Card) → Kept c → (e : Event) → view (next c e) ≡ moves (view c) e
view_next c h e = ap view (next_put c h e) ∙ view_put c (plays (view c) e).stored (moves (view c) e) h (moves_sound (view c) e (sound_view c h))

-- ---- and a history

pub run_kept : (c : Card) → Kept c → (es : List Event) → Kept (run next c es)
unfolding run
run_kept c h [] = h
run_kept c h (e ∷ es) = run_kept (next c e) (next_kept c h e) es

pub view_run : (c : Card) → Kept c → (es : List Event) → view (run next c es) ≡ run moves (view c) es
unfolding run
view_run c h [] = refl
view_run c h (e ∷ es) = view_run (next c e) (next_kept c h e) es ∙ ap (λ (s : State). run moves s es) (view_next c h e)

-- what is noted of each event on the card is what is noted on the state
pub along_views : {L : Type 0} (f : Card → Event → L) (g : State → Event → L) → ((c : Card) → Kept c → (e : Event) → f c e ≡ g (view c) e)
    → (c : Card) → Kept c → (es : List Event) → along next f c es ≡ along moves g (view c) es
unfolding along
along_views f g same c h [] = refl
along_views f g same c h (e ∷ es) =
    let rest = along_views f g same (next c e) (next_kept c h e) es in
    rw (same c h e, rest, view_next c h e)
