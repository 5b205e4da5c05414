-- What the methods return along a run is what the definitions say.
use Rattle.std.specs.Prelude.{ℕ, ◌+◌, ◌≤◌, true, false, List, [], ◌∷◌, ◌≡◌, refl, ℤ, length, take, drop, replicate, Option, None, is_none}
use Rattle.std.proofs.Common.{sym, ◌∙◌, subst, arith, take_at}
use Rattle.std.proofs.Math.Path.{ap}
use Rattle.tables.specs.Choice.{picked, not_yes}
use Rattle.wire.specs.Bytes.{laid}
use Rattle.wire.proofs.Laws.{laid_none}
use Rattle.access.specs.Rights.{session_sound}
use Rattle.keys.specs.declared.Keys.{Keys}
use Rattle.settings.specs.declared.Settings.{Settings}
use Rattle.card.specs.declared.Card.{Card}
use Rattle.card.specs.declared.Reply.{Reply}
use Rattle.card.specs.View.{view}
use Rattle.card.specs.Outcome.{Outcome, reply_of, Answered, bench}
use Rattle.card.specs.Events.{Played, played, laid_into, benched, commanded, chain_opened, bytes_sent, session_changed, powered_up, issued, personalised, reply_room}
use Rattle.card.proofs.Laws.{answered_as, bench_plays, session_unknown}
use Rattle.demands.specs.History.{Event, command, opens, delivers, session, power, outcome, next, plays, Said, said, run, along}
use Rattle.demands.specs.Demands.{Kept, Taken, Unrefused, InCode}
use Rattle.demands.specs.Calls.{seen, Ran, done, commands, openings, frames, changes, powers, short, short_opening, short_frame, unknown}
use Rattle.demands.proofs.Laws.Steps.{outcome_plays, next_kept}
use Rattle.demands.proofs.Laws.Issued.{issued_kept}
use Rattle.demands.proofs.Proofs.Demand1.{short_same, opening_replies, frame_replies}

-- the room of the buffer shows in no outcome, once there is room
same_room : (c : Card) → Kept c → (p : Played) (room : ℕ) → reply_room ≤ room → benched c room p ≡ benched c reply_room p
same_room c h p room k = sym (bench_plays c room p k h.rules) ∙ bench_plays c reply_room p (omega arith) h.rules

-- what was laid at the front of a buffer is read there
read_front : (b x : List ℕ) → take (length x) (laid b 0 x) ≡ x
unfolding laid
read_front b x = take_at x (drop (0 + length x) b) (length x) refl

seen_answered : (o : Outcome) (before after : List ℕ) (r : Reply) → Answered o before after r → seen r after ≡ record { refusal = o.refusal; bytes = o.out; len = length o.out }
unfolding reply_of
seen_answered o before after r (q, b) = rw (q, b, read_front before o.out)

-- ---- a run

-- where the calls led, and what was seen
abbrev Follows : Card → List Event → List Said → Card → Type 0
Follows c es ss d = (d ≡ run next c es) × (ss ≡ along next said c es)

one_more : (c d k : Card) (e : Event) (es : List Event) (x : Said) (ss : List Said) → k ≡ next c e → x ≡ said c e → Follows k es ss d → Follows c (e ∷ es) (x ∷ ss) d
unfolding run along
one_more c d k e es x ss p q (a, b) = (rw p at a, λ i. q i ∷ (b ∙ ap (λ (y : Card). along next said y es) p) i)

-- a call whose answer is an event's outcome, and the calls behind it
event_follows : (c d : Card) (e : Event) (es : List Event) (ss : List Said) (before after : List ℕ) (r : Reply) → Answered (outcome c e) before after r
    → Follows r.card es ss d → Follows c (e ∷ es) (seen r after ∷ ss) d
unfolding said reply_of
event_follows c d e es ss before after r a rest = one_more c d r.card e es (seen r after) ss (ap (λ (y : Reply). y.card) a.0) (seen_answered (outcome c e) before after r a) rest

kept_after : (c : Card) → Kept c → (e : Event) (before after : List ℕ) (r : Reply) → Answered (outcome c e) before after r → Kept r.card
unfolding reply_of
kept_after c h e before after r a = subst (λ (k : Card). Kept k) (sym (ap (λ (y : Reply). y.card) a.0)) (next_kept c h e)

-- session change and power-up write nothing
session_answers : (c : Card) → Kept c → (k : Option ℕ) (known : session_sound k ≡ true) (r : Reply) → r ≡ reply_of (session_changed c k) → Answered (outcome c (session k known)) [] [] r
unfolding outcome
session_answers c h k known r q = (q, rw (silent) (laid_none []))
  where
    silent : (session_changed c k).out ≡ []
    silent = unfold outcome plays laid_into in ap (λ (o : Outcome). o.out) (outcome_plays c h (session k known))

power_answers : (c : Card) → Kept c → (r : Reply) → r ≡ reply_of (powered_up c) → Answered (outcome c power) [] [] r
unfolding outcome
power_answers c h r q = (q, rw (silent) (laid_none []))
  where
    silent : (powered_up c).out ≡ []
    silent = unfold outcome plays laid_into in ap (λ (o : Outcome). o.out) (outcome_plays c h power)

-- the bench refusals return the card as it was

unknown_same : (c : Card) (k : Option ℕ) (r : Reply) → session_sound k ≡ false → r ≡ reply_of (session_changed c k) → r.card ≡ c
unknown_same c k r e q = ap (λ (y : Reply). y.card) (q ∙ sym (session_unknown c k (not_yes _ e)))

follows_from : (c k : Card) (es : List Event) (ss : List Said) (d : Card) → k ≡ c → Follows k es ss d → Follows c es ss d
follows_from c k es ss d e h = rw e at h

ran_follows : {d c : Card} {es : List Event} {ss : List Said} → Ran d c es ss → Kept c → Follows c es ss d
ran_follows done h = unfold run along in (refl, refl)
ran_follows {d} {c} (commands {es = es} {ss = ss} f u handed before after r room a rest) h =
    let b : Answered (outcome c (command f u handed)) before after r = unfold outcome commanded in answered_as _ _ before after r (same_room c h _ (length before) room) a in
    event_follows c d (command f u handed) es ss before after r b (ran_follows rest (kept_after c h (command f u handed) before after r b))
ran_follows {d} {c} (openings {es = es} {ss = ss} f before after r room a rest) h =
    let b : Answered (outcome c (opens f)) before after r = unfold outcome chain_opened in answered_as _ _ before after r (same_room c h _ (length before) room) a in
    event_follows c d (opens f) es ss before after r b (ran_follows rest (kept_after c h (opens f) before after r b))
ran_follows {d} {c} (frames {es = es} {ss = ss} x before after r room a rest) h =
    let b : Answered (outcome c (delivers x)) before after r = unfold outcome bytes_sent in answered_as _ _ before after r (same_room c h _ (length before) room) a in
    event_follows c d (delivers x) es ss before after r b (ran_follows rest (kept_after c h (delivers x) before after r b))
ran_follows {d} {c} (changes {es = es} {ss = ss} k known r q rest) h =
    let b = session_answers c h k known r q in
    event_follows c d (session k known) es ss [] [] r b (ran_follows rest (kept_after c h (session k known) [] [] r b))
ran_follows {d} {c} (powers {es = es} {ss = ss} r q rest) h =
    let b = power_answers c h r q in
    event_follows c d power es ss [] [] r b (ran_follows rest (kept_after c h power [] [] r b))
ran_follows {d} {c} {es} {ss} (short f u before after r less a rest) h =
    let e = (short_same c before after r (played (view c) u f) less (unfold commanded in a)).0 in
    follows_from c r.card es ss d e (ran_follows rest (subst (λ (k : Card). Kept k) (sym e) h))
ran_follows {d} {c} {es} {ss} (short_opening f before after r less a rest) h =
    let e = ((opening_replies c f before after r a).short less).0 in
    follows_from c r.card es ss d e (ran_follows rest (subst (λ (k : Card). Kept k) (sym e) h))
ran_follows {d} {c} {es} {ss} (short_frame x before after r less a rest) h =
    let e = ((frame_replies c x before after r a).short less).0 in
    follows_from c r.card es ss d e (ran_follows rest (subst (λ (k : Card). Kept k) (sym e) h))
ran_follows {d} {c} {es} {ss} (unknown k r q p rest) h =
    let e = unknown_same c k r q p in
    follows_from c r.card es ss d e (ran_follows rest (subst (λ (k : Card). Kept k) (sym e) h))

said_unrefused : (c : Card) → Kept c → (es : List Event) → Unrefused (along next said c es)
unfolding along said laid_into
said_unrefused c h [] = tt
said_unrefused c h (e ∷ es) = (ap (λ (o : Outcome). o.refusal) (outcome_plays c h e), said_unrefused (next c e) (next_kept c h e) es)

-- ---- from an accepted personalisation

pub in_code : (s : Settings) (ks : Keys) (v : ℤ) (r : Reply) (es : List Event) (ss : List Said) (d : Card) → r ≡ reply_of (personalised s ks v) → r.refusal ≡ None
    → Ran d r.card es ss → InCode s ks v es ss d
unfolding personalised bench reply_of
in_code s ks v r es ss d q z ran =
    let t : Taken s v = sym (ap (λ (y : Reply). y.refusal) q) ∙ z in
    let e : r.card ≡ issued s ks v = ap (λ (y : Reply). y.card) q ∙ picked _ _ (ap is_none t) in
    let f = ran_follows ran (subst (λ (k : Card). Kept k) (sym e) (issued_kept s ks v t)) in
    let g = follows_from (issued s ks v) r.card es ss d e f in
    record { taken = t; card = g.0; replies = g.1; unrefused = subst (λ (x : List Said). Unrefused x) (sym g.1) (said_unrefused (issued s ks v) (issued_kept s ks v t) es) }

-- ---- every history has a run, so the theorem speaks of all of them

session_silent : (c : Card) → Kept c → (k : Option ℕ) (known : session_sound k ≡ true) → seen (reply_of (session_changed c k)) [] ≡ said c (session k known)
unfolding said reply_of outcome
session_silent c h k known = seen_answered (session_changed c k) [] [] _ (session_answers c h k known _ refl)

power_silent : (c : Card) → Kept c → seen (reply_of (powered_up c)) [] ≡ said c power
unfolding said reply_of outcome
power_silent c h = seen_answered (powered_up c) [] [] _ (power_answers c h _ refl)

event_seen : (c : Card) (e : Event) (before : List ℕ) → seen (reply_of (outcome c e)) (laid before 0 (outcome c e).out) ≡ said c e
unfolding said reply_of
event_seen c e before = seen_answered (outcome c e) before _ _ (refl, refl)

-- what was seen, in the words of said
seen_as : (c d : Card) (e : Event) (es : List Event) (x y : Said) (ss : List Said) → x ≡ y → Ran d c (e ∷ es) (x ∷ ss) → Ran d c (e ∷ es) (y ∷ ss)
seen_as c d e es x y ss q h = subst (λ (z : Said). Ran d c (e ∷ es) (z ∷ ss)) q h

pub runs : (c : Card) → Kept c → (es : List Event) → Ran (run next c es) c es (along next said c es)
unfolding run along outcome reply_of
runs c h [] = done
runs c h (command f u handed ∷ es) = seen_as c _ _ es _ _ _ (event_seen c (command f u handed) (replicate reply_room 0)) (commands f u handed (replicate reply_room 0) _ (reply_of (commanded c f u reply_room)) (omega arith) (refl, refl) (runs (next c (command f u handed)) (next_kept c h (command f u handed)) es))
runs c h (opens f ∷ es) = seen_as c _ _ es _ _ _ (event_seen c (opens f) (replicate reply_room 0)) (openings f (replicate reply_room 0) _ (reply_of (chain_opened c f reply_room)) (omega arith) (refl, refl) (runs (next c (opens f)) (next_kept c h (opens f)) es))
runs c h (delivers x ∷ es) = seen_as c _ _ es _ _ _ (event_seen c (delivers x) (replicate reply_room 0)) (frames x (replicate reply_room 0) _ (reply_of (bytes_sent c x reply_room)) (omega arith) (refl, refl) (runs (next c (delivers x)) (next_kept c h (delivers x)) es))
runs c h (session k known ∷ es) = seen_as c _ _ es _ _ _ (session_silent c h k known) (changes k known (reply_of (session_changed c k)) refl (runs (next c (session k known)) (next_kept c h (session k known)) es))
runs c h (power ∷ es) = seen_as c _ _ es _ _ _ (power_silent c h) (powers (reply_of (powered_up c)) refl (runs (next c power) (next_kept c h power) es))
