-- Demand 1, proved.
use Rattle.std.specs.Prelude.{ℕ, ◌+◌, ◌≤◌, ◌<◌, Bool, ◌⊎◌, ◌≡◌, eqb, Some}
use Rattle.refusals.specs.declared.Refusal.TheVariants.{ShortBuffer}
use Rattle.std.proofs.Math.Bool.{true, false}
use mathlib.Core.List.{List, [], ◌++◌, append_assoc}
use Rattle.std.proofs.Math.Logic.{inl, inr}
use Rattle.std.proofs.Math.Path.{refl, sym, ap, subst}
use Rattle.std.proofs.Common.{◌∙◌, arith}
use borrow.Author.Tests.{eqb-true, lt-ltb}
use Rattle.std.proofs.Math.ListN.{length, length-append}
use Rattle.tables.specs.Choice.{pick, picked, passed, pick_both}
use Rattle.wire.specs.Bytes.{laid, word}
use Rattle.wire.proofs.Laws.{length_word, laid_none}
use Rattle.purse.specs.Purse as purse
use Rattle.logfile.specs.Journal as journal
use Rattle.logfile.specs.View as log
use Rattle.frames.specs.Frame.{ins_of, data_of}
use Rattle.channel.specs.declared.Inputs.{Inputs}
use Rattle.modes.specs.Modes.{role_in}
use Rattle.rows.specs.Rows.{maced_in, rows_for, ok, status_for, status_of, opening_status, bytes_rows, bytes_status}
use Rattle.rows.specs.Laws.{command_ok}
use Rattle.card.specs.declared.Card.{Card}
use Rattle.card.specs.declared.Reply.{Reply}
use Rattle.card.specs.View.{view, put, broken}
use Rattle.card.specs.Outcome.{reply_of, Answered, bench}
use Rattle.chains.specs.Chain.{completes}
use Rattle.card.specs.Events.{changed, shown, mac_behind, accepted_status, ended, Played, refused, accepted_plain, accepted, judged, played, laid_into, bench_refusal, benched, commanded, opening, opening_played, chain_opened, delivered, bytes_played, bytes_sent, reply_room}
use Rattle.card.proofs.Laws.{answered_as, refused_bench, bench_plays}
use Rattle.demands.specs.History.{Handed, plain_in, books_of}
use Rattle.demands.specs.Demands.{Kept, statuses, Refusal, among, Untouched, Replied, Silent, Demand1, Demand1Chain}
use Rattle.demands.proofs.Laws.FirstRow.{first_listed}
use Rattle.demands.proofs.Laws.Room.{reply_room_lem}
use Rattle.demands.proofs.Laws.Sound.{ended_sound}
use Rattle.demands.proofs.Laws.Steps.{sound_view, view_put}

pub ended_untouched : (c : Card) → Kept c → Untouched c (put c 0 (ended (view c)))
unfolding put ended view purse.dropped purse.resting journal.dropped journal.resting log.put journal.some
ended_untouched c h =
    record {
      settings = refl;
      keys = refl;
      files = refl;
      books = ap books_of (view_put c 0 (ended (view c)) h (ended_sound (view c) (sound_view c h)));
      no_session = refl;
      value_rests = refl;
      pending_value = refl;
      pending_allowance = refl;
      no_debit = refl;
      no_debit_sum = refl;
      no_entry = refl;
      no_clear = refl;
    }

status_listed : (o : Bool) (c : Card) (f : List ℕ) → among (status_for o (view c).core f) statuses ≡ true
unfolding status_for rows_for statuses among
status_listed o c f = first_listed (rows_for o (view c).core f (ins_of f) (data_of f)) ok statuses refl refl

bytes_listed : (c : Card) (b : List ℕ) → among (bytes_status (view c).core.channel.chain b) statuses ≡ true
unfolding bytes_status statuses among
bytes_listed c b = first_listed (bytes_rows (view c).core.channel.chain b) ok statuses refl refl

accepted_listed : (i : ℕ) → among (accepted_status i) statuses ≡ true
unfolding accepted_status statuses among
accepted_listed i = pick_both (λ (n : ℕ). among n statuses ≡ true) _ _ _ refl refl

accepted_status_lem : (i : ℕ) → Refusal (accepted_status i) → ⊥
unfolding accepted_status
accepted_status_lem i = pick_both (λ (n : ℕ). Refusal n → ⊥) _ _ _ (λ n. n.1 refl) (λ n. n.0 refl)

-- ---- any event with a reply buffer

module _ (c : Card) (before after : List ℕ) (r : Reply) where
  refused_replied : Kept c → (status : ℕ) → among status statuses ≡ true → Answered (laid_into c (refused (view c) status)) before after r → Replied c before after r
  unfolding laid_into refused reply_of
  refused_replied h status listed (q, b) =
      let l : r.len ≡ 2 = ap (λ (y : Reply). y.len) q ∙ length_word status in
      record {
        shown = [];
        status = status;
        listed = listed;
        bytes = b;
        len = l;
        room = omega arith;
        refusal = ap (λ (y : Reply). y.refusal) q;
        refused = λ n. (refl, subst (λ (k : Card). Untouched c k) (sym (ap (λ (y : Reply). y.card) q)) (ended_untouched c h));
      }

  -- what holds of the accepted event p, and of every listed refusal, holds of what is played
  judged_replied : (P : Type 0) (status : ℕ) (p : Played) → (status ≡ ok → Answered (laid_into c p) before after r → P)
      → (Answered (laid_into c (refused (view c) status)) before after r → P) → Answered (laid_into c (judged status (view c) p)) before after r → P
  judged_replied P status p taken denied = by (eqb status ok) refl
    where
      by : (b : Bool) → eqb status ok ≡ b → Answered (laid_into c (pick b p (refused (view c) status))) before after r → P
      by true e = unfold pick in taken (eqb-true _ _ e)
      by false e = unfold pick in denied

  -- with room for a reply there is no bench refusal, and without it the card and the buffer stay
  played_there : Kept c → (p : Played) → reply_room ≤ length before → Answered (benched c (length before) p) before after r → Answered (laid_into c p) before after r
  played_there h p room a = answered_as _ _ before after r (sym (bench_plays c (length before) p room h.rules)) a

  pub short_same : (p : Played) → length before < reply_room → Answered (benched c (length before) p) before after r → (r.card ≡ c) × (after ≡ before)
  unfolding reply_of bench
  short_same p less a =
      let short : Some ShortBuffer ≡ bench_refusal (broken c) (length before) = unfold bench_refusal in sym (picked _ _ (lt-ltb _ _ less)) in
      let b = answered_as _ _ before after r (sym (refused_bench c (length before) p short)) a in
      (ap (λ (y : Reply). y.card) b.0, b.1 ∙ sym (laid_none before))

-- ---- a command

module _ (c : Card) (f : List ℕ) (u : Inputs) (handed : Handed u) (before after : List ℕ) (r : Reply) (h : Kept c) where
  accepted_replied : status_of (view c).core f ≡ ok → Answered (laid_into c (accepted (view c) u (ins_of f) (data_of f))) before after r → Replied c before after r
  unfolding laid_into accepted accepted_plain reply_of
  accepted_replied e (q, b) =
      let y = shown (view c) u (ins_of f) (role_in (view c).core.settings (data_of f)) (plain_in (view c).core f) in
      let k = (changed (view c) u (ins_of f) (role_in (view c).core.settings (data_of f)) (plain_in (view c).core f)).core.channel in
      let x = y ++ mac_behind (maced_in (view c).core (ins_of f) (data_of f)) k y in
      let w = word (accepted_status (ins_of f)) in
      let t = append_assoc y (mac_behind (maced_in (view c).core (ins_of f) (data_of f)) k y) w in
      let l : r.len ≡ length x + 2 = ap (λ (z : Reply). z.len) q ∙ ap length (sym t) ∙ length-append x w ∙ (simp length_word) in
      let small = reply_room_lem (view c) u handed (ins_of f) (data_of f) k (sound_view c h) (command_ok false (view c).core f e) in
      record {
        shown = x;
        status = accepted_status (ins_of f);
        listed = accepted_listed (ins_of f);
        bytes = b ∙ ap (laid before 0) (sym t);
        len = l;
        room = omega arith;
        refusal = ap (λ (z : Reply). z.refusal) q;
        refused = λ n. absurd (accepted_status_lem (ins_of f) n);
      }

  replied : Answered (commanded c f u (length before)) before after r → reply_room ≤ length before → Replied c before after r
  unfolding commanded played
  replied a room =
      judged_replied c before after r _ (status_of (view c).core f) (accepted (view c) u (ins_of f) (data_of f)) accepted_replied (refused_replied c before after r h (status_of (view c).core f) (status_listed false c f)) (played_there c before after r h (played (view c) u f) room a)

pub demand1 : (c : Card) (f : List ℕ) (u : Inputs) → Handed u → (before after : List ℕ) (r : Reply) → Answered (commanded c f u (length before)) before after r → Demand1 c before after r
demand1 c f u handed before after r a = record { replied = λ h. replied c f u handed before after r h a; short = λ less. short_same c before after r (played (view c) u f) less (unfold commanded in a) }

-- ---- a chain

module _ (c : Card) (before after : List ℕ) (r : Reply) where
  silent : (p : Played) → p.out ≡ [] → Answered (laid_into c p) before after r → Silent before after r
  unfolding laid_into reply_of
  silent p e (q, b) = record { bytes = b ∙ ap (laid before 0) e ∙ sym (laid_none before); len = ap (λ (y : Reply). y.len) q ∙ ap length e; refusal = ap (λ (y : Reply). y.refusal) q }

  nine : (p : Played) → p.out ≡ word ok → Answered (laid_into c p) before after r → Replied c before after r
  unfolding laid_into reply_of
  nine p e (q, b) =
      let l : r.len ≡ 2 = ap (λ (y : Reply). y.len) q ∙ ap length e ∙ length_word ok in
      record {
        shown = [];
        status = ok;
        listed = unfold statuses among in refl;
        bytes = b ∙ ap (laid before 0) e;
        len = l;
        room = omega arith;
        refusal = ap (λ (y : Reply). y.refusal) q;
        refused = λ n. absurd (n.0 refl);
      }

pub opening_replies : (c : Card) (f before after : List ℕ) (r : Reply) → Answered (chain_opened c f (length before)) before after r → Demand1Chain c before after r
unfolding chain_opened opening_played
opening_replies c f before after r a =
    record {
      replied = λ h room.
          judged_replied c before after r _ (opening_status (view c).core f) (opening (view c) (data_of f)) (λ e y. inr (silent c before after r (opening (view c) (data_of f)) (unfold opening in refl) y))
          (λ y. inl (refused_replied c before after r h (opening_status (view c).core f) (status_listed true c f) y)) (played_there c before after r h (opening_played (view c) f) room a);
      short = λ less. short_same c before after r (opening_played (view c) f) less a;
    }

pub frame_replies : (c : Card) (x before after : List ℕ) (r : Reply) → Answered (bytes_sent c x (length before)) before after r → Demand1Chain c before after r
unfolding bytes_sent bytes_played
frame_replies c x before after r a =
    record {
      replied = λ h room.
          judged_replied c before after r _ (bytes_status (view c).core.channel.chain x) (delivered (view c) x) (λ e y. by (completes (view c).core.channel.chain (length x)) refl y)
          (λ y. inl (refused_replied c before after r h (bytes_status (view c).core.channel.chain x) (bytes_listed c x) y)) (played_there c before after r h (bytes_played (view c) x) room a);
      short = λ less. short_same c before after r (bytes_played (view c) x) less a;
    }
  where
    by : (b : Bool) → completes (view c).core.channel.chain (length x) ≡ b → Answered (laid_into c (delivered (view c) x)) before after r → Replied c before after r ⊎ Silent before after r
    by true e y = inl (nine c before after r (delivered (view c) x) (unfold delivered in picked _ _ e) y)
    by false e y = inr (silent c before after r (delivered (view c) x) (unfold delivered in passed _ _ e) y)
