-- After k committed entries no slot has been stored more often than k divided by 4, rounded up: a state with a counter of its stores
-- goes through demand 3's induction, and so the stores are the committed entries.
use Rattle.std.specs.Prelude.{ℕ, ◌+◌, Bool, List, [], ◌∷◌, ◌≡◌, eqb, ℤ}
use Rattle.std.proofs.Math.Bool.{true, false}
use Rattle.std.proofs.Math.Path.{refl}
use Rattle.std.proofs.Common.{sym, ◌∙◌, ap, arith}
use Rattle.tables.specs.Choice.{pick}
use Rattle.logfile.specs.Journal.{Journal}
use Rattle.logfile.specs.Journal as journal
use Rattle.logfile.specs.Wear.{once, stores}
use Rattle.logfile.proofs.Wear.{wear}
use Rattle.keys.specs.declared.Keys.{Keys}
use Rattle.frames.specs.Frame.{ins_of, data_of}
use Rattle.settings.specs.declared.Settings.{Settings}
use Rattle.rows.specs.State.{State}
use Rattle.rows.specs.Rows.{ok, status_of, opening_status, bytes_status}
use Rattle.effects.specs.Effects.{stored_after}
use Rattle.effects.specs.Laws.{by_name, stored_other}
use Rattle.card.specs.declared.Card.{Card}
use Rattle.card.specs.View.{view}
use Rattle.card.specs.Outcome.{Outcome}
use Rattle.card.specs.Events.{Played, refused, accepted_plain, accepted, judged, played, laid_into, opening, opening_played, delivered, bytes_played, issued}
use Rattle.demands.specs.Strike.{Line, posted, closed, broken, idle, strike, part, through}
use Rattle.demands.specs.Books.{Op, is_entry, is_clear, some}
use Rattle.demands.specs.History.{Event, command, opens, delivers, session, power, next, plays, run, along, book_line, plain_in, book_account, line_by, traced}
use Rattle.demands.specs.Demands.{Kept, Taken}
use Rattle.demands.specs.Ring.{stored_at, place_of, entries_of, more, entries_in, Worn}
use Rattle.demands.proofs.Laws.Names.{book_other}
use Rattle.demands.proofs.Laws.Steps.{moves, outcome_plays, next_kept, view_next}
use Rattle.demands.proofs.Laws.Stored.{turns}
use Rattle.demands.proofs.Laws.Induct.{Moved, from_rest}
use Rattle.demands.proofs.Laws.Opened.{OpenLog}
use Rattle.demands.proofs.Laws.Booked.{Open, Goes, goes}
use Rattle.demands.proofs.Laws.Issued.{issued_kept, issued_open}
use Rattle.demands.proofs.Proofs.Demand3.{lines_view}

-- ---- an event stores once where it closes a transaction with an entry

abbrev Counts : ℕ → List Op → Line Op → Type 0
Counts n tx (posted x) = once n ≡ 0
Counts n tx closed = once n ≡ entries_of tx
Counts n tx broken = once n ≡ 0
Counts n tx idle = once n ≡ 0

commit_counts : (j : Journal) (tx : List Op) → OpenLog j tx → once (journal.stored j) ≡ entries_of tx
unfolding journal.stored entries_of
commit_counts j tx h = by (some is_clear tx) refl (some is_entry tx) refl
  where
    by : (a : Bool) → some is_clear tx ≡ a → (b : Bool) → some is_entry tx ≡ b
        → once (pick j.clears 0 (pick (journal.some j.fresh) 16 0)) ≡ pick (some is_clear tx) 0 (pick (some is_entry tx) 1 0)
    by true p b q = unfold pick in rw (h.clears, p)
    by false p true q = unfold pick in rw (h.clears, p, h.adds p, q)
    by false p false q = unfold pick in rw (h.clears, p, h.adds p, q)

command_counts : (s : State) (tx : List Op) → Open s tx → (d : List ℕ) (i : ℕ) → Counts (stored_after i s.core.journal) tx (book_line i d)
unfolding stored_after book_line pick
command_counts s tx h d =
    by_name (λ i. Counts (stored_after i s.core.journal) tx (book_line i d)) refl refl refl refl refl (commit_counts s.core.journal tx h.entries) refl
    (λ i o. rw (book_other i d o, stored_other i s.core.journal o) refl)

-- by its status, where the accepted event has the line l
judged_counts : (s : State) (tx : List Op) (status : ℕ) (p : Played) (l : Line Op) → Counts p.stored tx l
    → Counts (judged status s p).stored tx (pick (eqb status ok) l broken)
unfolding refused
judged_counts s tx status p l k = by (eqb status ok)
  where
    by : (b : Bool) → Counts (pick b p (refused s status)).stored tx (pick b l broken)
    by true = unfold pick in k
    by false = unfold pick in refl

counts : (s : State) (tx : List Op) → Open s tx → (e : Event) → Counts (plays s e).stored tx (line_by book_account s e)
unfolding plays line_by
counts s tx h (command f u handed) =
    unfold played in judged_counts s tx (status_of s.core f) (accepted s u (ins_of f) (data_of f)) (book_line (ins_of f) (plain_in s.core f))
    (unfold accepted accepted_plain in command_counts s tx h (plain_in s.core f) (ins_of f))
counts s tx h (opens f) = unfold opening_played in judged_counts s tx (opening_status s.core f) (opening s (data_of f)) idle (unfold opening in refl)
counts s tx h (delivers b) = unfold bytes_played in judged_counts s tx (bytes_status s.core.channel.chain b) (delivered s b) idle (unfold delivered in refl)
counts s tx h (session k known) = refl
counts s tx h power = refl

-- ---- a state with a counter, through the induction of demand 3

record Counted : Type 0 where
  pub state : State
  pub count : ℕ

abbrev step : Counted → Event → Counted
step c e = record { state = moves c.state e; count = c.count + once (plays c.state e).stored }

abbrev line_on : Counted → Event → Line Op
line_on c e = line_by book_account c.state e

abbrev OpenC : Counted → List Op → Type 0
OpenC c tx = Open c.state tx

abbrev GoesC : Counted → List Op → Counted → Line Op → Type 0
GoesC = Moved step line_on (λ c. c.count) more OpenC

by_line : (s d : State) (m n : ℕ) (tx : List Op) (l : Line Op) → Goes s tx d l → Counts n tx l
    → GoesC (record { state = s; count = m }) tx (record { state = d; count = m + once n }) l
by_line s d m n tx (posted x) (q, h) k = (omega arith, h)
by_line s d m n tx closed (q, h) k = (rw k, h)
by_line s d m n tx broken (q, h) k = (omega arith, h)
by_line s d m n tx idle (q, h) k = (omega arith, h)

goes_c : (c : Counted) (tx : List Op) → OpenC c tx → (e : Event) → GoesC c tx (step c e) (line_on c e)
goes_c c tx h e =
    by_line c.state (moves c.state e) c.count (plays c.state e).stored tx (line_by book_account c.state e) (goes c.state tx h e) (counts c.state tx h e)

abbrev stored_on : State → Event → ℕ
stored_on s e = (plays s e).stored

-- a state has no place, and the stores of all slots ask for none
abbrev nowhere : State → ℕ
nowhere s = 0

count_stores : (s : State) (m : ℕ) (es : List Event) → (run step (record { state = s; count = m }) es).count ≡ m + stores moves stored_on nowhere s es
unfolding run stores
count_stores s m [] = omega arith
count_stores s m (e ∷ es) = let h = count_stores (moves s e) (m + once (plays s e).stored) es in omega arith

lines_counted : (s : State) (m : ℕ) (es : List Event) → along step line_on (record { state = s; count = m }) es ≡ along moves (line_by book_account) s es
unfolding along
lines_counted s m [] = refl
lines_counted s m (e ∷ es) = ap (λ (ls : List (Line Op)). line_by book_account s e ∷ ls) (lines_counted (moves s e) _ es)

stores_state : (s : State) → Open s [] → (es : List Event) → stores moves stored_on nowhere s es ≡ entries_in (along moves (line_by book_account) s es)
unfolding entries_in
stores_state s h es =
    let a = count_stores s 0 es in
    let z : 0 + stores moves stored_on nowhere s es ≡ stores moves stored_on nowhere s es = omega arith in
    let b = from_rest step line_on (λ c. c.count) more OpenC goes_c (record { state = s; count = 0 }) h es in
    sym z ∙ sym a ∙ b ∙ ap (λ (ls : List (Line Op)). through more 0 (part [] (strike ls))) (lines_counted s 0 es)

-- ---- on the card

stored_view : (c : Card) → Kept c → (e : Event) → stored_at c e ≡ stored_on (view c) e
unfolding laid_into
stored_view c h e = ap (λ (o : Outcome). o.stored) (outcome_plays c h e)

stores_view : (c : Card) → Kept c → (es : List Event) → stores next stored_at place_of c es ≡ stores moves stored_on nowhere (view c) es
unfolding stores
stores_view c h [] = refl
stores_view c h (e ∷ es) =
    let rest = stores_view (next c e) (next_kept c h e) es in
    rw (rest, stored_view c h e, view_next c h e)

-- the stores of a history are its committed entries
pub stores_entries : (s : Settings) (ks : Keys) (v : ℤ) → Taken s v → (es : List Event)
    → stores next stored_at place_of (issued s ks v) es ≡ entries_in (traced book_account (issued s ks v) es)
stores_entries s ks v t es =
    stores_view (issued s ks v) (issued_kept s ks v t) es
    ∙ stores_state (view (issued s ks v)) (issued_open s ks v t) es
    ∙ ap entries_in (sym (lines_view book_account (issued s ks v) (issued_kept s ks v t) es))

pub worn : Worn
worn s ks v t es k h = rw (stores_entries s ks v t es) at (wear next stored_at place_of turns k h (issued s ks v) es)
