-- Demand 3, proved.
use Rattle.std.specs.Prelude.{ℕ, ◌≡◌, refl, eqb, ℤ, length, None}
use mathlib.Core.List.{List, [], ◌∷◌}
use Rattle.std.proofs.Math.Path.{sym, ap, subst}
use Rattle.std.proofs.Common.{◌∙◌}
use Rattle.tables.specs.Choice.{pick_both}
use Rattle.datafiles.specs.Files.{zeros}
use Rattle.purse.specs.Purse as purse
use Rattle.standing.specs.Laws as rules-laws
use Rattle.logfile.specs.Journal as journal
use Rattle.keys.specs.declared.Keys.{Keys}
use Rattle.channel.specs.Channel.{closed}
use Rattle.settings.specs.declared.Settings.{Settings}
use Rattle.rows.specs.State.{State, log_pending}
use Rattle.frames.specs.Frame.{ins_of, data_of}
use Rattle.rows.specs.Rows.{ok, status_of, opening_status, bytes_status}
use Rattle.card.specs.declared.Card.{Card}
use Rattle.card.specs.View.{view}
use Rattle.card.specs.Outcome.{Outcome, reply_of}
use Rattle.card.specs.Events.{changed, Played, ended, refused, accepted_plain, accepted, judged, played, laid_into, opening, opening_played, delivered, bytes_played, with_session, issued}
use Rattle.demands.specs.Strike.{Line, posts, through}
use Rattle.demands.specs.Books.{booked}
use Rattle.demands.specs.DataFiles.{Write, filed, stored}
use Rattle.demands.specs.History.{Event, command, opens, delivers, session, power, next, plays, Said, said, run, along, Account, book_account, file_account, line_by, traced, books_of}
use Rattle.demands.specs.Demands.{Kept, Taken, reached, Demand3, EqualReplies}
use Rattle.demands.proofs.Laws.Steps.{sound_view, moves, outcome_plays, next_kept, view_next, run_kept, view_run, along_views}
use Rattle.demands.proofs.Laws.Booked.{books_law}
use Rattle.demands.proofs.Laws.Filed.{files_law}
use Rattle.demands.proofs.Laws.Issued.{issued_kept, issued_open, issued_books}

-- ---- a history's lines on the card are those on the state

pub lines_view : {X : Type 0} (a : Account X) (c : Card) → Kept c → (es : List Event) → traced a c es ≡ along moves (line_by a) (view c) es
unfolding traced
lines_view a c h es = along_views (λ c e. line_by a (view c) e) (line_by a) (λ c h e. refl) c h es

-- ---- settings and keys stay

abbrev pub Fixed : State → State → Type 0
Fixed s t = (t.core.settings ≡ s.core.settings) × (t.core.keys ≡ s.core.keys)

fixed_judged : (s : State) (status : ℕ) (p : Played) → Fixed s p.state → Fixed s (judged status s p).state
unfolding refused ended
fixed_judged s status p h = pick_both (λ (q : Played). Fixed s q.state) (eqb status ok) _ _ h (refl, refl)

pub fixed_moves : (s : State) (e : Event) → Fixed s (moves s e)
unfolding plays
fixed_moves s (command f u handed) = unfold played in fixed_judged s (status_of s.core f) (accepted s u (ins_of f) (data_of f)) (unfold accepted accepted_plain changed in (refl, refl))
fixed_moves s (opens f) = unfold opening_played in fixed_judged s (opening_status s.core f) (opening s (data_of f)) (unfold opening in (refl, refl))
fixed_moves s (delivers b) = unfold bytes_played in fixed_judged s (bytes_status s.core.channel.chain b) (delivered s b) (unfold delivered in (refl, refl))
fixed_moves s (session k known) = unfold with_session in (refl, refl)
fixed_moves s power = unfold ended in (refl, refl)

fixed_run : (s : State) (es : List Event) → Fixed s (run moves s es)
unfolding run
fixed_run s [] = (refl, refl)
fixed_run s (e ∷ es) =
    let h = fixed_run (moves s e) es in
    let k = fixed_moves s e in
    (h.0 ∙ k.0, h.1 ∙ k.1)

-- ---- from an accepted personalisation

module _ (s : Settings) (ks : Keys) (v : ℤ) (t : Taken s v) (es : List Event) where
  books : books_of (view (reached s ks v es)) ≡ booked v (traced book_account (issued s ks v) es)
  books =
      ap books_of (view_run (issued s ks v) (issued_kept s ks v t) es)
      ∙ books_law (view (issued s ks v)) v (issued_open s ks v t) (issued_books s ks v t) es
      ∙ ap (booked v) (sym (lines_view book_account (issued s ks v) (issued_kept s ks v t) es))

  files : (reached s ks v es).files ≡ filed (traced file_account (issued s ks v) es)
  unfolding filed view issued zeros
  files =
      ap (λ (x : State). x.files) (view_run (issued s ks v) (issued_kept s ks v t) es)
      ∙ files_law (view (issued s ks v)) (issued_open s ks v t).sound es
      ∙ ap (λ (ls : List (Line Write)). through stored zeros (posts ls)) (sym (lines_view file_account (issued s ks v) (issued_kept s ks v t) es))

  settings : (reached s ks v es).settings ≡ s
  unfolding view issued
  settings = ap (λ (x : State). x.core.settings) (view_run (issued s ks v) (issued_kept s ks v t) es) ∙ (fixed_run (view (issued s ks v)) es).0

  keys : (reached s ks v es).keys ≡ ks
  unfolding view issued
  keys = ap (λ (x : State). x.core.keys) (view_run (issued s ks v) (issued_kept s ks v t) es) ∙ (fixed_run (view (issued s ks v)) es).1

  figures : rules-laws.Sound s.limits (reached s ks v es).purse (log_pending (view (reached s ks v es)).core.journal)
  unfolding view
  figures =
      let c = reached s ks v es in
      subst (λ (x : Settings). rules-laws.Sound x.limits c.purse (log_pending (view c).core.journal)) settings (sound_view c (run_kept (issued s ks v) (issued_kept s ks v t) es)).figures

pub demand3 : (s : Settings) (ks : Keys) (v : ℤ) → Taken s v → (es : List Event) → Demand3 s ks v es
demand3 s ks v t es =
    record {
      books = books s ks v t es;
      files = files s ks v t es;
      settings = settings s ks v t es;
      keys = keys s ks v t es;
      value_inside = (figures s ks v t es).value;
      pending_inside = (figures s ks v t es).pending;
    }

-- ---- equal replies

-- what is seen of an event on a state
abbrev pub said_on : State → Event → Said
said_on s e = record { refusal = None; bytes = (plays s e).out; len = length (plays s e).out }

pub said_view : (c : Card) → Kept c → (e : Event) → said c e ≡ said_on (view c) e
unfolding said laid_into reply_of
said_view c h e = ap (λ (o : Outcome). record { refusal = o.refusal; bytes = o.out; len = (reply_of o).len }) (outcome_plays c h e)

module _ (c d : Card) (h : Kept c) (k : Kept d) (s : c.settings ≡ d.settings) (ks : c.keys ≡ d.keys) (f : c.files ≡ d.files) (b : books_of (view c) ≡ books_of (view d)) where
  -- a powered-up state is a function of settings, keys, data files and books
  ended_alike : ended (view c) ≡ ended (view d)
  unfolding ended view purse.dropped journal.dropped
  ended_alike = λ i. record { core = record { settings = s i; keys = ks i; purse = purse.resting (b i).value (b i).allowance; journal = journal.resting (b i).log; channel = closed }; files = f i }

  alike : (es : List Event) → along next said (next c power) es ≡ along next said (next d power) es
  unfolding plays
  alike es =
      along_views said said_on said_view (next c power) (next_kept c h power) es
      ∙ ap (λ (x : State). along moves said_on x es) (view_next c h power ∙ ended_alike ∙ sym (view_next d k power))
      ∙ sym (along_views said said_on said_view (next d power) (next_kept d k power) es)

pub equal_replies : EqualReplies
equal_replies = alike
