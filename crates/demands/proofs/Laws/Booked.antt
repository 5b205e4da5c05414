-- A card's value, allowance and log are the books over the struck history.
use Rattle.std.specs.Prelude.{ℕ, Bool, true, List, [], ◌≡◌, eqb, ℤ}
use Rattle.std.proofs.Math.Bool.{false}
use Rattle.std.proofs.Math.Path.{refl}
use Rattle.std.proofs.Common.{◌∙◌, ap, eqb-true, eq-eqb}
use Rattle.tables.specs.Choice.{pick}
use Rattle.purse.specs.Purse as purse
use Rattle.logfile.specs.Journal as journal
use Rattle.frames.specs.Frame.{ins_of, data_of}
use Rattle.columns.specs.Table.{commit_transaction}
use Rattle.roles.specs.declared.Role.{Role}
use Rattle.modes.specs.Modes.{role_in}
use Rattle.rows.specs.State.{State}
use Rattle.channel.specs.declared.Inputs.{Inputs}
use Rattle.rows.specs.Rows.{ok, status_of, opening_status, bytes_status}
use Rattle.rows.specs.Inside.{Cleared, entry_room}
use Rattle.rows.specs.Openings.{opening_announces, carried}
use Rattle.effects.specs.Effects.{purse_after, journal_after}
use Rattle.effects.specs.Laws.{Other, by_name, purse_other, journal_other}
use Rattle.card.specs.Events.{changed, ended, Played, refused, accepted_plain, accepted, judged, played, opening, opening_played, delivered, bytes_played, with_session}
use Rattle.demands.specs.Strike.{Line, broken, idle, strike, part, through}
use Rattle.demands.specs.Books.{Op, value_after, Books, booked}
use Rattle.demands.specs.History.{Handed, Event, command, opens, delivers, session, power, plays, run, along, book_line, plain_in, book_account, line_by, books_of}
use Rattle.demands.proofs.Laws.Names.{book_other}
use Rattle.demands.proofs.Laws.Sound.{Sound, changed_sound, ended_sound, session_sound_lem}
use Rattle.demands.proofs.Laws.Steps.{accepted_cleared, moves}
use Rattle.demands.proofs.Laws.Chained.{opening_sound, delivered_sound}
use Rattle.demands.proofs.Laws.Induct.{Moved, from_rest, flat_part}
use Rattle.demands.proofs.Laws.Posting.{balance, value_sum, allowance_through, log_four}
use Rattle.demands.proofs.Laws.Opened.{OpenPurse, purse_rests, purse_in_lem, purse_out, purse_rebooked, purse_entered, purse_cleared, allowance_booked, OpenLog, log_rests, log_in, log_out, log_rebooked, log_entered, log_cleared, log_booked}

pub record Open (s : State) (tx : List Op) : Type 0 where
  pub sound : Sound s
  pub value : OpenPurse s.core.purse tx
  pub entries : OpenLog s.core.journal tx

abbrev pub Goes : State → List Op → State → Line Op → Type 0
Goes = Moved moves (line_by book_account) books_of balance Open

-- ---- an accepted command

module _ (s : State) (u : Inputs) (handed : Handed u) (tx : List Op) (r : Role) (d : List ℕ) (h : Open s tx) where
  sound_after : (i : ℕ) → Cleared s.core i r d → Sound (changed s u i r d)
  sound_after i e = changed_sound s u i r d handed h.sound e

  commit_booked : books_of (changed s u commit_transaction r d) ≡ balance (books_of s) tx
  unfolding changed purse_after journal_after pick purse.settled purse.resting balance
  commit_booked = λ i. record { value = h.value.value i; allowance = allowance_booked _ tx h.value i; log = log_booked _ tx h.entries i }

  goes_other : (i : ℕ) → Other i → Cleared s.core i r d → Goes s tx (changed s u i r d) (book_line i d)
  unfolding changed
  goes_other i o e =
      let p = purse_other i d s.core.purse o in
      let j = journal_other i d s.core.journal o in
      rw (book_other i d o) (rw (p, j), record { sound = sound_after i e; value = rw p h.value; entries = rw j h.entries })

  goes_changed : (i : ℕ) → Cleared s.core i r d → Goes s tx (changed s u i r d) (book_line i d)
  unfolding changed purse_after journal_after book_line pick
  goes_changed =
      by_name (λ i. Cleared s.core i r d → Goes s tx (changed s u i r d) (book_line i d))
      (λ e. (unfold purse.credited in refl, record { sound = sound_after _ e; value = purse_in_lem _ tx h.value _; entries = log_in _ tx h.entries _ }))
      (λ e. (unfold purse.debited in refl, record { sound = sound_after _ e; value = purse_out _ tx h.value _; entries = log_out _ tx h.entries _ }))
      (λ e. (unfold purse.rebooked in refl, record { sound = sound_after _ e; value = purse_rebooked _ tx h.value _; entries = log_rebooked _ tx h.entries _ }))
      (λ e. (unfold journal.written in refl, record { sound = sound_after _ e; value = purse_entered _ tx h.value _ _; entries = log_entered _ tx h.entries h.sound.journal _ _ (entry_room s.core r d e) }))
      (λ e. (unfold journal.cleared in refl, record { sound = sound_after _ e; value = purse_cleared _ tx h.value; entries = log_cleared _ tx h.entries }))
      (λ e. (commit_booked, record { sound = sound_after _ e; value = unfold purse.settled in purse_rests _ _; entries = unfold journal.settled in log_rests _ }))
      (λ e. (unfold purse.dropped purse.resting journal.dropped journal.resting in refl, record { sound = sound_after _ e; value = unfold purse.dropped in purse_rests _ _; entries = unfold journal.dropped in log_rests _ }))
      goes_other

-- ---- any event

goes_ended : (s : State) (tx : List Op) → Open s tx → Goes s tx (ended s) broken
unfolding ended purse.dropped journal.dropped
goes_ended s tx h = (unfold purse.resting journal.resting in refl, record { sound = unfold ended purse.dropped journal.dropped in ended_sound s h.sound; value = purse_rests _ _; entries = log_rests _ })

-- by its status, where the accepted event has the line l
goes_judged : (s : State) (tx : List Op) → Open s tx → (status : ℕ) (p : Played) (l : Line Op) → (status ≡ ok → Goes s tx p.state l)
    → Goes s tx (judged status s p).state (pick (eqb status ok) l broken)
unfolding refused
goes_judged s tx h status p l go = by (eqb status ok) refl
  where
    by : (b : Bool) → eqb status ok ≡ b → Goes s tx (pick b p (refused s status)).state (pick b l broken)
    by true e = unfold pick in go (eqb-true _ _ e)
    by false e = unfold pick in goes_ended s tx h

-- nothing of the books, and nothing that is pending
idles : (s d : State) (tx : List Op) → Open s tx → Sound d → d.core.purse ≡ s.core.purse → d.core.journal ≡ s.core.journal → Goes s tx d idle
idles s d tx h k p j = (rw (p, j) refl, record { sound = k; value = rw p h.value; entries = rw j h.entries })

pub goes : (s : State) (tx : List Op) → Open s tx → (e : Event) → Goes s tx (moves s e) (line_by book_account s e)
unfolding plays line_by
goes s tx h (command f u handed) = unfold played in goes_judged s tx h (status_of s.core f) (accepted s u (ins_of f) (data_of f)) _ (λ e. unfold accepted accepted_plain in goes_changed s u handed tx (role_in s.core.settings (data_of f)) (plain_in s.core f) h (ins_of f) (accepted_cleared s f (eq-eqb _ _ e)))
goes s tx h (opens f) = unfold opening_played in goes_judged s tx h (opening_status s.core f) (opening s (data_of f)) _ (λ e. idles s (opening s (data_of f)).state tx h (opening_sound s _ h.sound (opening_announces s.core f e)) (unfold opening in refl) (unfold opening in refl))
goes s tx h (delivers b) = unfold bytes_played in goes_judged s tx h (bytes_status s.core.channel.chain b) (delivered s b) _ (λ e. idles s (delivered s b).state tx h (delivered_sound s b h.sound (carried s.core.channel.chain b e)) (unfold delivered in refl) (unfold delivered in refl))
goes s tx h (session k known) = idles s (with_session s k) tx h (session_sound_lem s k h.sound known) (unfold with_session in refl) (unfold with_session in refl)
goes s tx h power = goes_ended s tx h

-- ---- any history of a card with nothing pending and nothing booked but a value

booked_through : (v : ℤ) (ls : List (Line Op)) → through balance (record { value = v; allowance = 0; log = [] }) (part [] (strike ls)) ≡ booked v ls
unfolding booked
booked_through v ls = λ i. record { value = (value_sum start txs ∙ ap (value_after v) (flat_part ls)) i; allowance = allowance_through start txs i; log = log_four start [] txs refl i }
  where
    start : Books
    start = record { value = v; allowance = 0; log = [] }

    txs : List (List Op)
    txs = part [] (strike ls)

pub books_law : (s : State) (v : ℤ) → Open s [] → books_of s ≡ record { value = v; allowance = 0; log = [] } → (es : List Event)
    → books_of (run moves s es) ≡ booked v (along moves (line_by book_account) s es)
books_law s v h start es =
    from_rest moves (line_by book_account) books_of balance Open goes s h es
    ∙ ap (λ (b : Books). through balance b (part [] (strike (along moves (line_by book_account) s es)))) start
    ∙ booked_through v (along moves (line_by book_account) s es)
