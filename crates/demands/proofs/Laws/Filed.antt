-- A card's data files are all accepted writes in order.
use Rattle.std.specs.Prelude.{ℕ, ◌+◌, ◌≤◌, Bool, true, List, [], ◌∷◌, ◌≡◌, eqb, length}
use Rattle.std.proofs.Math.Bool.{false}
use Rattle.std.proofs.Math.Path.{refl}
use Rattle.std.proofs.Common.{◌∙◌, ap, subst, arith, eqb-true, eq-eqb}
use Rattle.tables.specs.Choice.{pick}
use Rattle.wire.proofs.Laws.{laid_room}
use Rattle.roles.specs.declared.Role.{Role}
use Rattle.roles.specs.Roles.{size_of}
use Rattle.datafiles.specs.declared.Files.{Files}
use Rattle.datafiles.specs.Files as files
use Rattle.datafiles.specs.Laws.{Sized}
use Rattle.chains.specs.Laws.{ranged, bytes_room}
use Rattle.frames.specs.Frame.{ins_of, data_of, offset_of, bytes_in}
use Rattle.columns.specs.Table.{write_data}
use Rattle.modes.specs.Modes.{role_in}
use Rattle.rows.specs.State.{State}
use Rattle.rows.specs.Rows.{ok, status_of, opening_status, bytes_status}
use Rattle.rows.specs.Inside.{Cleared, write_room}
use Rattle.rows.specs.Openings.{carried}
use Rattle.effects.specs.Effects.{files_after}
use Rattle.card.specs.Events.{changed, ended, Played, refused, accepted_plain, accepted, judged, played, opening, opening_played, delivered, bytes_played, with_session}
use Rattle.demands.specs.Strike.{Line, posted, broken, idle, posts, through}
use Rattle.demands.specs.DataFiles.{Write, stored}
use Rattle.demands.specs.History.{Event, command, opens, delivers, session, power, plays, run, along, file_line, plain_in, write_of, file_account, line_by}
use Rattle.demands.proofs.Laws.Sound.{Sound}
use Rattle.demands.proofs.Laws.Steps.{accepted_cleared, moves, moves_sound}

-- a write that has room is laid over its file
pub written_stored : (f : Files) → Sized f → (at : ℕ) (x : List ℕ) (r : Role) → at + length x ≤ size_of r → files.written f r at x ≡ stored f (record { file = r; place = at; bytes = x })
unfolding stored
written_stored f h at x r z = ap (files.holding f r) (laid_room (files.bytes_of f r) at x (omega (arith, h r)))

-- ---- one event

-- the files after it are those before with its line's write, if it has one
abbrev Stores : Files → Line Write → Files → Type 0
Stores f l g = (ls : List (Line Write)) → through stored g (posts ls) ≡ through stored f (posts (l ∷ ls))

stores_write : (s : State) → Sound s → (r : Role) (d : List ℕ) → Cleared s.core write_data r d
    → Stores s.files (posted (record { file = r; place = offset_of d; bytes = bytes_in d })) (files.written s.files r (offset_of d) (bytes_in d))
unfolding posts through
stores_write s h r d e ls = ap (λ (x : Files). through stored x (posts ls)) (written_stored s.files h.files (offset_of d) (bytes_in d) r (write_room s.core r d e))

stores_changed : (s : State) → Sound s → (i : ℕ) (r : Role) (d : List ℕ) → Cleared s.core i r d → Stores s.files (file_line i r d) (files_after i r d s.files)
unfolding file_line files_after
stores_changed s h i r d e = by (eqb i write_data) refl
  where
    by : (b : Bool) → eqb i write_data ≡ b
        → Stores s.files (pick b (posted (record { file = r; place = offset_of d; bytes = bytes_in d })) idle) (pick b (files.written s.files r (offset_of d) (bytes_in d)) s.files)
    by true q = unfold pick in stores_write s h r d (subst (λ (k : ℕ). Cleared s.core k r d) (eqb-true i write_data q) e)
    by false q = unfold pick posts through in λ ls. refl

-- by its status, where the accepted event has the line l
stores_judged : (s : State) (status : ℕ) (p : Played) (l : Line Write) → (status ≡ ok → Stores s.files l p.state.files)
    → Stores s.files (pick (eqb status ok) l broken) (judged status s p).state.files
unfolding refused ended
stores_judged s status p l go = by (eqb status ok) refl
  where
    by : (b : Bool) → eqb status ok ≡ b → Stores s.files (pick b l broken) (pick b p (refused s status)).state.files
    by true e = unfold pick in go (eqb-true _ _ e)
    by false e = unfold pick posts in λ ls. refl

stores_bytes : (s : State) → Sound s → (b : List ℕ) → bytes_status s.core.channel.chain b ≡ ok → Stores s.files (posted (write_of s.core.channel.chain b)) (delivered s b).state.files
unfolding delivered posts through
stores_bytes s h b e ls =
    let k = s.core.channel.chain in
    let c = carried k b e in
    let r = ranged k h.channel.chain c.opened in
    ap (λ (x : Files). through stored x (posts ls)) (written_stored s.files h.files _ b k.file (bytes_room k (length b) r c))

stores : (s : State) → Sound s → (e : Event) → Stores s.files (line_by file_account s e) (moves s e).files
unfolding plays line_by
stores s h (command f u handed) = unfold played in stores_judged s (status_of s.core f) (accepted s u (ins_of f) (data_of f)) _ (λ e. unfold accepted accepted_plain changed in stores_changed s h (ins_of f) (role_in s.core.settings (data_of f)) (plain_in s.core f) (accepted_cleared s f (eq-eqb _ _ e)))
stores s h (opens f) = unfold opening_played in stores_judged s (opening_status s.core f) (opening s (data_of f)) _ (λ e. unfold opening posts in λ ls. refl)
stores s h (delivers b) = unfold bytes_played in stores_judged s (bytes_status s.core.channel.chain b) (delivered s b) _ (stores_bytes s h b)
stores s h (session k known) = unfold with_session posts in λ ls. refl
stores s h power = unfold ended posts in λ ls. refl

-- ---- any history

pub files_law : (s : State) → Sound s → (es : List Event) → (run moves s es).files ≡ through stored s.files (posts (along moves (line_by file_account) s es))
unfolding run along
files_law s h [] = unfold posts through in refl
files_law s h (e ∷ es) = files_law (moves s e) (moves_sound s e h) es ∙ stores s h e (along moves (line_by file_account) (moves s e) es)
