-- Histories of a card: the events, what the card answers to each, and what became of each.
use Rattle.std.specs.Prelude.{ℕ, true, List, [], ◌∷◌, ◌≡◌, eqb, length, Option}
use Rattle.refusals.specs.declared.Refusal.{Refusal}
use Rattle.tables.specs.Choice.{pick}
use Rattle.access.specs.Rights.{session_sound}
use Rattle.roles.specs.declared.Role.{Role}
use Rattle.frames.specs.Frame.{ins_of, data_of, offset_of, bytes_in, amount_of}
use Rattle.columns.specs.Table.{write_data, credit, debit, limited_credit, write_record, clear_record_file, commit_transaction, abort_transaction}
use Rattle.chains.specs.declared.Chain.{Chain}
use Rattle.chains.specs.Chain.{next_place}
use Rattle.channel.specs.declared.Inputs.{Inputs}
use Rattle.rows.specs.State.{Core, State}
use Rattle.modes.specs.Modes.{role_in, plain_of}
use Rattle.rows.specs.Rows.{ok, maced_in, status_of, opening_status, bytes_status}
use Rattle.card.specs.declared.Card.{Card}
use Rattle.card.specs.View.{view}
use Rattle.card.specs.Outcome.{Outcome, reply_of}
use Rattle.card.specs.Events.{Played, ended, played, opening_played, bytes_played, with_session, commanded, chain_opened, bytes_sent, session_changed, powered_up, reply_room}
use Rattle.demands.specs.Strike.{Line, posted, closed, broken, idle}
use Rattle.demands.specs.Books.{Op, paid_in, paid_out, rebooked, entered, cleared, Books}
use Rattle.demands.specs.DataFiles.{Write}

-- what the bench hands in with an event has the sizes that its type gives it
pub record Handed (u : Inputs) : Type 0 where
  pub random : length u.random ≡ 16
  pub ti : length u.ti ≡ 4

-- a bench refusal is no part of a history: what may be replied to comes with room for a reply, a session change names a key 0 to 4
-- or none
pub data Event : Type 0 where
  -- a frame, any bytes, with what the bench hands in
  command : List ℕ → (u : Inputs) → Handed u → Event
  -- the opening of a chain, any bytes
  opens : List ℕ → Event
  -- a frame of file bytes
  delivers : List ℕ → Event
  session : (k : Option ℕ) → session_sound k ≡ true → Event
  power : Event

-- what the definitions of demand 2 answer
unfoldable pub outcome : Card → Event → Outcome
outcome c (command f u handed) = commanded c f u reply_room
outcome c (opens f) = chain_opened c f reply_room
outcome c (delivers b) = bytes_sent c b reply_room
outcome c (session k known) = session_changed c k
outcome c power = powered_up c

abbrev pub next : Card → Event → Card
next c e = (outcome c e).card

-- the same on a state, where there is no bench refusal
unfoldable pub plays : State → Event → Played
plays s (command f u handed) = played s u f
plays s (opens f) = opening_played s f
plays s (delivers b) = bytes_played s b
plays s (session k known) = record { state = with_session s k; stored = 0; out = [] }
plays s power = record { state = ended s; stored = 0; out = [] }

-- all that is seen of an event: the bench refusal, if any, the reply's bytes, its length
pub record Said : Type 0 where
  pub refusal : Option Refusal
  pub bytes : List ℕ
  pub len : ℕ

unfoldable pub said : Card → Event → Said
said c e = record { refusal = (outcome c e).refusal; bytes = (outcome c e).out; len = (reply_of (outcome c e)).len }

-- ---- runs of any machine

module _ {S E : Type 0} (step : S → E → S) where
  -- where a run ends
  unfoldable pub run : S → List E → S
  run s [] = s
  run s (e ∷ es) = run (step s e) es

  -- what is noted of each event on the way
  unfoldable pub along : {L : Type 0} → (S → E → L) → S → List E → List L
  along f s [] = []
  along f s (e ∷ es) = f s e ∷ along f (step s e) es

-- ---- what became of each event

-- an accepted command, for the books
unfoldable pub book_line : ℕ → List ℕ → Line Op
book_line i d =
    pick (eqb i credit) (posted (paid_in (amount_of d)))
    (pick (eqb i debit) (posted (paid_out (amount_of d)))
    (pick (eqb i limited_credit) (posted (rebooked (amount_of d)))
    (pick (eqb i write_record) (posted (entered (offset_of d) (bytes_in d)))
    (pick (eqb i clear_record_file) (posted cleared)
    (pick (eqb i commit_transaction) closed
    (pick (eqb i abort_transaction) broken
    idle))))))

-- an accepted command, for the data files; r is the role of the file that it names
unfoldable pub file_line : ℕ → Role → List ℕ → Line Write
file_line i r d = pick (eqb i write_data) (posted (record { file = r; place = offset_of d; bytes = bytes_in d })) idle

-- the data field of a frame without its MAC
abbrev pub plain_in : Core → List ℕ → List ℕ
plain_in c f = plain_of (maced_in c (ins_of f) (data_of f)) (data_of f)

-- an accepted frame b of the chain k is a write of its bytes at its place
abbrev pub write_of : Chain → List ℕ → Write
write_of k b = record { file = k.file; place = next_place k; bytes = b }

-- what an account notes of an accepted command, and of an accepted frame of file bytes
pub record Account (X : Type 0) : Type 0 where
  pub of_command : ℕ → Role → List ℕ → Line X
  pub of_write : Write → Line X

-- the books do not notice chains; for the data files each frame is a write
abbrev pub book_account : Account Op
book_account = record { of_command = λ i r d. book_line i d; of_write = λ w. idle }

abbrev pub file_account : Account Write
file_account = record { of_command = file_line; of_write = posted }

-- any event: what is refused and a power-up break off, a session change does not, nor do the parts of an authentication and the
-- opening of a chain
unfoldable pub line_by : {X : Type 0} → Account X → State → Event → Line X
line_by a s (command f u handed) = pick (eqb (status_of s.core f) ok) (a.of_command (ins_of f) (role_in s.core.settings (data_of f)) (plain_in s.core f)) broken
line_by a s (opens f) = pick (eqb (opening_status s.core f) ok) idle broken
line_by a s (delivers b) = pick (eqb (bytes_status s.core.channel.chain b) ok) (a.of_write (write_of s.core.channel.chain b)) broken
line_by a s (session k known) = idle
line_by a s power = broken

-- the lines of a history from the card c on
unfoldable pub traced : {X : Type 0} → Account X → Card → List Event → List (Line X)
traced a = along next (λ c e. line_by a (view c) e)

-- what a state holds for good
abbrev pub books_of : State → Books
books_of s = record { value = s.core.purse.value; allowance = s.core.purse.allowance; log = s.core.journal.entries }
