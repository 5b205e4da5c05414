-- The three demands, stated: each field is a sentence. The theorems demand1, demand2, standing, demand3, equal_replies and in_code prove them.
use Rattle.std.specs.Prelude.{ℕ, ◌+◌, ◌≤◌, ◌<◌, Bool, true, false, ◌||◌, List, [], ◌∷◌, ◌++◌, ◌↔◌, ◌⊎◌, ◌≡◌, eqb, ℤ, length, None}
use Rattle.tables.specs.Reasons.{Reason, NoReason}
use Rattle.wire.specs.Bytes.{laid, word}
use Rattle.roles.specs.declared.Role.{Role}
use Rattle.roles.specs.Roles.{size_of}
use Rattle.datafiles.specs.Files.{bytes_of}
use Rattle.limits.specs.Limits.{within}
use Rattle.logfile.specs.Journal.{entry_size, slot_bytes}
use Rattle.keys.specs.declared.Keys.{Keys}
use Rattle.channel.specs.declared.Channel.{Channel}
use Rattle.channel.specs.declared.Inputs.{Inputs}
use Rattle.channel.specs.Channel.{is_real, is_waiting, bare, closed, chained}
use Rattle.frames.specs.Frame.{ins_of, data_of}
use Rattle.settings.specs.declared.Settings.{Settings}
use Rattle.rows.specs.Rows.{rows_for, ok, status_for, bytes_rows, bytes_status}
use Rattle.card.specs.declared.Card.{Card}
use Rattle.card.specs.declared.Reply.{Reply}
use Rattle.card.specs.View.{view, broken}
use Rattle.card.specs.Outcome.{Outcome, Answered}
use Rattle.standing.specs.Rules.{order_refusal}
use Rattle.card.specs.Events.{Played, refused, accepted, opening, delivered, laid_into, commanded, chain_opened, bytes_sent, issued, reply_room}
use Rattle.demands.specs.Books.{booked}
use Rattle.demands.specs.DataFiles.{filed}
use Rattle.demands.specs.History.{Event, power, outcome, next, Said, said, run, along, book_account, file_account, traced, books_of}

-- a card that keeps the standing rules; its fields have the sizes that their types give them
pub record Kept (c : Card) : Type 0 where
  pub rules : broken c ≡ false
  pub files : (r : Role) → length (bytes_of c.files r) ≡ size_of r
  pub slots : length c.log.slots ≡ slot_bytes
  pub entry : length c.log.entry ≡ entry_size
  pub secret : length c.channel.secret ≡ 16
  pub ti : length c.channel.ti ≡ 4
  pub caps : length c.channel.caps ≡ 6

-- ---- demand 1: every byte string gets a reply, and a refusal leaves the card's holdings alone

-- the accepted ones, 9100 and 91AF, and the statuses of the order of checks
unfoldable pub statuses : List ℕ
statuses =
    0x9100 ∷ 0x91AF ∷ 0x6700 ∷ 0x6E00 ∷ 0x6A86 ∷ 0x911C ∷ 0x91CA ∷ 0x917E ∷ 0x91F0 ∷ 0x919D ∷ 0x91AE ∷ 0x911E ∷ 0x919E ∷ 0x91BE ∷ 0x910C ∷ []

-- any other status is a refusal
abbrev pub Refusal : ℕ → Type 0
Refusal status = (status ≡ 0x9100 → ⊥) × (status ≡ 0x91AF → ⊥)

unfoldable pub among : ℕ → List ℕ → Bool
among n [] = false
among n (m ∷ ms) = eqb n m || among n ms

-- settings, keys, data files, committed value, allowance and log as before; no session, no chain, and no byte that one left; nothing
-- pending. Before is before the refused event: bytes of a chain that were delivered by then stay in their file, the one exception
pub record Untouched (before after : Card) : Type 0 where
  pub settings : after.settings ≡ before.settings
  pub keys : after.keys ≡ before.keys
  pub files : after.files ≡ before.files
  pub books : books_of (view after) ≡ books_of (view before)
  pub no_session : after.channel ≡ closed
  pub value_rests : after.purse.moved ≡ false
  pub pending_value : after.purse.pending ≡ after.purse.value
  pub pending_allowance : after.purse.left ≡ after.purse.allowance
  pub no_debit : after.purse.debited ≡ false
  pub no_debit_sum : after.purse.debits ≡ 0
  pub no_entry : after.log.adds ≡ false
  pub no_clear : after.log.clears ≡ false

-- the card c, a lent buffer before and after the call, and what the call returned
pub record Replied (c : Card) (before after : List ℕ) (r : Reply) : Type 0 where
  pub shown : List ℕ
  pub status : ℕ
  pub listed : among status statuses ≡ true
  pub bytes : after ≡ laid before 0 (shown ++ word status)
  pub len : r.len ≡ length shown + 2
  pub room : r.len ≤ reply_room
  pub refusal : r.refusal ≡ None
  pub refused : Refusal status → (shown ≡ []) × Untouched c r.card

-- no reply: an accepted opening, or an accepted frame of file bytes that is not the last
pub record Silent (before after : List ℕ) (r : Reply) : Type 0 where
  pub bytes : after ≡ before
  pub len : r.len ≡ 0
  pub refusal : r.refusal ≡ None

-- the method `command`, as its contract says, left this buffer and returned r
pub record Demand1 (c : Card) (before after : List ℕ) (r : Reply) : Type 0 where
  pub replied : Kept c → reply_room ≤ length before → Replied c before after r
  pub short : length before < reply_room → (r.card ≡ c) × (after ≡ before)

-- the same for `open_chain` and `file_frame`
pub record Demand1Chain (c : Card) (before after : List ℕ) (r : Reply) : Type 0 where
  pub replied : Kept c → reply_room ≤ length before → Replied c before after r ⊎ Silent before after r
  pub short : length before < reply_room → (r.card ≡ c) × (after ≡ before)

-- ---- demand 2: refused exactly when a row of the table applies, by the first such row

-- of a command, and of an opening where o says so
abbrev pub rows_on : Bool → Card → List ℕ → List Reason
rows_on o c f = rows_for o (view c).core f (ins_of f) (data_of f)

-- a row that applies, with none above it that does
pub record FirstRow (rows : List Reason) (status : ℕ) : Type 0 where
  pub above : List Reason
  pub row : Reason
  pub below : List Reason
  pub place : rows ≡ above ++ (row ∷ below)
  pub none_above : NoReason above
  pub applies : row.applies ≡ true
  pub names : row.status ≡ status

-- an event with a reply buffer does what p says, whatever the room, of 258 bytes or more
abbrev pub Plays : Card → (ℕ → Outcome) → Played → Type 0
Plays c event p = (room : ℕ) → reply_room ≤ room → event room ≡ laid_into c p

abbrev pub Refuses : Card → (ℕ → Outcome) → ℕ → Type 0
Refuses c event status = Plays c event (refused (view c) status)

-- an event that gives this status by these rows; where none applies it plays p
pub record Judged (c : Card) (event : ℕ → Outcome) (status : ℕ) (rows : List Reason) (p : Played) : Type 0 where
  pub accepted : (status ≡ ok) ↔ NoReason rows
  pub refused : (s : ℕ) → ((status ≡ s) × (s ≡ ok → ⊥)) ↔ FirstRow rows s
  pub accepts : Kept c → NoReason rows → Plays c event p
  pub refuses : (s : ℕ) → Kept c → FirstRow rows s → Refuses c event s
  -- one answer alone fits the contract
  pub one : (before after after' : List ℕ) (r r' : Reply) → Answered (event (length before)) before after r
      → Answered (event (length before)) before after' r' → (r ≡ r') × (after ≡ after')

-- the bytes f as a command and as an opening, and the bytes b as a frame of file bytes
pub record Demand2 (c : Card) (f b : List ℕ) : Type 0 where
  pub command : (u : Inputs) → Judged c (commanded c f u) (status_for false (view c).core f) (rows_on false c f) (accepted (view c) u (ins_of f) (data_of f))
  pub chain : Judged c (chain_opened c f) (status_for true (view c).core f) (rows_on true c f) (opening (view c) (data_of f))
  pub file_bytes : Judged c (bytes_sent c b) (bytes_status c.channel.chain b) (bytes_rows c.channel.chain b) (delivered (view c) b)

-- zero bytes beside a stage that needs none; that the figures of no chain are zero is a standing rule
abbrev pub Clean : Channel → Type 0
Clean k = is_real k.stage ≡ false → is_waiting k.stage ≡ false → k ≡ chained (bare k.stage) k.chain

-- an accepted personalisation: bench refusals 1 to 3, 7 and 8 are not given
abbrev pub Taken : Settings → ℤ → Type 0
Taken s v = order_refusal s v ≡ None

-- its card after a history
abbrev pub reached : Settings → Keys → ℤ → List Event → Card
reached s ks v es = run next (issued s ks v) es

-- every reached card keeps the standing rules, so no event meets bench refusal 6, or any other; where no session is real and no
-- first part waits, it holds no byte of one
pub record Standing (s : Settings) (ks : Keys) (v : ℤ) (es : List Event) : Type 0 where
  pub keeps : Kept (reached s ks v es)
  pub never : (e : Event) → (outcome (reached s ks v es) e).refusal ≡ None
  pub clean : Clean (reached s ks v es).channel

-- ---- demand 3: value, allowance and log are the books over the struck history

pub record Demand3 (s : Settings) (ks : Keys) (v : ℤ) (es : List Event) : Type 0 where
  pub books : books_of (view (reached s ks v es)) ≡ booked v (traced book_account (issued s ks v) es)
  pub files : (reached s ks v es).files ≡ filed (traced file_account (issued s ks v) es)
  pub settings : (reached s ks v es).settings ≡ s
  pub keys : (reached s ks v es).keys ≡ ks
  pub value_inside : within s.limits (reached s ks v es).purse.value ≡ true
  pub pending_inside : within s.limits (reached s ks v es).purse.pending ≡ true

-- two cards of equal settings, keys, data files and books, each just powered up, whatever else lies in them
abbrev pub EqualReplies : Type 0
EqualReplies = (c d : Card) → Kept c → Kept d → c.settings ≡ d.settings → c.keys ≡ d.keys → c.files ≡ d.files → books_of (view c) ≡ books_of (view d)
    → (es : List Event) → along next said (next c power) es ≡ along next said (next d power) es

-- ---- the code: what the methods return along a run is what the definitions say

-- no bench refusal among what was seen
abbrev pub Unrefused : List Said → Type 0
Unrefused [] = Unit {0}
Unrefused (x ∷ xs) = (x.refusal ≡ None) × Unrefused xs

-- calls of the methods led from the personalised card to d, with the history es, and ss was seen of its events
pub record InCode (s : Settings) (ks : Keys) (v : ℤ) (es : List Event) (ss : List Said) (d : Card) : Type 0 where
  pub taken : Taken s v
  pub card : d ≡ reached s ks v es
  pub replies : ss ≡ along next said (issued s ks v) es
  pub unrefused : Unrefused ss
