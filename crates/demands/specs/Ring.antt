-- What the ring promises: the former log's replies, slot bytes stored by a commit with a new entry alone, and slots that wear alike.
-- The theorems equal_forms, slots_kept and worn prove it.
use Rattle.std.specs.Prelude.{ℕ, ◌+◌, ◌-◌, ◌/◌, ◌≤◌, ◌<◌, Bool, true, false, not, ◌&&◌, List, [], ◌≡◌, eqb, ℤ, get_or}
use Rattle.tables.specs.Choice.{pick}
use Rattle.logfile.specs.Journal as journal
use Rattle.logfile.specs.Ring.{slot, newer}
use Rattle.logfile.specs.Wear.{stores_of}
use Rattle.keys.specs.declared.Keys.{Keys}
use Rattle.frames.specs.Frame.{ins_of}
use Rattle.columns.specs.Table.{commit_transaction}
use Rattle.settings.specs.declared.Settings.{Settings}
use Rattle.rows.specs.State.{State}
use Rattle.rows.specs.Rows.{ok, status_of}
use Rattle.card.specs.declared.Card.{Card}
use Rattle.card.specs.View.{view}
use Rattle.card.specs.Events.{issued}
use Rattle.demands.specs.Strike.{Line, strike, part, through}
use Rattle.demands.specs.Books.{Op, is_entry, is_clear, some}
use Rattle.demands.specs.History.{Event, command, opens, delivers, session, power, outcome, next, said, along, book_account, traced}
use Rattle.demands.specs.Demands.{Kept, Taken}
use Rattle.demands.specs.Former.{former_next, former_said, former_issued}

-- ---- the former form and the ring give equal replies for every history

abbrev pub EqualForms : Type 0
EqualForms = (s : Settings) (ks : Keys) (v : ℤ) → Taken s v → (es : List Event)
    → along former_next former_said (former_issued s ks v) es ≡ along next said (issued s ks v) es

-- ---- only a commit with a new entry alters slot bytes, and only in that entry's slot

-- the slot bytes that an event stored, as its answer says
abbrev pub stored_at : Card → Event → ℕ
stored_at c e = (outcome c e).stored

-- the slot of the newest entry
abbrev pub place_of : Card → ℕ
place_of c = c.log.place

-- an accepted commit with a new entry pending, and no clear
unfoldable pub commits_entry : State → Event → Bool
commits_entry s (command f u handed) =
    eqb (status_of s.core f) ok && (eqb (ins_of f) commit_transaction && (journal.some s.core.journal.fresh && not s.core.journal.clears))
commits_entry s (opens f) = false
commits_entry s (delivers b) = false
commits_entry s (session k known) = false
commits_entry s power = false

-- the slots of the card c before the event e and after it
pub record Slots (c : Card) (e : Event) : Type 0 where
  -- the count is the definition's: an entry's bytes, or none
  pub count : stored_at c e ≡ pick (commits_entry (view c) e) journal.entry_size 0
  -- the new entry lies in the slot behind the newest
  pub entry : commits_entry (view c) e ≡ true → (place_of (next c e) ≡ newer (place_of c)) × (slot (place_of (next c e)) (next c e).log.slots ≡ c.log.entry)
  -- byte i is one of slot i / 16
  pub others : (i : ℕ) → i < journal.slot_bytes → (i / journal.entry_size ≡ place_of (next c e) → ⊥) → get_or (next c e).log.slots i 0 ≡ get_or c.log.slots i 0
  -- nothing else stores, and the ring goes on where it was left
  pub still : commits_entry (view c) e ≡ false → (place_of (next c e) ≡ place_of c) × ((next c e).log.slots ≡ c.log.slots)

-- every reached card keeps the rules
abbrev pub SlotsKept : Type 0
SlotsKept = (c : Card) → Kept c → (e : Event) → Slots c e

-- ---- wear

-- the entries that a transaction leaves: one where it has a WriteRecord and no clear
unfoldable pub entries_of : List Op → ℕ
entries_of tx = pick (some is_clear tx) 0 (pick (some is_entry tx) 1 0)

abbrev pub more : ℕ → List Op → ℕ
more n tx = n + entries_of tx

-- the committed entries of a history, by demand 3's own parting
unfoldable pub entries_in : List (Line Op) → ℕ
entries_in lines = through more 0 (part [] (strike lines))

-- no slot has been stored more often than a fourth of them, rounded up
abbrev pub Worn : Type 0
Worn = (s : Settings) (ks : Keys) (v : ℤ) → Taken s v → (es : List Event) (k : ℕ) → k < journal.most_entries
    → stores_of next stored_at place_of k (issued s ks v) es ≤ (entries_in (traced book_account (issued s ks v) es) + (journal.most_entries - 1)) / journal.most_entries
