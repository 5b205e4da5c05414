-- A ring that begins anew after a clear keeps every function's promise and stores the same bytes. Its wear alone shuts it out: a slot
-- is stored twice where the bound is one.
use Rattle.std.specs.Prelude.{ℕ, ◌+◌, ◌/◌, List, [], ◌∷◌, ◌≡◌, refl, eqb, pos}
use Rattle.tables.specs.Choice.{pick}
use Rattle.logfile.specs.Wear.{stores_of}
use Rattle.keys.specs.Keys as keys
use Rattle.card.specs.declared.Card.{Card}
use Rattle.card.specs.View.{view}
use Rattle.card.specs.Events.{issued}
use Rattle.demands.specs.History.{Event, next, along, book_account, line_by}
use Rattle.demands.specs.Ring.{stored_at, place_of, entries_of, entries_in}
use Rattle.demands.specs.Examples.{program, replies, books, bare, sends}

-- a log without entries is turned back to where a new card's is
unfoldable pub anew : Card → Card
anew c =
    record {
      settings = c.settings;
      keys = c.keys;
      files = c.files;
      purse = c.purse;
      log = record { slots = c.log.slots; place = pick (eqb c.log.count 0) 0 c.log.place; count = c.log.count; entry = c.log.entry; adds = c.log.adds; clears = c.log.clears };
      channel = c.channel;
    }

abbrev pub next_anew : Card → Event → Card
next_anew c e = anew (next c e)

-- an entry committed, the log cleared, another entry committed
unfoldable pub cleared_between : List Event
cleared_between = entry ∷ commits ∷ sends 0xEB (1 ∷ []) ∷ commits ∷ entry ∷ commits ∷ []
  where
    commits : Event
    commits = bare 0xC7

    entry : Event
    entry = sends 0x8B (1 ∷ 0 ∷ 0 ∷ 0 ∷ 1 ∷ 0 ∷ 0 ∷ 0xBB ∷ [])

abbrev first : Card
first = issued program keys.zeros (pos 100)

-- its committed entries, and what they let a slot be stored
abbrev committed : ℕ
committed = entries_in (along next_anew (λ c e. line_by book_account (view c) e) first cleared_between)

pub twice_worn : (committed ≡ 2) × ((committed + 3) / 4 ≡ 1) × (stores_of next_anew stored_at place_of 1 first cleared_between ≡ 2)
unfolding books replies anew cleared_between entries_of entries_in stores_of
twice_worn = (refl, refl, refl)

-- the ring that goes on stores two slots once each
pub once_worn : (stores_of next stored_at place_of 1 first cleared_between ≡ 1) × (stores_of next stored_at place_of 2 first cleared_between ≡ 1)
unfolding replies cleared_between stores_of
once_worn = (refl, refl)
