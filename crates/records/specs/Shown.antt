-- What a read lays into a buffer.
use Rattle.std.specs.Prelude.{ℕ, ◌+◌, ◌*◌, List, [], ◌∷◌, reverse, ltb}
use Rattle.tables.specs.Choice.{pick, any}
use Rattle.wire.specs.Bytes.{outside_of}
use Rattle.logfile.specs.declared.Log.{Log}
use Rattle.logfile.specs.Journal.{most_entries, slot_bytes, joined, shown}
use Rattle.logfile.specs.Ring.{ringed}
use Rattle.logfile.specs.View.{view}

-- n entries of the ring bs from entry r on, the oldest leading; entry 0 lies in slot p, and each other three slots on
unfoldable pub oldest_first : List ℕ → ℕ → ℕ → ℕ → List ℕ
oldest_first bs p r n = joined (reverse (ringed n (p + 3 * r) bs))

-- in a buffer of this room: nothing where the range is outside the log, or the room or the log unfit
unfoldable pub shown_in : ℕ → Log → ℕ → ℕ → List ℕ
shown_in room l r c = pick (any (ltb room slot_bytes ∷ ltb most_entries l.count ∷ outside_of l.count r c ∷ [])) [] (shown (view l) r c)
