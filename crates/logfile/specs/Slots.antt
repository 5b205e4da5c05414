-- What an operation does to the slots: a commit with a new entry stores its slot alone, and nothing else stores any.
use Rattle.std.specs.Prelude.{ℕ, zero, suc, ◌≡◌}
use mathlib.Core.List.{List}
use Rattle.wire.specs.Bytes.{laid}
use Rattle.logfile.specs.declared.Log.{Log}
use Rattle.logfile.specs.Ring.{slot_at, newer}

-- n slot bytes were stored between the logs a and b: none, or the entry e in the slot behind the newest
abbrev pub Stores : ℕ → List ℕ → Log → Log → Type 0
Stores zero e a b = (b.place ≡ a.place) × (b.slots ≡ a.slots)
Stores (suc n) e a b = (b.place ≡ newer a.place) × (b.slots ≡ laid a.slots (slot_at b.place) e)
