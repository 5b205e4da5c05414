-- Entries in a ring of four slots: slot p is counted round, so that slot 4 is slot 0 again.
use Rattle.std.specs.Prelude.{ℕ, zero, suc, ◌+◌, ◌*◌, ◌%◌, List, [], ◌∷◌, take, drop}
use Rattle.wire.specs.Bytes.{laid}
use Rattle.logfile.specs.Journal.{entry_size, most_entries}

-- the place of slot p's first byte
abbrev pub slot_at : ℕ → ℕ
slot_at p = entry_size * (p % most_entries)

-- the bytes of slot p
abbrev pub slot : ℕ → List ℕ → List ℕ
slot p bs = take entry_size (drop (slot_at p) bs)

-- the slot before slot p, where the next older entry lies: three on is one back
abbrev pub older : ℕ → ℕ
older p = p + 3

-- the slot behind slot p, where the next new entry goes
abbrev pub newer : ℕ → ℕ
newer p = (p + 1) % most_entries

-- n entries of the bytes bs, the newest in slot p
unfoldable pub ringed : ℕ → ℕ → List ℕ → List (List ℕ)
ringed zero p bs = []
ringed (suc n) p bs = slot p bs ∷ ringed n (older p) bs

-- bs with these entries laid into their slots, the newest into slot p; other slots stay
unfoldable pub laid_round : List ℕ → ℕ → List (List ℕ) → List ℕ
laid_round bs p [] = bs
laid_round bs p (e ∷ es) = laid (laid_round bs (older p) es) (slot_at p) e
