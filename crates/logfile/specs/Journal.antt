-- The cyclic log as the rules speak of it: entries of 16 bytes, the newest first, and what is pending on them.
use Rattle.std.specs.Prelude.{ℕ, ◌-◌, ◌*◌, List, [], ◌∷◌, ◌++◌, reverse, Bool, true, false, eqb, length, take, drop, replicate}
use Rattle.tables.specs.Choice.{pick}
use Rattle.wire.specs.Bytes.{laid_in}

-- the bytes of an entry, and the most entries that the log holds
abbrev pub entry_size : ℕ
entry_size = 16

abbrev pub most_entries : ℕ
most_entries = 4

-- the bytes of all slots
abbrev pub slot_bytes : ℕ
slot_bytes = entry_size * most_entries

pub record Journal : Type 0 where
  -- committed entries, entry 0 the newest
  pub entries : List (List ℕ)
  -- the open transaction's new entry, or none
  pub fresh : List (List ℕ)
  -- a clear is pending
  pub clears : Bool

-- an entry of zeros
unfoldable pub blank : List ℕ
blank = replicate entry_size 0

-- entries one after the other
unfoldable pub joined : List (List ℕ) → List ℕ
joined [] = []
joined (e ∷ es) = e ++ joined es

-- a read of c entries from entry r on, the oldest leading; count 0: all from r to the oldest
unfoldable pub shown : Journal → ℕ → ℕ → List ℕ
shown j r c = joined (reverse (take (pick (eqb c 0) (length j.entries - r) c) (drop r j.entries)))

-- the new entry, or e where there is none
unfoldable pub fresh_or : List ℕ → List (List ℕ) → List ℕ
fresh_or e [] = e
fresh_or e (f ∷ fs) = f

-- WriteRecord: into the transaction's one new entry, which starts as zeros
unfoldable pub written : Journal → ℕ → List ℕ → Journal
written j off bytes = record { entries = j.entries; fresh = laid_in (fresh_or blank j.fresh) off bytes ∷ []; clears = j.clears }

-- ClearRecordFile: drops the new entry, and empties the log at commit
unfoldable pub cleared : Journal → Journal
cleared j = record { entries = j.entries; fresh = []; clears = true }

-- a new entry goes in front; a fifth pushes the oldest out
unfoldable pub pushed : List (List ℕ) → List (List ℕ) → List (List ℕ)
pushed [] es = es
pushed (f ∷ fs) es = take most_entries (f ∷ es)

-- a journal with nothing pending
unfoldable pub resting : List (List ℕ) → Journal
resting es = record { entries = es; fresh = []; clears = false }

-- commit
unfoldable pub settled : Journal → Journal
settled j = resting (pick j.clears [] (pushed j.fresh j.entries))

-- an entry is pending
unfoldable pub some : List (List ℕ) → Bool
some [] = false
some (f ∷ fs) = true

-- the slot bytes that a commit stores: those of a new entry, and else none
unfoldable pub stored : Journal → ℕ
stored j = pick j.clears 0 (pick (some j.fresh) entry_size 0)

-- what was pending is dropped
unfoldable pub dropped : Journal → Journal
dropped j = resting j.entries
