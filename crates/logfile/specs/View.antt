-- The log as the program holds it, and the journal that it stands for.
use Rattle.std.specs.Prelude.{ℕ, zero, suc, [], ◌∷◌, false, length, replicate}
use Rattle.tables.specs.Choice.{pick}
use Rattle.logfile.specs.declared.Log.{Log}
use Rattle.logfile.specs.declared.Stored.{Stored}
use Rattle.logfile.specs.Journal.{slot_bytes, Journal, blank, fresh_or, some, stored, settled}
use Rattle.logfile.specs.Ring.{newer, ringed, laid_round}

-- the place shows in no journal: only the entries do, read from it on
unfoldable pub view : Log → Journal
view l = record { entries = ringed l.count l.place l.slots; fresh = pick l.adds (l.entry ∷ []) []; clears = l.clears }

-- where the newest entry lies once n slot bytes were stored: in the next slot, or where it lay
abbrev pub turned : ℕ → ℕ → ℕ
turned zero p = p
turned (suc n) p = newer p

-- the journal j laid into the log l, with n slot bytes stored: other slots stay, and so do the bytes of the new entry where none is pending
unfoldable pub put : Log → ℕ → Journal → Log
put l n j =
    record {
      slots = laid_round l.slots (turned n l.place) j.entries;
      place = turned n l.place;
      count = length j.entries;
      entry = fresh_or l.entry j.fresh;
      adds = some j.fresh;
      clears = j.clears;
    }

-- that log, and the slot bytes that were stored
unfoldable pub put_stored : Log → ℕ → Journal → Stored
put_stored l n j = record { log = put l n j; stored = n }

-- commit
abbrev pub committed : Log → Stored
committed l = put_stored l (stored (view l)) (settled (view l))

-- no entry, nothing pending, and every byte and figure 0; so the first entry goes into slot 1
unfoldable pub empty : Log
empty = record { slots = replicate slot_bytes 0; place = 0; count = 0; entry = blank; adds = false; clears = false }
