-- The former log, whose commit moved up to three entries: the newest in front. No code is behind it.
use Rattle.std.specs.Prelude.{ℕ, zero, suc, Bool, List, [], ◌∷◌, length, take, drop}
use Rattle.tables.specs.Choice.{pick}
use Rattle.wire.specs.Bytes.{laid}
use Rattle.logfile.specs.Journal.{Journal, entry_size, joined, fresh_or, some}

-- its struct: the ring's without the place
pub record Former : Type 0 where
  pub slots : List ℕ
  pub count : ℕ
  pub entry : List ℕ
  pub adds : Bool
  pub clears : Bool

unfoldable pub cut : ℕ → List ℕ → List (List ℕ)
cut zero bs = []
cut (suc n) bs = take entry_size bs ∷ cut n (drop entry_size bs)

unfoldable pub viewed : Former → Journal
viewed l = record { entries = cut l.count l.slots; fresh = pick l.adds (l.entry ∷ []) []; clears = l.clears }

-- every entry is laid again from the front on
unfoldable pub moved : Former → Journal → Former
moved l j =
    record {
      slots = laid l.slots 0 (joined j.entries);
      count = length j.entries;
      entry = fresh_or l.entry j.fresh;
      adds = some j.fresh;
      clears = j.clears;
    }
