-- Plain bookkeeping over operations that were committed. No card, no frame and no step of the card is named here.
use Rattle.std.specs.Prelude.{ℕ, ◌+◌, min, Bool, true, false, ◌||◌, List, [], ◌∷◌, ℤ, pos, ◌+ℤ◌, ◌-ℤ◌, take, replicate}
use Rattle.tables.specs.Choice.{pick}
use Rattle.wire.specs.Bytes.{laid}
use Rattle.demands.specs.Strike.{Line, strike, posts, part, through}

-- a value or log operation
pub data Op : Type 0 where
  -- Credit
  paid_in : ℕ → Op
  -- Debit
  paid_out : ℕ → Op
  -- LimitedCredit
  rebooked : ℕ → Op
  -- WriteRecord: bytes from a place on
  entered : ℕ → List ℕ → Op
  -- ClearRecordFile
  cleared : Op

-- ---- what an operation brings

-- credits and re-bookings
abbrev pub inflow : Op → ℕ
inflow (paid_in n) = n
inflow (paid_out n) = 0
inflow (rebooked n) = n
inflow (entered at bytes) = 0
inflow cleared = 0

-- debits
abbrev pub outflow : Op → ℕ
outflow (paid_in n) = 0
outflow (paid_out n) = n
outflow (rebooked n) = 0
outflow (entered at bytes) = 0
outflow cleared = 0

abbrev pub is_debit : Op → Bool
is_debit (paid_in n) = false
is_debit (paid_out n) = true
is_debit (rebooked n) = false
is_debit (entered at bytes) = false
is_debit cleared = false

abbrev pub is_rebooking : Op → Bool
is_rebooking (paid_in n) = false
is_rebooking (paid_out n) = false
is_rebooking (rebooked n) = true
is_rebooking (entered at bytes) = false
is_rebooking cleared = false

abbrev pub is_entry : Op → Bool
is_entry (paid_in n) = false
is_entry (paid_out n) = false
is_entry (rebooked n) = false
is_entry (entered at bytes) = true
is_entry cleared = false

abbrev pub is_clear : Op → Bool
is_clear (paid_in n) = false
is_clear (paid_out n) = false
is_clear (rebooked n) = false
is_clear (entered at bytes) = false
is_clear cleared = true

unfoldable pub sum : (Op → ℕ) → List Op → ℕ
sum f [] = 0
sum f (o ∷ os) = f o + sum f os

unfoldable pub some : (Op → Bool) → List Op → Bool
some p [] = false
some p (o ∷ os) = p o || some p os

-- ---- the value, over any operations

-- the start, credits and re-bookings, less debits
unfoldable pub value_after : ℤ → List Op → ℤ
value_after start ops = start +ℤ pos (sum inflow ops) -ℤ pos (sum outflow ops)

-- ---- allowance and log, over one transaction

-- with at least one Debit the sum of the Debits, held at the largest figure; else with a re-booking 0; else the old one
unfoldable pub allowance_after : ℕ → List Op → ℕ
allowance_after old tx = pick (some is_debit tx) (min (sum outflow tx) 2147483647) (pick (some is_rebooking tx) 0 old)

-- the entry e, overwritten by the transaction's WriteRecords in order
unfoldable pub overwritten : List ℕ → List Op → List ℕ
overwritten e [] = e
overwritten e (paid_in n ∷ os) = overwritten e os
overwritten e (paid_out n ∷ os) = overwritten e os
overwritten e (rebooked n ∷ os) = overwritten e os
overwritten e (entered at bytes ∷ os) = overwritten (laid e at bytes) os
overwritten e (cleared ∷ os) = overwritten e os

-- the entries since the last clear, the newest first: one entry a transaction that has a WriteRecord, begun as 16 zeros
unfoldable pub entries_after : List (List ℕ) → List Op → List (List ℕ)
entries_after old tx = pick (some is_clear tx) [] (pick (some is_entry tx) (overwritten (replicate 16 0) tx ∷ old) old)

-- ---- the books

pub record Books : Type 0 where
  pub value : ℤ
  pub allowance : ℕ
  pub log : List (List ℕ)

-- over what became of each event: strike, and part what is left at its commits
unfoldable pub booked : ℤ → List (Line Op) → Books
booked start lines =
    record {
      value = value_after start (posts (strike lines));
      allowance = through allowance_after 0 (part [] (strike lines));
      log = take 4 (through entries_after [] (part [] (strike lines)));
    }
