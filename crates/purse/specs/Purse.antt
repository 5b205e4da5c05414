-- The value file: its figures in whole numbers, and what each command does to them.
use Rattle.std.specs.Prelude.{ℕ, ◌+◌, min, true, false, ℤ, pos, ◌+ℤ◌, ◌-ℤ◌}
use Rattle.tables.specs.Choice.{pick}
use Rattle.purse.specs.declared.Purse.{Purse}

-- the largest figure of the allowance and of a sum of Debits
abbrev pub largest : ℕ
largest = 2147483647

-- a purse with nothing pending
unfoldable pub resting : ℤ → ℕ → Purse
resting v a = record { value = v; allowance = a; pending = v; left = a; debits = 0; debited = false; moved = false }

-- the pending value rises, with `left` left of the allowance
abbrev pub raised : Purse → ℕ → ℕ → Purse
raised p n left = record { value = p.value; allowance = p.allowance; pending = p.pending +ℤ pos n; left = left; debits = p.debits; debited = p.debited; moved = true }

-- Credit: the pending value rises
unfoldable pub credited : Purse → ℕ → Purse
credited p n = raised p n p.left

-- a sum of Debits is held at the largest figure
abbrev pub held_sum : ℕ → ℕ → ℕ
held_sum sum n = min (sum + n) largest

-- Debit: it falls, and the transaction's sum of Debits rises, held at the largest figure
unfoldable pub debited : Purse → ℕ → Purse
debited p n = record { value = p.value; allowance = p.allowance; pending = p.pending -ℤ pos n; left = p.left; debits = held_sum p.debits n; debited = true; moved = true }

-- LimitedCredit: it rises, and what is left of the allowance is used up
unfoldable pub rebooked : Purse → ℕ → Purse
rebooked p n = raised p n 0

-- commit takes over the pending figures; a transaction with a Debit sets the allowance to its sum of Debits
unfoldable pub settled : Purse → Purse
settled p = resting p.pending (pick p.debited p.debits p.left)

-- what was pending is dropped
unfoldable pub dropped : Purse → Purse
dropped p = resting p.value p.allowance
