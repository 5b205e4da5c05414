-- What the functions answer for every amount: the command's effect where its test passes, else the purse as it was.
use Rattle.std.specs.Prelude.{ℕ, ◌&&◌, leb, pos, ◌+ℤ◌, ◌-ℤ◌}
use Rattle.tables.specs.Choice.{pick}
use Rattle.limits.specs.declared.Limits.{Limits}
use Rattle.limits.specs.Limits.{within}
use Rattle.purse.specs.declared.Purse.{Purse}
use Rattle.purse.specs.Purse.{raised, credited, debited, rebooked}

-- what Credit and LimitedCredit share
unfoldable pub raise_in : Limits → Purse → ℕ → ℕ → Purse
raise_in l p n left = pick (within l (p.pending +ℤ pos n)) (raised p n left) p

unfoldable pub credit_in : Limits → Purse → ℕ → Purse
credit_in l p n = pick (within l (p.pending +ℤ pos n)) (credited p n) p

unfoldable pub debit_in : Limits → Purse → ℕ → Purse
debit_in l p n = pick (within l (p.pending -ℤ pos n)) (debited p n) p

unfoldable pub rebook_in : Limits → Purse → ℕ → Purse
rebook_in l p n = pick (within l (p.pending +ℤ pos n) && leb n p.left) (rebooked p n) p
