use Rattle.std.specs.Prelude.{◌≡◌, ℕ, min}
use Rattle.std.proofs.Common.{rules, arith, SFits, to_z-of_z}
use Rattle.std.specs.Int.{w32}
use Rattle.tables.specs.Choice.{picked}
use Rattle.whole.specs.Moves.{Fall, fallen}
use Rattle.purse.specs.Purse.{largest, debited}
use Rattle.purse.specs.Guarded.{debit_in}
use Rattle.purse.proofs.Moves.{Landed, landed}
use Rattle.purse.proofs.Purse.debit.Goals as goal
use Rattle.purse.proofs.Purse.debit.Goals.{Else-not-hold_fall}

total : (sum held result : ℕ) → held ≡ min sum 4294967295 → result ≡ min held largest → result ≡ min sum largest
total sum held result h r = omega (arith, h, r)

-- past the test
move : (c : Else-not-hold_fall) → Fall (Landed c.args.limits) c.args.self.pending c.args.amount
move c =
    let low : SFits w32 c.args.limits.lower = search rules in
    let high : SFits w32 c.args.limits.upper = search rules in
    let pending : SFits w32 c.args.self.pending = search rules in
    landed _ (fallen pending c.ranges.amount) c.hold_fall.ensures low high c.if-not-hold_fall.false

pub overflow_cast-result-3 : goal.overflow_cast-result-3
overflow_cast-result-3 c = (move (goal.at.overflow_cast-result-3 c).Else-not-hold_fall).fits

pub returns : goal.returns
unfolding debit_in debited
returns c =
    let value : SFits w32 c.args.self.value = search rules in
    let k = move (goal.at.returns c).Else-not-hold_fall in
    rw (to_z-of_z value, picked _ _ k.holds, k.to, total _ _ _ c.saturating_add.ensures c.min.ensures)
