use Rattle.std.proofs.Common.{rules, SFits, to_z-of_z}
use Rattle.std.specs.Int.{w32}
use Rattle.tables.specs.Choice.{picked}
use Rattle.whole.specs.Moves.{Rise, risen}
use Rattle.purse.specs.Guarded.{raise_in}
use Rattle.purse.proofs.Moves.{Landed, landed}
use Rattle.purse.proofs.Purse.raise.Goals as goal
use Rattle.purse.proofs.Purse.raise.Goals.{Else-not-hold_rise}

-- past the test
move : (c : Else-not-hold_rise) → Rise (Landed c.args.limits) c.args.self.pending c.args.amount
move c =
    let low : SFits w32 c.args.limits.lower = search rules in
    let high : SFits w32 c.args.limits.upper = search rules in
    let pending : SFits w32 c.args.self.pending = search rules in
    landed _ (risen pending c.ranges.amount) c.hold_rise.ensures low high c.if-not-hold_rise.false

pub overflow_cast-result-3 : goal.overflow_cast-result-3
overflow_cast-result-3 c = (move (goal.at.overflow_cast-result-3 c).Else-not-hold_rise).fits

pub returns : goal.returns
unfolding raise_in
returns c =
    let value : SFits w32 c.args.self.value = search rules in
    let k = move (goal.at.returns c).Else-not-hold_rise in
    rw (to_z-of_z value, picked _ _ k.holds, k.to)
