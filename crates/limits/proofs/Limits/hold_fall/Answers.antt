use Rattle.std.proofs.Common.{rules, SFits, to_z-of_z}
use Rattle.std.specs.Int.{w32}
use Rattle.limits.proofs.Headroom.{fall, asked, unasked}
use Rattle.limits.proofs.Limits.hold_fall.Goals as goal

pub returns-then-has_room : goal.returns-then-has_room
returns-then-has_room c =
    let low : SFits w32 c.args.self.lower = search rules in
    let high : SFits w32 c.args.self.upper = search rules in
    asked
    _
    (simp (to_z-of_z, low, c.ranges.from) at c.has_room.ensures.headroom)
    (fall c.args.self c.args.from c.args.amount)
    (simp (to_z-of_z, high, c.ranges.from) at c.reaches.ensures.headroom)
    c.if-has_room.true

pub returns-else-has_room : goal.returns-else-has_room
returns-else-has_room c =
    let low : SFits w32 c.args.self.lower = search rules in
    unasked _ (simp (to_z-of_z, low, c.ranges.from) at c.has_room.ensures.headroom) (fall c.args.self c.args.from c.args.amount) c.if-has_room.false
