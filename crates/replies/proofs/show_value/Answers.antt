use Rattle.replies.specs.Guarded.{value_in}
use Rattle.wire.proofs.Laws.{shows_as, shows_none, shows_whole}
use Rattle.wire.specs.Bytes.{four}
use Rattle.tables.specs.Choice.{choice}
use mir.Facts.{to_z-of_z}
use mir.Val.{of_z}
use mir.Syntax.{w32}
use native.Mathlib.Omega.{arith}
use mathlib.Core.Path.{refl}
use Rattle.replies.proofs.show_value.Goals as goal

pub returns-then-reply-lt4 : goal.returns-then-reply-lt4
unfolding value_in
returns-then-reply-lt4 c = shows_as _ _ _ _ _ (search choice) (shows_none c.args.reply.now)

pub returns : goal.returns
unfolding value_in
returns c =
    shows_as (four (of_z w32 c.args.value)) _ _ _ _ (search choice) (shows_whole _ _ _ 4 refl (omega arith) (simp (c.four_of-bytes.ensures, c.bits.ensures, to_z-of_z c.ranges.value) at c.lay.ensures))
