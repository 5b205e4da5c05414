use Rattle.wire.proofs.Laws.{shows_then, shows_whole}
use native.Mathlib.Omega.{arith}
use mathlib.Core.Path.{refl}
use Rattle.description.proofs.lay_head.Goals as goal

pub returns : goal.returns
returns c =
    shows_then _ _ _ (shows_whole _ _ _ 2 refl (omega arith) c.lay.ensures) c.lay_figure.ensures
