use Rattle.wire.proofs.Laws.{shows_then}
use mir.Facts.{to_z-of_z}
use mir.Val.{SFits}
use mir.Syntax.{w32}
use borrow.Author.Rules.{rules}
use Rattle.description.proofs.show_value.Goals as goal
use Rattle.description.proofs.show_value.Goals.{Start}

fits : (s : Start) → SFits w32 s.args.settings.limits.lower × SFits w32 s.args.settings.limits.upper
fits s = search rules

pub returns : goal.returns
returns c =
    let z = fits (goal.at.returns c).Start in
    simp (c.switches.ensures, c.bits-2.ensures, c.bits.ensures, to_z-of_z z.0, to_z-of_z z.1) at
    (shows_then _ _ _ (shows_then _ _ _ (shows_then _ _ _ (shows_then _ _ _ c.lay_head.ensures c.lay_figure.ensures) c.lay_figure-2.ensures) c.lay_figure-3.ensures) c.lay_figure-4.ensures)
