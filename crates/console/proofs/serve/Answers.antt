use Rattle.lines.proofs.Laws.{goes_within}
use borrow.Author.Rules.{rules}
use Rattle.console.proofs.serve.Goals as goal

pub slice_bounds-out-end : goal.slice_bounds-out-end
slice_bounds-out-end g c = let w = goes_within g.P.Player.said _ _ _ _ _ _ _ c.play-progress.ensures in search rules

pub slice_bounds-write_all-end : goal.slice_bounds-write_all-end
slice_bounds-write_all-end g c = let w = goes_within g.P.Player.said _ _ _ _ _ _ _ c.play-progress.ensures in search rules

pub overflow_add-at : goal.overflow_add-at
overflow_add-at g c = let w = goes_within g.P.Player.said _ _ _ _ _ _ _ c.play-progress.ensures in search rules

pub loop-preserved-then-progress-gt0 : goal.loop-preserved-then-progress-gt0
loop-preserved-then-progress-gt0 g c = let w = goes_within g.P.Player.said _ _ _ _ _ _ _ c.play-progress.ensures in search rules
