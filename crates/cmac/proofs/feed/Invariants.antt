use mathlib.Core.Path.{◌≡◌}
use lib.ListN.{take}
use Rattle.cmac.specs.Fed.{holding, fed}
use Rattle.cmac.proofs.feed.Given as goal

abbrev pub invariant-loop-a : goal.invariant-loop-a
invariant-loop-a l = holding l.block l.held ≡ fed l.w (holding l.initial.block l.initial.held) (take l.a-index l.m)
