use mathlib.Core.Path.{◌≡◌}
use Prim.Native.Nat.{◌≤◌}
use lib.ListN.{length}
use Rattle.input.specs.Block.{end_of}
use Rattle.console.proofs.serve.Given as goal

abbrev pub invariant-loop : goal.invariant-loop
invariant-loop g l = (length l.buf ≡ 65536) × (length l.out ≡ 65536) × (l.at ≤ end_of l.block) × (end_of l.block ≤ 65536)
