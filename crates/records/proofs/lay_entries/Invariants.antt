use mathlib.Core.Path.{◌≡◌}
use Prim.Native.Nat.{◌-◌}
use lib.ListN.{length}
use Rattle.wire.specs.Bytes.{laid}
use Rattle.records.specs.Shown.{oldest_first}
use Rattle.records.proofs.lay_entries.Given as goal

abbrev pub invariant-loop-k : goal.invariant-loop-k
invariant-loop-k l = (length l.reply ≡ length l.initial.reply) × (l.reply ≡ laid l.initial.reply 0 (oldest_first l.slots l.place (l.end - l.k) l.k))
