use mathlib.Core.Path.{◌≡◌}
use Rattle.wire.specs.Bytes.{laid}
use Rattle.field.specs.Bytes.{zeros}
use Rattle.cbc.specs.Cbc.{encrypted_from}
use Rattle.cbc.proofs.Blocks.{last_sealed}
use Rattle.cbc.proofs.encrypt.Given as goal

abbrev pub invariant-loop-i : goal.invariant-loop-i
invariant-loop-i g l = (l.r ≡ laid l.x 0 (encrypted_from l.w zeros l.i l.x)) × (l.last ≡ last_sealed l.w zeros l.i l.x)
