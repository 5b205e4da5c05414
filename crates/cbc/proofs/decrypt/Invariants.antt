use mathlib.Core.Path.{◌≡◌}
use Rattle.wire.specs.Bytes.{laid}
use Rattle.field.specs.Bytes.{zeros}
use Rattle.cbc.specs.Cbc.{decrypted_from}
use Rattle.cbc.proofs.Blocks.{last_block}
use Rattle.cbc.proofs.decrypt.Given as goal

abbrev pub invariant-loop-i : goal.invariant-loop-i
invariant-loop-i g l = (l.r ≡ laid l.x 0 (decrypted_from l.w zeros l.i l.x)) × (l.before ≡ last_block l.w zeros l.i l.x)
