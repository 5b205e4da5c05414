use Rattle.notices.specs.Notices.{notice_text}
use Rattle.told.specs.Told.{said_of}
use Rattle.letters.specs.Letters.{inputs_in, handed}
use Rattle.wire.proofs.Laws.{part_over_zeros}
use native.Mathlib.Omega.{arith}
use Rattle.letters.proofs.bench.hand_in.Goals as goal

pub returns : goal.returns
unfolding said_of notice_text handed inputs_in
returns c =
    let b = c.args.b.now in
    rw (part_over_zeros b 0 16 (omega (arith, c.requires)) c.lay.ensures, part_over_zeros b 16 20 (omega (arith, c.requires)) c.lay-2.ensures)
