use Rattle.wire.specs.Bytes.{laid}
use Rattle.wire.proofs.Laws.{laid_room, laid_short}
use lib.Seq.{paste-zero, paste-suc, take-length}
use lib.ListN.{length, length-set}
use native.Mathlib.Numerals.{add-one}
use native.Mathlib.Omega.{arith}
use mathlib.Core.Path.{◌≡◌, refl, sym, ◌∙◌}
use Rattle.wire.proofs.lay.Goals as goal

pub returns-then-dst-src : goal.returns-then-dst-src
returns-then-dst-src c = let a = c.args in sym (laid_short a.dst.now a.at a.src.now (omega arith))

pub returns-then-dst-src-2 : goal.returns-then-dst-src-2
returns-then-dst-src-2 c = let a = c.args in sym (laid_short a.dst.now a.at a.src.now (omega arith))

pub loop-i-init : goal.loop-i-init
loop-i-init c = (refl, paste-zero c.args.dst.now c.args.at c.args.src.now)

pub loop-i-preserved : goal.loop-i-preserved
loop-i-preserved c =
    let a = c.args in
    let v = c.loop-i.invariant in (
      simp length-set v.0,
      rw (v.1, add-one) (paste-suc a.dst.now a.at a.src.now c.loop-i.i 0 (omega arith) (omega arith)),
    )

pub returns : goal.returns
unfolding laid
returns c =
    let a = c.args in
    let v = c.loop-i.invariant in
    let e : c.loop-i.i ≡ length a.src.now = omega arith in
    v.1 ∙ rw (e, take-length) (sym (laid_room a.dst.now a.at a.src.now (omega arith)))
