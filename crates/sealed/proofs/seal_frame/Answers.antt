use Rattle.till.specs.Laws.{in_short, in_long, in_full}
use Rattle.sealed.proofs.Laying.{sealed_shown}
use Rattle.wire.proofs.Laws.{shows_as, shows_none}
use lib.ListN.{length}
use native.Mathlib.Omega.{arith}
use mathlib.Core.Path.{sym, ap}
use Rattle.sealed.proofs.seal_frame.Goals as goal

pub returns-then-frame-lt5 : goal.returns-then-frame-lt5
returns-then-frame-lt5 c = let a = c.args in shows_as _ _ _ _ _ (sym (in_short (length a.out.now) a.key a.ti a.counter a.frame.now c.if-frame-lt5.true)) (shows_none a.out.now)

pub returns-then-frame-gt253 : goal.returns-then-frame-gt253
returns-then-frame-gt253 c = let a = c.args in shows_as _ _ _ _ _ (sym (in_long (length a.out.now) a.key a.ti a.counter a.frame.now c.if-frame-gt253.true)) (shows_none a.out.now)

pub returns-then-out-d : goal.returns-then-out-d
returns-then-out-d c = let a = c.args in shows_as _ _ _ _ _ (sym (in_full (length a.out.now) a.key a.ti a.counter a.frame.now c.if-frame-lt5.false (omega (arith, c.if-out-d.true, ap length c.data-d.ensures)))) (shows_none a.out.now)

pub returns : goal.returns
returns c = let a = c.args in sealed_shown (length a.out.now) a.key a.ti a.counter a.frame.now a.out.now c.if-frame-lt5.false c.if-frame-gt253.false c.if-out-d.false c.data-d.ensures c.byte_at.ensures c.seal-mac.ensures c.put_parts.ensures
