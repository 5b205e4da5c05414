use mathlib.Core.Path.{refl}
use Rattle.checks.proofs.Order.{word_not_ok, frame_refused, frame_passed, handed_on, status_told, admits}
use Rattle.checks.proofs.check.Goals as goal

pub returns-in_err-frame_order-clause-checked : goal.returns-in_err-frame_order-clause-checked
returns-in_err-frame_order-clause-checked c =
    handed_on _ _ c.args.frame.now _ _ c.from_residual.ensures.1 (frame_refused _ _ _ c.asked.ensures c.in_err-frame_order.ensures (word_not_ok _))

pub returns-in_err-frame_order-clause-status : goal.returns-in_err-frame_order-clause-status
returns-in_err-frame_order-clause-status c = status_told _ _ c.args.frame.now (returns-in_err-frame_order-clause-checked c)

pub returns-in-Err-clause-checked : goal.returns-in-Err-clause-checked
returns-in-Err-clause-checked c =
    frame_passed _ _ c.args.frame.now c.asked.ensures c.in_ok-frame_order.ensures refl c.byte_at-ins.ensures c.data-x.ensures c.asked-places.ensures c.in-Err.ensures

pub returns-in-Err-clause-status : goal.returns-in-Err-clause-status
returns-in-Err-clause-status c = status_told _ _ c.args.frame.now (returns-in-Err-clause-checked c)

pub returns-in-Ok-clause-checked : goal.returns-in-Ok-clause-checked
returns-in-Ok-clause-checked c =
    frame_passed _ _ c.args.frame.now c.asked.ensures c.in_ok-frame_order.ensures refl c.byte_at-ins.ensures c.data-x.ensures c.asked-places.ensures c.in-Ok.ensures

pub returns-in-Ok-clause-status : goal.returns-in-Ok-clause-status
returns-in-Ok-clause-status c = status_told _ _ c.args.frame.now (returns-in-Ok-clause-checked c)

pub returns-in-Ok-clause-admitted : goal.returns-in-Ok-clause-admitted
returns-in-Ok-clause-admitted c = admits _ _ c.args.frame.now c.byte_at-ins.ensures c.data-x.ensures c.asked-places.ensures
