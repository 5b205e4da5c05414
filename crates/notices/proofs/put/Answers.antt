use Rattle.wire.proofs.Laws.{shows_fits, shows_there}
use native.Mathlib.Omega.{arith}
use Rattle.notices.proofs.put.Goals as goal

pub slice_bounds-put-end : goal.slice_bounds-put-end
slice_bounds-put-end c = let p = c.put_text-len in omega (arith, shows_fits _ _ _ _ p.ensures p.auto.text, p.auto.text)

pub returns : goal.returns
returns c = rw (shows_there _ _ _ _ c.put_text-len.ensures) at c.put.ensures
