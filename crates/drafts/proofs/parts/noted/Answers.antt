use Rattle.held.specs.Held.{noted}
use Rattle.wire.proofs.Laws.{part_over_zeros}
use native.Mathlib.Omega.{arith}
use Rattle.drafts.proofs.parts.noted.Goals as goal

pub returns : goal.returns
unfolding noted
returns c = let a = c.args in let e = part_over_zeros a.b.now 16 20 (omega (arith, c.requires)) c.lay.ensures in λ i. record { random = c.sixteen-random.ensures i; identifier = e i; held = a.draft.held; key = a.draft.key; ti = a.draft.ti; counter = a.draft.counter }
