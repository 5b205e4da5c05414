use Rattle.std.proofs.Common.{◌≡◌, drop}
use Rattle.reasons.specs.First.{first_of}
use Rattle.reasons.proofs.first.Given as goal

-- none of the reasons so far applies
abbrev pub invariant-loop-applies : goal.invariant-loop-applies
invariant-loop-applies g l = first_of (drop l.applies-index l.reasons) ≡ first_of l.fn.reasons
