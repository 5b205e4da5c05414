use Rattle.std.proofs.Common.{refl}
use Rattle.fips197.specs.Steps.{unmixed}
use Rattle.aes.proofs.steps.unmix.Goals as goal

pub returns : goal.returns
unfolding unmixed
returns c = simp (c.doubled-p.ensures, c.doubled-q.ensures, c.doubled-u.ensures, c.doubled-v.ensures) refl
