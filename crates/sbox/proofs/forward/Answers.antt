use Rattle.field.proofs.Inverses.{through}
use Rattle.fips197.specs.Sbox.{affine, sbox}
use Rattle.sbox.proofs.forward.Goals as goal

-- one test of all 256 entries
pub returns : goal.returns
unfolding sbox
returns c = through affine (λ a. a) _ tt tt
