use Rattle.field.proofs.Inverses.{through}
use Rattle.fips197.specs.Sbox.{unaffine, inv_sbox}
use Rattle.sbox.proofs.backward.Goals as goal

-- one test of all 256 entries
pub returns : goal.returns
unfolding inv_sbox
returns c = through (λ a. a) unaffine _ tt tt
