-- Each byte but 0 has an inverse.
use Rattle.std.specs.Prelude.{◌≡◌, refl, ℕ, zero, suc, ◌<◌, get_or}
use Rattle.std.proofs.Common.{ap, ◌∙◌, le_of_suc-le-suc}
use Rattle.field.specs.Field.{◌•◌, xtime, inverse}
use Rattle.lookup.specs.Every.{agree}
use Rattle.field.specs.Inverses.{inverses}
use Rattle.field.proofs.Inverses.{inverse_at}

from_one : (x : ℕ) → x < 255 → suc x • get_or inverses (suc x) 0 ≡ 1
unfolding xtime
from_one = agree 255 (λ x. suc x • get_or inverses (suc x) 0) (λ x. 1) tt

pub inverse_is : (x : ℕ) → x < 256 → (x ≡ 0 → ⊥) → x • inverse x ≡ 1
inverse_is zero h n = absurd (n refl)
inverse_is (suc x) h n = ap (λ (y : ℕ). suc x • y) (inverse_at (suc x) h) ∙ from_one x (le_of_suc-le-suc h)
