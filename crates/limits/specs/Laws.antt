-- A value within limits of 32 bits is one of 32 bits.
use Rattle.std.proofs.Common.{arith, SFits}
use Rattle.std.specs.Prelude.{◌≡◌, true, ℤ}
use Rattle.std.specs.Int.Signed.{le_z}
use Rattle.std.specs.Int.{w32}
use Rattle.tables.specs.Choice.{and_yes}
use Rattle.whole.specs.Parts.{range32, in32, test_yes}
use Rattle.limits.specs.declared.Limits.{Limits}
use Rattle.limits.specs.Limits.{within}

pub within_fits : (l : Limits) (v : ℤ) → SFits w32 l.lower → SFits w32 l.upper → within l v ≡ true → SFits w32 v
unfolding within
within_fits l v low high e =
    let b = and_yes (le_z l.lower v) (le_z v l.upper) e in
    let above_lower = test_yes l.lower v b.0 in
    let below-upper = test_yes v l.upper b.1 in
    in32 v (omega (arith, below-upper, range32 high)) (omega (arith, above_lower, range32 low))
