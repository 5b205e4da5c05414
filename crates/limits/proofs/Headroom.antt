-- The amount against the headroom: what the limit tests of a rise and of a fall tell.
use Rattle.std.specs.Prelude.{◌≡◌, refl, Bool, true, ◌&&◌, ℕ, leb, ℤ, pos, ◌+ℤ◌, ◌-ℤ◌}
use Rattle.std.proofs.Common.{arith, sym, ◌∙◌}
use Rattle.std.proofs.Math.Bool.{false}
use Rattle.std.specs.Int.Signed.{le_z}
use Rattle.whole.specs.Parts.{above}
use Rattle.limits.specs.declared.Limits.{Limits}
use Rattle.limits.specs.Limits.{within}

module _ (p u : ℤ) (n : ℕ) where
  -- a rise from p by n stays at or below u where the headroom to u has n
  room : (le_z p u && leb n (above (u -ℤ p))) ≡ le_z (p +ℤ pos n) u
  room = grind arith

  -- and comes to u or above where n has what p lacks to u
  reached : leb (above (u -ℤ p)) n ≡ le_z u (p +ℤ pos n)
  reached = grind arith

module _ (a b : ℤ) (n : ℕ) where
  low : le_z (a +ℤ pos n) b ≡ le_z a (b -ℤ pos n)
  low = grind arith

  high : le_z b (a +ℤ pos n) ≡ le_z (b -ℤ pos n) a
  high = grind arith

module _ (l : Limits) (p : ℤ) (n : ℕ) where
  pub rise : ((le_z p l.upper && leb n (above (l.upper -ℤ p))) && leb (above (l.lower -ℤ p)) n) ≡ within l (p +ℤ pos n)
  unfolding within
  rise = grind (arith, room, reached)

  -- a fall from p down to a limit is a rise from the limit up to p
  pub fall : ((le_z l.lower p && leb n (above (p -ℤ l.lower))) && leb (above (p -ℤ l.upper)) n) ≡ within l (p -ℤ pos n)
  unfolding within
  fall = rw (room l.lower p n, reached l.upper p n, low l.lower p n, high l.upper p n) refl

-- the second test, asked behind the first alone, where both together tell w
module _ {a x w : Bool} (y : Bool) (e : a ≡ x) (both : (x && y) ≡ w) where
  pub asked : {b : Bool} → b ≡ y → a ≡ true → b ≡ w
  asked k t = k ∙ (rw (sym e ∙ t) at both)

  pub unasked : a ≡ false → a ≡ w
  unasked t = t ∙ (rw (sym e ∙ t) at both)
