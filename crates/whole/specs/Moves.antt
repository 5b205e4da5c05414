-- A figure of 32 bits, moved by an amount of 32 bits in a sum of 64 bits: what the machine reads back at each step is the whole number, since it fits.
--
use Rattle.std.specs.Prelude.{◌≡◌, ℕ, ◌+◌, ◌<◌, ℤ, pos, neg_ℤ, ◌+ℤ◌}
use Rattle.std.proofs.Common.{arith, Fits, SFits, to_z, of_z, to_z-of_z}
use Rattle.std.specs.Int.{w32, w64}
use Rattle.std.proofs.Math.Facts.{to_z_pos, sfits_widen}
use Rattle.whole.specs.Parts.{above, below, neg_above, neg_below, sum, range32, in64}

-- what the machine reads of a figure of 32 bits, at 32 and at 64 bits
abbrev pub narrow : ℤ → ℤ
narrow p = to_z w32 (of_z w32 p)

abbrev pub wide : ℤ → ℤ
wide p = to_z w64 (of_z w64 (narrow p))

pub widened : {p : ℤ} → SFits w32 p → SFits w64 (narrow p)
widened f = rw (to_z-of_z f) (sfits_widen tt f)

pub read_wide : {p : ℤ} → SFits w32 p → wide p ≡ p
read_wide f = rw (to_z-of_z f) (to_z-of_z {w = w64} (sfits_widen {w = w32} {w' = w64} (tt {0}) f))

-- the sum fits 64 bits, and is p moved by z, where the machine reads z as m
pub record Moved (p z m : ℤ) : Type 0 where
  pub figure : SFits w32 p
  pub from : SFits w64 (narrow p)
  pub fits : SFits w64 (wide p +ℤ m)
  pub to : to_z w64 (of_z w64 (wide p +ℤ m)) ≡ p +ℤ z

moved : (p z m : ℤ) → SFits w32 p → above z + below z < 4294967296 → m ≡ z → Moved p z m
moved p z m f h e =
    let g : SFits w64 (p +ℤ z) = in64 _ (omega (arith, sum p z, range32 f)) (omega (arith, sum p z, range32 f)) in
    record { figure = f; from = widened f; fits = rw (read_wide f, e) g; to = rw (read_wide f, e) (to_z-of_z g) }

-- the amount n up, and down
abbrev pub Rise : (ℤ → ℤ → ℤ → Type 0) → ℤ → ℕ → Type 0
Rise Kind p n = Kind p (pos n) (to_z w64 n)

abbrev pub Fall : (ℤ → ℤ → ℤ → Type 0) → ℤ → ℕ → Type 0
Fall Kind p n = Kind p (neg_ℤ (pos n)) (neg_ℤ (to_z w64 n))

module _ {p : ℤ} {n : ℕ} (f : SFits w32 p) (h : Fits w32 n) where
  read : to_z w64 n ≡ pos n
  read = to_z_pos w64 (omega arith)

  pub risen : Rise Moved p n
  risen = moved p (pos n) (to_z w64 n) f (omega arith) read

  pub fallen : Fall Moved p n
  fallen = moved p (neg_ℤ (pos n)) (neg_ℤ (to_z w64 n)) f (omega (arith, neg_above (pos n), neg_below (pos n))) (rw read)
