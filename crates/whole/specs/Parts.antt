-- A whole number z as two naturals: `above z` is how far it lies above 0, and `below z` how far below 0 (one of them is 0), so z is above z - below z.
-- Orders, sums, differences and ranges of whole numbers are linear facts of these naturals, which `omega` reads:
--     le_z_yes, le_z_no         the test le_z a b, from above a + below b and above b + below a
--     test_yes, test_no       the order of these two, from the test
--     sum, difference         the parts of a +ℤ b and a -ℤ b
--     neg_above, neg_below    the parts of neg_ℤ b
--     range32, in32, in64     what SFits says, and SFits from it
use Rattle.std.specs.Prelude.{◌≡◌, refl, Bool, true, false, not, cond, ℕ, zero, suc, ◌+◌, ◌-◌, ◌≤◌, ◌<◌, T, ltb, ℤ, pos, negsuc, neg_ℤ, ◌+ℤ◌, ◌-ℤ◌}
use Rattle.std.proofs.Common.{sym, subst, arith, ltb→lt, nltb→le, le-leb, leb-true, leb-false, SFits}
use Rattle.std.proofs.Math.IntN.{sub_ℕ}
use Rattle.std.specs.Int.Signed.{le_z}
use Rattle.std.proofs.lemmas.Bool.{lt-leb}
use Rattle.std.specs.Int.{w32, w64}

abbrev pub above : ℤ → ℕ
above (pos n) = n
above (negsuc n) = 0

abbrev pub below : ℤ → ℕ
below (pos n) = 0
below (negsuc n) = suc n

-- ---- the test of order

pub le_z_yes : (a b : ℤ) → above a + below b ≤ above b + below a → le_z a b ≡ true
le_z_yes (pos a) (pos b) h = le-leb a b (omega arith)
le_z_yes (pos a) (negsuc b) h = absurd (omega arith)
le_z_yes (negsuc a) (pos b) h = refl
le_z_yes (negsuc a) (negsuc b) h = le-leb b a (omega arith)

pub le_z_no : (a b : ℤ) → above b + below a < above a + below b → le_z a b ≡ false
le_z_no (pos a) (pos b) h = lt-leb a b (omega arith)
le_z_no (pos a) (negsuc b) h = refl
le_z_no (negsuc a) (pos b) h = absurd (omega arith)
le_z_no (negsuc a) (negsuc b) h = lt-leb b a (omega arith)

pub test_yes : (a b : ℤ) → le_z a b ≡ true → above a + below b ≤ above b + below a
test_yes (pos a) (pos b) e = omega (arith, leb-true a b e)
test_yes (pos a) (negsuc b) e = absurd (subst T (sym e) tt)
test_yes (negsuc a) (pos b) e = omega arith
test_yes (negsuc a) (negsuc b) e = omega (arith, leb-true b a e)

pub test_no : (a b : ℤ) → le_z a b ≡ false → above b + below a < above a + below b
test_no (pos a) (pos b) e = omega (arith, leb-false a b e)
test_no (pos a) (negsuc b) e = omega arith
test_no (negsuc a) (pos b) e = absurd (subst T e tt)
test_no (negsuc a) (negsuc b) e = omega (arith, leb-false b a e)

-- ---- sums

sub_parts : (a b : ℕ) → above (sub_ℕ a b) + b ≡ below (sub_ℕ a b) + a
sub_parts a b = by (ltb a b) (ltb→lt a b) (nltb→le a b)
  where
    by : (t : Bool) → (T t → a < b) → (T (not t) → b ≤ a) → above (cond t (negsuc (b - suc a)) (pos (a - b))) + b ≡ below (cond t (negsuc (b - suc a)) (pos (a - b))) + a
    by true y n = omega (arith, y tt)
    by false y n = omega (arith, n tt)

pub sum : (a b : ℤ) → above (a +ℤ b) + (below a + below b) ≡ below (a +ℤ b) + (above a + above b)
sum (pos a) (pos b) = omega arith
sum (pos a) (negsuc b) = omega (arith, sub_parts a (suc b))
sum (negsuc a) (pos b) = omega (arith, sub_parts b (suc a))
sum (negsuc a) (negsuc b) = omega arith

pub neg_above : (b : ℤ) → above (neg_ℤ b) ≡ below b
neg_above (pos zero) = refl
neg_above (pos (suc n)) = refl
neg_above (negsuc n) = refl

pub neg_below : (b : ℤ) → below (neg_ℤ b) ≡ above b
neg_below (pos zero) = refl
neg_below (pos (suc n)) = refl
neg_below (negsuc n) = refl

pub difference : (a b : ℤ) → above (a -ℤ b) + (below a + above b) ≡ below (a -ℤ b) + (above a + below b)
difference a b = omega (arith, sum a (neg_ℤ b), neg_above b, neg_below b)

-- ---- ranges

pub range32 : {z : ℤ} → SFits w32 z → (above z < 2147483648 + below z) × (below z ≤ 2147483648 + above z)
range32 {z = pos n} f = (omega (arith, f.sfits), omega arith)
range32 {z = negsuc n} f = (omega arith, omega (arith, f.sfits))

pub in32 : (z : ℤ) → above z < 2147483648 + below z → below z ≤ 2147483648 + above z → SFits w32 z
in32 (pos n) h k = record { sfits = omega arith }
in32 (negsuc n) h k = record { sfits = omega arith }

pub in64 : (z : ℤ) → above z < 9223372036854775808 + below z → below z ≤ 9223372036854775808 + above z → SFits w64 z
in64 (pos n) h k = record { sfits = omega arith }
in64 (negsuc n) h k = record { sfits = omega arith }
