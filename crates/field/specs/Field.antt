-- The field GF(2^8) of FIPS 197, section 4: a byte stands for the polynomial of its bits, a sum is an exclusive or, and a
-- product is one of polynomials modulo x^8 + x^4 + x^3 + x + 1.
use Rattle.std.specs.Prelude.{ℕ, zero, suc, ◌*◌, ◌/◌, ◌%◌}
use Rattle.std.specs.Int.Bits.{bit_xor}

infixl 65 ◌⊕◌
-- 4.1: the sum
abbrev pub ◌⊕◌ : ℕ → ℕ → ℕ
a ⊕ b = bit_xor a b

-- a where the bit is set, else 0
abbrev pub only_if : ℕ → ℕ → ℕ
only_if zero a = 0
only_if (suc _) a = a

-- 4.2.1: x times a, a shift to the left by a bit; where a bit falls out at the top, 1b is added
unfoldable pub xtime : ℕ → ℕ
xtime a = a * 2 % 256 ⊕ only_if (a / 128) 0x1b

abbrev pub add_if : ℕ → ℕ → ℕ → ℕ
add_if zero s a = s
add_if (suc _) s a = s ⊕ a

-- s and a times the n low bits of b: a is added for a bit that is set, and x times a serves the next bit
abbrev pub times : ℕ → ℕ → ℕ → ℕ → ℕ
times zero s b a = s
times (suc n) s b a = times n (add_if (b % 2) s a) (b / 2) (xtime a)

infixl 70 ◌•◌
-- 4.2: the product
abbrev pub ◌•◌ : ℕ → ℕ → ℕ
b • a = times 8 0 b a

abbrev pub square : ℕ → ℕ
square a = a • a

-- a to the power of 2^n - 1
abbrev pub ones : ℕ → ℕ → ℕ
ones zero a = 1
ones (suc n) a = a • square (ones n a)

-- a to the power of 254: the inverse of a, and 0 for 0
unfoldable pub inverse : ℕ → ℕ
inverse a = square (ones 7 a)
