-- The S-box, FIPS 197 section 5.1.1: the inverse in the field, then the affine step; and its inverse, section 5.3.2.
use Rattle.std.specs.Prelude.{ℕ, ◌+◌, ◌*◌, ◌/◌, ◌%◌, ◌^◌}
use Rattle.field.specs.Field.{◌⊕◌, inverse}

-- the bit i of b, i modulo 8
abbrev pub bit : ℕ → ℕ → ℕ
bit b i = b / 2 ^ (i % 8) % 2

-- the byte of eight bits, the lowest first
abbrev pub byte : (ℕ → ℕ) → ℕ
byte b = b 0 + b 1 * 2 + b 2 * 4 + b 3 * 8 + b 4 * 16 + b 5 * 32 + b 6 * 64 + b 7 * 128

-- (5.1): b'ᵢ = bᵢ ⊕ bᵢ₊₄ ⊕ bᵢ₊₅ ⊕ bᵢ₊₆ ⊕ bᵢ₊₇ ⊕ cᵢ, where c is 63
abbrev pub affine : ℕ → ℕ
affine b = byte (λ i. bit b i ⊕ bit b (i + 4) ⊕ bit b (i + 5) ⊕ bit b (i + 6) ⊕ bit b (i + 7) ⊕ bit 0x63 i)

unfoldable pub sbox : ℕ → ℕ
sbox a = affine (inverse a)

-- the affine step undone: bᵢ = b'ᵢ₊₂ ⊕ b'ᵢ₊₅ ⊕ b'ᵢ₊₇ ⊕ dᵢ, where d is 05
abbrev pub unaffine : ℕ → ℕ
unaffine b = byte (λ i. bit b (i + 2) ⊕ bit b (i + 5) ⊕ bit b (i + 7) ⊕ bit 0x05 i)

unfoldable pub inv_sbox : ℕ → ℕ
inv_sbox a = inverse (unaffine a)
