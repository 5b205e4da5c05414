-- The bytes of a block from other places, and the products that a byte of InvMixColumns is made of.
use Rattle.std.specs.Prelude.{ℕ, ◌+◌, ◌*◌, ◌%◌, List, [], ◌∷◌, get_or}
use Rattle.field.specs.Field.{◌•◌}
use Rattle.lookup.specs.Tables.{tabled}
use Rattle.fips197.specs.Steps.{at, state}

-- a function on each byte, with the byte at place i from place i times far, modulo 16
abbrev pub taken : (ℕ → ℕ) → List ℕ → ℕ → List ℕ
taken f s far = tabled 16 (λ i. f (get_or s (i * far % 16) 0))

-- each byte is the one below it in its column, and the last of a column the first
abbrev pub lifted : List ℕ → List ℕ
lifted s = state (λ r c. at s (r + 1) c)

-- a byte times x, x^2 and x^3
abbrev pub multiples : ℕ → List ℕ
multiples a = 0x02 • a ∷ 0x04 • a ∷ 0x08 • a ∷ []
