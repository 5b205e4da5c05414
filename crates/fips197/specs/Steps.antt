-- The State and the steps of a round, FIPS 197 sections 3.4, 5.1 and 5.3. A block is the list of its 16 bytes; the byte in
-- row r and column c is the byte r + 4c.
use Rattle.std.specs.Prelude.{ℕ, ◌+◌, ◌*◌, ◌-◌, ◌/◌, ◌%◌, List, get_or}
use Rattle.field.specs.Field.{◌⊕◌, ◌•◌}
use Rattle.lookup.specs.Tables.{tabled}
use Rattle.field.specs.Bytes.{◌⊞◌}
use Rattle.fips197.specs.Sbox.{sbox, inv_sbox}

-- the byte in a row and a column, each modulo 4
abbrev pub at : List ℕ → ℕ → ℕ → ℕ
at s r c = get_or s (r % 4 + 4 * (c % 4)) 0

-- the block of its bytes, by row and column
abbrev pub state : (ℕ → ℕ → ℕ) → List ℕ
state f = tabled 16 (λ i. f (i % 4) (i / 4))

-- a function of a byte, on each byte of a block
unfoldable pub bytewise : (ℕ → ℕ) → List ℕ → List ℕ
bytewise f s = state (λ r c. f (at s r c))

-- 5.1.1
abbrev pub sub_bytes : List ℕ → List ℕ
sub_bytes s = bytewise sbox s

-- 5.1.2: row r goes r places to the left
unfoldable pub shift_rows : List ℕ → List ℕ
shift_rows s = state (λ r c. at s r (c + r))

-- 5.1.3: a byte of a column, from the column's bytes from its row down and round
unfoldable pub mixed : ℕ → ℕ → ℕ → ℕ → ℕ
mixed a b c d = 0x02 • a ⊕ 0x03 • b ⊕ c ⊕ d

-- a function of four bytes of a column, on each byte with the three below it
abbrev pub columnwise : (ℕ → ℕ → ℕ → ℕ → ℕ) → List ℕ → List ℕ
columnwise f s = state (λ r c. f (at s r c) (at s (r + 1) c) (at s (r + 2) c) (at s (r + 3) c))

unfoldable pub mix_columns : List ℕ → List ℕ
mix_columns s = columnwise mixed s

-- 5.1.4
abbrev pub add_round_key : List ℕ → List ℕ → List ℕ
add_round_key s k = s ⊞ k

-- 5.3.1: row r goes r places to the right
unfoldable pub inv_shift_rows : List ℕ → List ℕ
inv_shift_rows s = state (λ r c. at s r (c + 4 - r))

-- 5.3.2
abbrev pub inv_sub_bytes : List ℕ → List ℕ
inv_sub_bytes s = bytewise inv_sbox s

-- 5.3.3
unfoldable pub unmixed : ℕ → ℕ → ℕ → ℕ → ℕ
unmixed a b c d = 0x0e • a ⊕ 0x0b • b ⊕ 0x0d • c ⊕ 0x09 • d

unfoldable pub inv_mix_columns : List ℕ → List ℕ
inv_mix_columns s = columnwise unmixed s
