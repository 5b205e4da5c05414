-- A message byte by byte: each is added to the chain's block at its place, and a full block is encrypted before the next.
use Rattle.std.specs.Prelude.{ℕ, ◌+◌, List, [], ◌∷◌, ltb, get_or, set}
use Rattle.tables.specs.Choice.{pick}
use Rattle.field.specs.Field.{◌⊕◌}
use Rattle.field.specs.Bytes.{◌⊞◌}
use Rattle.fips197.specs.Cipher.{cipher}
use Rattle.cmac.specs.Cmac.{first_subkey, second_subkey}
use Rattle.cmac.specs.declared.Held.{Held}

-- a byte added to a block at a place
abbrev pub put : List ℕ → ℕ → ℕ → List ℕ
put b n a = set b n (get_or b n 0 ⊕ a)

abbrev pub holding : List ℕ → ℕ → Held
holding b n = record { block = b; held = n }

abbrev pub step : List (List ℕ) → Held → ℕ → Held
step w s a = pick (ltb s.held 16) (holding (put s.block s.held a) (s.held + 1)) (holding (put (cipher w s.block) 0 a) 1)

abbrev pub fed : List (List ℕ) → Held → List ℕ → Held
fed w s [] = s
fed w s (a ∷ m) = fed w (step w s a) m

unfoldable pub closed : List (List ℕ) → Held → List ℕ
closed w s =
    pick (ltb s.held 16) (cipher w (put s.block s.held 0x80 ⊞ second_subkey w)) (cipher w (s.block ⊞ first_subkey w))
