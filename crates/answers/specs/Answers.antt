-- The characters of an answer: a bench refusal's number, a reply.
use Rattle.std.specs.Prelude.{ℕ, ◌+◌, ◌*◌, ◌%◌, List, [], ◌∷◌, ◌++◌, Option, is_none}
use Rattle.tables.specs.Choice.{pick}
use Rattle.text.specs.Hex.{in_digits}
use Rattle.refusals.specs.declared.Refusal.{Refusal}
use Rattle.refusals.specs.Numbers.{number_of}

-- `!` and a number
unfoldable pub numbered : ℕ → List ℕ
numbered n = 0x21 ∷ (0x30 + n % 10) ∷ []

-- a bench refusal's number, and nothing without one
unfoldable pub refusal_text : Option Refusal → List ℕ
refusal_text refusal = pick (is_none refusal) [] (numbered (number_of refusal))

-- a reply in capital digits, or the bench refusal
unfoldable pub reply_text : Option Refusal → List ℕ → List ℕ
reply_text refusal bytes = pick (is_none refusal) (in_digits bytes) (numbered (number_of refusal))

-- with the LF that ends a line
unfoldable pub reply_line : Option Refusal → List ℕ → List ℕ
reply_line refusal bytes = reply_text refusal bytes ++ 0x0A ∷ []

-- the number of characters of a reply of so many bytes
unfoldable pub reply_size : Option Refusal → ℕ → ℕ
reply_size refusal len = pick (is_none refusal) (2 * len) 2
