-- What is kept of a block whose whole lines were answered.
use Rattle.std.specs.Prelude.{ℕ, List, take}
use Rattle.wire.specs.Bytes.{part}

-- of the first end characters, those from place read on, 1,025 at most
unfoldable pub rest_of : List ℕ → ℕ → ℕ → List ℕ
rest_of buf read end = take 1025 (part buf read end)
