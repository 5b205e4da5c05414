-- Laws of a frame at the front of a text, found by spelling the digits there.
use Prim.Native.Nat.{ℕ, ◌+◌, ◌*◌, ◌≤◌, ◌<◌}
use Rattle.std.specs.Prelude.{◌≡◌, drop}
use Rattle.std.proofs.Math.Bool.{true}
use mathlib.Core.List.{List}
use Rattle.std.proofs.Math.ListN.{length}
use Rattle.wire.specs.Bytes.{part}
use Rattle.text.specs.Hex.{spelt}
use Rattle.lines.specs.Frames.{longest_frame, is_frame, frame_in}
use Rattle.lines.specs.Laws.{Lines}

-- the line from place at on is a frame of r bytes
abbrev pub Frame : List ℕ → ℕ → ℕ → Type 0
Frame t at r = Lines t at (at + 2 * r) × (at + 2 * r < length t) × (is_frame (part t at (at + 2 * r)) ≡ true) × (spelt (part t at (at + 2 * r)) ≡ frame_in (drop at t)) × (r ≤ longest_frame)
