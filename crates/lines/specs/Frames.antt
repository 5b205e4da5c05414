-- A line of digits, which is a frame, at the front of a text.
use Rattle.std.specs.Prelude.{Bool, ◌&&◌, ◌||◌, List, [], Option, Some, None, ℕ, ◌*◌, ◌%◌, ◌<◌, ◌≡◌, eqb, leb, ltb, length, take, get_or}
use Rattle.tables.specs.Choice.{pick}
use Rattle.wire.specs.Bytes.{part}
use Rattle.text.specs.Hex.{is_hex, spelt, leading}
use Rattle.lines.specs.Lines.{line_length}

-- the most bytes of a frame
abbrev pub longest_frame : ℕ
longest_frame = 512

-- the most characters of a line that is read
abbrev pub longest_line : ℕ
longest_line = 2 * longest_frame

-- digits and nothing else, two for each byte: some, and no more than a line has
unfoldable pub is_frame : List ℕ → Bool
is_frame line = ltb 0 (length line) && leb (length line) longest_line && is_hex line

-- the bytes of a text's first line; none where that is no frame, or has no LF yet
unfoldable pub frame_in : List ℕ → List ℕ
frame_in s = pick (ltb (line_length s) (length s) && is_frame (take (line_length s) s)) (spelt (take (line_length s) s)) []

-- whether a text's first line begins as one of a chain and has an odd number of characters
unfoldable pub is_chained : List ℕ → Bool
is_chained s = (eqb (get_or s 0 0) 0x43 || eqb (get_or s 0 0) 0x44) && eqb (line_length s % 2) 1

-- the bytes that a look for a frame spells, found or not: those of the leading pairs of digits, no more than a frame has
unfoldable pub tried : List ℕ → List ℕ
tried s = pick (is_chained s) [] (take longest_frame (leading s))

-- the bytes of a frame lie at the front of a buffer, and n is their number; or there is no frame
abbrev pub Found : List ℕ → List ℕ → Option ℕ → Type 0
Found frame buffer (Some n) = (0 < n) × (n ≡ length frame) × (part buffer 0 n ≡ frame)
Found frame buffer None = frame ≡ []
