-- Laws of the first line of a text, of a line put where there is room, and of how far a run comes.
use Rattle.std.specs.Prelude.{ℕ, ◌+◌, ◌≤◌, ◌≡◌, ltb, length, drop}
use mathlib.Core.List.{List, [], ◌∷◌}
use Rattle.tables.specs.Choice.{pick}
use Rattle.wire.specs.Bytes.{part}
use Rattle.lines.specs.Lines.{lines_after, Gone}

-- the lines of a text from place at on: none where no LF follows, else the one up to place e, and those behind it
abbrev pub Lines : List ℕ → ℕ → ℕ → Type 0
Lines t at e = lines_after [] (drop at t) ≡ pick (ltb e (length t)) (part t at e ∷ lines_after [] (drop (e + 1) t)) []

-- place e is the end of the line that starts at place at
abbrev pub Ends : List ℕ → ℕ → ℕ → Type 0
Ends t at e = Lines t at e × (at ≤ e) × (e ≤ length t)

-- no more was read than n characters, and no more was written than has room
abbrev pub Within : {S : Type 0} → ℕ → ℕ → Gone S → Type 0
Within n room w = (w.read ≤ n) × (length w.out ≤ room)
