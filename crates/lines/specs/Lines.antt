-- A text read line by line: what a line does to a state of any kind S, and the characters that it writes, is `said`.
use Rattle.std.specs.Prelude.{ℕ, suc, ◌+◌, ◌-◌, List, [], ◌∷◌, ◌++◌, ◌≡◌, eqb, ltb, length}
use Rattle.tables.specs.Choice.{pick}
use Rattle.wire.specs.Bytes.{laid}

-- the characters before the first LF, or all of them
unfoldable pub line_length : List ℕ → ℕ
line_length [] = 0
line_length (c ∷ cs) = pick (eqb c 0x0A) 0 (suc (line_length cs))

-- the whole lines of a text, each ended by LF; held is what stands of the line so far
unfoldable pub lines_after : List ℕ → List ℕ → List (List ℕ)
lines_after held [] = []
lines_after held (c ∷ cs) = pick (eqb c 0x0A) (held ∷ lines_after [] cs) (lines_after (held ++ c ∷ []) cs)

-- the state after a line, and what it writes
pub record Said (S : Type 0) : Type 0 where
  pub next : S
  pub out : List ℕ

-- the state after some lines, how many characters they were, and what they wrote
pub record Gone (S : Type 0) : Type 0 where
  pub next : S
  pub read : ℕ
  pub out : List ℕ

unfoldable pub stopped : {S : Type 0} → S → Gone S
stopped k = record { next = k; read = 0; out = [] }

-- a line of n characters, and then the rest
unfoldable pub ahead : {S : Type 0} → ℕ → List ℕ → Gone S → Gone S
ahead n x w = record { next = w.next; read = n + 1 + w.read; out = x ++ w.out }

-- what each line writes is ended by LF; it stops before the first line for which there is no room
unfoldable pub went : {S : Type 0} → (S → List ℕ → Said S) → S → List (List ℕ) → ℕ → Gone S
went said k [] room = stopped k
went said k (l ∷ ls) room =
    pick (ltb room (length (said k l).out + 1)) (stopped k)
    (ahead (length l) ((said k l).out ++ 0x0A ∷ []) (went said (said k l).next ls (room - (length (said k l).out + 1))))

-- what was written lies at the front of a buffer, with the state, how far it read and how much it wrote
abbrev pub Goes : {S : Type 0} → Gone S → List ℕ → List ℕ → S → ℕ → ℕ → Type 0
Goes w before after k read written = (k ≡ w.next) × (read ≡ w.read) × (written ≡ length w.out) × (after ≡ laid before 0 w.out)
