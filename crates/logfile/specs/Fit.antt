-- The journals that a log has room for.
use Rattle.std.specs.Prelude.{ℕ, ◌≤◌, List, [], ◌∷◌, ◌≡◌, length}
use Rattle.logfile.specs.Journal.{Journal, entry_size, most_entries}

-- each entry has 16 bytes
abbrev pub Sixteens : List (List ℕ) → Type 0
Sixteens [] = Unit {0}
Sixteens (e ∷ es) = (length e ≡ entry_size) × Sixteens es

-- entries of 16 bytes each, at most four committed and one new
pub record Fit (j : Journal) : Type 0 where
  pub sized : Sixteens j.entries
  pub few : length j.entries ≤ most_entries
  pub fresh_sized : Sixteens j.fresh
  pub fresh_one : length j.fresh ≤ 1
