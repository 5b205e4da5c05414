-- A command's row of the command table: the columns of Table, and what a row that was asked says of each.
use Rattle.std.specs.Prelude.{ℕ, ◌≡◌, refl}
use Rattle.columns.specs.declared.Row.{Row}
use Rattle.columns.specs.Table.{on_file, names_file, ends, by_read, by_write}

unfoldable pub row_of : ℕ → Row
row_of i = record { file = on_file i; names = names_file i; ends = ends i; read = by_read i; write = by_write i }

pub told : {r : Row} (i : ℕ) → r ≡ row_of i → (r.file ≡ on_file i) × (r.names ≡ names_file i) × (r.ends ≡ ends i) × (r.read ≡ by_read i) × (r.write ≡ by_write i)
unfolding row_of
told i e = rw e (refl, refl, refl, refl, refl)
