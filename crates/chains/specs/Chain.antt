-- A chain: a WriteData that comes in several frames of file bytes.
use Rattle.std.specs.Prelude.{ℕ, ◌+◌, ◌-◌, Bool, not, ◌&&◌, ◌||◌, List, ltb, leb, eqb}
use Rattle.tables.specs.Choice.{pick}
use Rattle.roles.specs.declared.Role.{Role}
use Rattle.roles.specs.declared.Role.TheVariants.{NoFile}
use Rattle.roles.specs.Roles.{is_data, is_file, size_of}
use Rattle.frames.specs.Frame.{offset_of, length_of}
use Rattle.chains.specs.declared.Chain.{Chain}

-- no chain
unfoldable pub unchained : Chain
unchained = record { file = NoFile; place = 0; len = 0; left = 0 }

-- bytes of it are still to come
abbrev pub is_open : Chain → Bool
is_open k = not (eqb k.left 0)

-- as an opening's data field d announces it for the file that it names: offset, length
unfoldable pub announced : Role → List ℕ → Chain
announced r d = record { file = r; place = offset_of d; len = length_of d; left = length_of d }

-- ---- a frame of n file bytes

-- where its bytes go: behind those that came before
abbrev pub next_place : Chain → ℕ
next_place k = k.place + (k.len - k.left)

-- it is the last
abbrev pub completes : Chain → ℕ → Bool
completes k n = leb k.left n

-- what it leaves: nothing, or a chain with fewer bytes to come
unfoldable pub shortened : Chain → ℕ → Chain
shortened k n = pick (completes k n) unchained (record { file = k.file; place = k.place; len = k.len; left = k.left - n })

-- the most bytes of one frame
abbrev pub most_bytes : ℕ
most_bytes = 128

-- another size than 1 to 128, or past the announced length
unfoldable pub wrong_bytes : Chain → ℕ → Bool
wrong_bytes k n = eqb n 0 || ltb most_bytes n || ltb k.left n

-- ---- the standing rule

-- without a chain it names no file and every figure is 0; an open one has a data file, and its range lies inside the file; that at least one byte is
-- left is what open means
unfoldable pub chain_sound : Chain → Bool
chain_sound k =
    pick (eqb k.left 0) (not (is_file k.file) && eqb k.place 0 && eqb k.len 0)
    (is_data k.file && leb (k.place + k.len) (size_of k.file) && leb k.left k.len)
