-- The data files over all accepted writes: nothing is struck.
use Rattle.std.specs.Prelude.{ℕ, List, replicate}
use Rattle.wire.specs.Bytes.{laid}
use Rattle.roles.specs.declared.Role.{Role}
use Rattle.datafiles.specs.declared.Files.{Files}
use Rattle.datafiles.specs.Files.{bytes_of, holding}
use Rattle.demands.specs.Strike.{Line, posts, through}

-- bytes for the file of this role, from a place on
pub record Write : Type 0 where
  pub file : Role
  pub place : ℕ
  pub bytes : List ℕ

unfoldable pub stored : Files → Write → Files
stored f w = holding f w.file (laid (bytes_of f w.file) w.place w.bytes)

-- zeros, then every write in order
unfoldable pub filed : List (Line Write) → Files
filed lines = through stored (record { first = replicate 256 0; second = replicate 256 0; short = replicate 32 0 }) (posts lines)
