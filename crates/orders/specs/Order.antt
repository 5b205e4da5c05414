-- A personalisation order in bytes. The files come in the order of Role: their rights, then lower limit, upper limit, starting
-- value, switches, keys 0 to 4, modes, and the files' numbers. Bytes past the end count as 0: an order that ends behind the
-- switches has zero keys and plain modes. One that ends before the numbers has the default ones (Laws).
use Rattle.std.specs.Prelude.{ℕ, ◌+◌, ◌*◌, ◌%◌, ◌/◌, List, [], ◌∷◌, eqb, leb, ℤ, length, get_or, drop}
use Rattle.std.specs.Int.{w32}
use Rattle.std.proofs.Common.{to_z}
use Rattle.tables.specs.Choice.{pick}
use Rattle.wire.specs.Bytes.{le4}
use Rattle.wire.specs.Listed.{filled}
use Rattle.roles.specs.declared.Role.{Role}
use Rattle.roles.specs.declared.Role.TheVariants.{FirstLong, SecondLong, ShortData, ValueFile, LogFile}
use Rattle.roles.specs.Roles.{default_number}
use Rattle.keys.specs.declared.Keys.{Keys}
use Rattle.limits.specs.declared.Limits.{Limits}
use Rattle.settings.specs.declared.FileSettings.{FileSettings}
use Rattle.settings.specs.declared.Settings.{Settings}
use Rattle.orders.specs.declared.Order.{Order}

-- two bytes from place at on, least significant first
unfoldable pub le2 : List ℕ → ℕ → ℕ
le2 b at = get_or b at 0 + 256 * get_or b (at + 1) 0

unfoldable pub signed : List ℕ → ℕ → ℤ
signed b at = to_z w32 (le4 b at)

unfoldable pub limits_in : List ℕ → Limits
limits_in b = record { lower = signed b 10; upper = signed b 14 }

-- sixteen bytes from place at on; what lies past the end counts as 0
unfoldable pub sixteen : List ℕ → ℕ → List ℕ
sixteen b at = filled 16 (drop at b)

unfoldable pub keys_in : List ℕ → Keys
keys_in b = record { all = sixteen b 23 ∷ sixteen b 39 ∷ sixteen b 55 ∷ sixteen b 71 ∷ sixteen b 87 ∷ [] }

-- the place of the numbers
abbrev pub numbers_at : ℕ
numbers_at = 104

-- the number of file i, which has the role r; the default one where the order ends before the numbers
unfoldable pub number_in : List ℕ → ℕ → Role → ℕ
number_in b i r = pick (leb (length b) numbers_at) (default_number r) (get_or b (numbers_at + i) 0)

-- file i; its mode is bit 0 of modes, set for MAC mode
unfoldable pub file_in : List ℕ → ℕ → Role → ℕ → FileSettings
file_in b i r modes = record { number = number_in b i r; rights = le2 b (2 * i); maced = eqb (modes % 2) 1 }

-- byte 22 has the switches in bits 0 and 1, byte 103 the modes in bits 0 to 4; other bits are not looked at
unfoldable pub settings_in : List ℕ → Settings
settings_in b =
    record {
      first = file_in b 0 FirstLong (get_or b 103 0);
      second = file_in b 1 SecondLong (get_or b 103 0 / 2);
      short = file_in b 2 ShortData (get_or b 103 0 / 4);
      value = file_in b 3 ValueFile (get_or b 103 0 / 8);
      log = file_in b 4 LogFile (get_or b 103 0 / 16);
      limits = limits_in b;
      limited = eqb (get_or b 22 0 % 2) 1;
      free = eqb (get_or b 22 0 / 2 % 2) 1;
    }

unfoldable pub order_in : List ℕ → Order
order_in b = record { settings = settings_in b; value = signed b 18; keys = keys_in b }
