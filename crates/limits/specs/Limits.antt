-- The limits of the value file, in whole numbers.
use Rattle.std.specs.Prelude.{Bool, ◌&&◌, ℤ}
use Rattle.std.specs.Int.Signed.{le_z, lt_z}
use Rattle.limits.specs.declared.Limits.{Limits}

-- the lower limit is above the upper
unfoldable pub crossed : Limits → Bool
crossed l = lt_z l.upper l.lower

-- a value lies within the limits
unfoldable pub within : Limits → ℤ → Bool
within l v = le_z l.lower v && le_z v l.upper
