-- The five files of a card by what they are for: their kinds, their sizes, and the numbers that they have where an order gives none.
use Rattle.std.specs.Prelude.{ℕ, Bool, true, false}
use Rattle.roles.specs.declared.Role.{Role}
use Rattle.roles.specs.declared.Role.TheVariants.{FirstLong, SecondLong, ShortData, ValueFile, LogFile, NoFile}

-- the place of each in this order
abbrev pub place_of : Role → ℕ
place_of FirstLong = 0
place_of SecondLong = 1
place_of ShortData = 2
place_of ValueFile = 3
place_of LogFile = 4
place_of NoFile = 5

-- ---- kinds

abbrev pub is_data : Role → Bool
is_data FirstLong = true
is_data SecondLong = true
is_data ShortData = true
is_data ValueFile = false
is_data LogFile = false
is_data NoFile = false

abbrev pub is_value : Role → Bool
is_value FirstLong = false
is_value SecondLong = false
is_value ShortData = false
is_value ValueFile = true
is_value LogFile = false
is_value NoFile = false

abbrev pub is_log : Role → Bool
is_log FirstLong = false
is_log SecondLong = false
is_log ShortData = false
is_log ValueFile = false
is_log LogFile = true
is_log NoFile = false

-- any of the five
abbrev pub is_file : Role → Bool
is_file FirstLong = true
is_file SecondLong = true
is_file ShortData = true
is_file ValueFile = true
is_file LogFile = true
is_file NoFile = false

-- ---- sizes

abbrev pub long_size : ℕ
long_size = 256

abbrev pub short_size : ℕ
short_size = 32

-- the room of a data file; 0 for all else
abbrev pub size_of : Role → ℕ
size_of FirstLong = long_size
size_of SecondLong = long_size
size_of ShortData = short_size
size_of ValueFile = 0
size_of LogFile = 0
size_of NoFile = 0

-- ---- numbers

-- the number of the file where an order gives none; FFh is no file's
abbrev pub default_number : Role → ℕ
default_number FirstLong = 0x00
default_number SecondLong = 0x04
default_number ShortData = 0x1F
default_number ValueFile = 0x03
default_number LogFile = 0x01
default_number NoFile = 0xFF
