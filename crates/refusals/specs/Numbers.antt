-- The bench refusals' numbers.
use Rattle.std.specs.Prelude.{ℕ, Option, Some, None}
use Rattle.refusals.specs.declared.Refusal.{Refusal}
use Rattle.refusals.specs.declared.Refusal.TheVariants.{WrongRights, CrossedLimits, ValueOutside, UnknownKey, ShortBuffer, BrokenRule, NumberAbove, NumberTwice}

abbrev pub number : Refusal → ℕ
number WrongRights = 1
number CrossedLimits = 2
number ValueOutside = 3
number UnknownKey = 4
number ShortBuffer = 5
number BrokenRule = 6
number NumberAbove = 7
number NumberTwice = 8

-- 0 where nothing was refused
abbrev pub number_of : Option Refusal → ℕ
number_of None = 0
number_of (Some r) = number r
