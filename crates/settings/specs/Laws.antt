-- Where no number is above 1Fh and none stands twice, each file's number names its role.
use Rattle.std.specs.Prelude.{ℕ, true, false, map, ◌≡◌, eqb, ltb}
use Rattle.std.proofs.Math.Path.{refl}
use Rattle.std.proofs.Common.{sym, eq-eqb, ne_eqb, ltb-false, arith}
use Rattle.std.proofs.lemmas.Bool.{eqb-false}
use Rattle.tables.specs.Choice.{pick, None, none}
use Rattle.roles.specs.declared.Role.{Role}
use Rattle.roles.specs.declared.Role.TheVariants.{FirstLong, SecondLong, ShortData, ValueFile, LogFile, NoFile}
use Rattle.settings.specs.declared.Settings.{Settings}
use Rattle.settings.specs.Settings.{role_of, file_at, numbers_of, largest_number, number_above, pairs_same, number_twice}

differs : (m n : ℕ) → eqb m n ≡ false → eqb n m ≡ false
differs m n e = ne_eqb n m (λ q. eqb-false m n e (sym q))

beyond : (n : ℕ) → ltb largest_number n ≡ false → eqb 0xFF n ≡ false
beyond n e = let h = ltb-false largest_number n e in ne_eqb 0xFF n (λ q. omega arith)

itself : (n : ℕ) → eqb n n ≡ true
itself n = eq-eqb n n refl

module _ (s : Settings) (above : number_above s ≡ false) (twice : number_twice s ≡ false) where
  abbrev first : ℕ
  first = s.first.number

  abbrev second : ℕ
  second = s.second.number

  abbrev short : ℕ
  short = s.short.number

  abbrev value : ℕ
  value = s.value.number

  abbrev log : ℕ
  log = s.log.number

  apart : None (pairs_same (numbers_of s))
  unfolding number_twice
  apart = none (pairs_same (numbers_of s)) twice

  low : None (map (ltb largest_number) (numbers_of s))
  unfolding number_above
  low = none (map (ltb largest_number) (numbers_of s)) above

  pub named_by_lem : (r : Role) → role_of s (file_at s r).number ≡ r
  unfolding role_of pick
  named_by_lem FirstLong = rw (itself first) refl
  named_by_lem SecondLong = rw (differs first second apart.0, itself second) refl
  named_by_lem ShortData = rw (differs first short apart.1.0, differs second short apart.1.1.1.1.0, itself short) refl
  named_by_lem ValueFile =
      rw (differs first value apart.1.1.0, differs second value apart.1.1.1.1.1.0, differs short value apart.1.1.1.1.1.1.1.0, itself value) refl
  named_by_lem LogFile =
      rw (differs first log apart.1.1.1.0, differs second log apart.1.1.1.1.1.1.0, differs short log apart.1.1.1.1.1.1.1.1.0, differs value log apart.1.1.1.1.1.1.1.1.1.0, itself log) refl
  -- and FFh no file
  named_by_lem NoFile = rw (beyond first low.0, beyond second low.1.0, beyond short low.1.1.0, beyond value low.1.1.1.0, beyond log low.1.1.1.1.0) refl
