-- No data file is longer than the long ones; what is no file has one name; the data files have three; and a role is told by its place.
use Rattle.std.specs.Prelude.{ℕ, ◌≤◌, true, not, ◌≡◌, refl, eqb}
use Rattle.std.proofs.lemmas.Bool.{false≢true}
use Rattle.std.proofs.Common.{sym, ap, ◌∙◌, arith}
use Rattle.tables.specs.Choice.{pick}
use Rattle.roles.specs.declared.Role.{Role}
use Rattle.roles.specs.declared.Role.TheVariants.{FirstLong, SecondLong, ShortData, ValueFile, LogFile, NoFile}
use Rattle.roles.specs.Roles.{place_of, is_file, is_data, long_size, size_of}

pub size_most : (r : Role) → size_of r ≤ long_size
size_most FirstLong = omega arith
size_most SecondLong = omega arith
size_most ShortData = omega arith
size_most ValueFile = omega arith
size_most LogFile = omega arith
size_most NoFile = omega arith

pub no_file : (r : Role) → not (is_file r) ≡ true → r ≡ NoFile
no_file FirstLong e = absurd (false≢true e)
no_file SecondLong e = absurd (false≢true e)
no_file ShortData e = absurd (false≢true e)
no_file ValueFile e = absurd (false≢true e)
no_file LogFile e = absurd (false≢true e)
no_file NoFile e = refl

-- no two have the same place
role_at : ℕ → Role
role_at n = pick (eqb n 0) FirstLong (pick (eqb n 1) SecondLong (pick (eqb n 2) ShortData (pick (eqb n 3) ValueFile (pick (eqb n 4) LogFile NoFile))))

at_place : (r : Role) → role_at (place_of r) ≡ r
unfolding role_at pick
at_place FirstLong = refl
at_place SecondLong = refl
at_place ShortData = refl
at_place ValueFile = refl
at_place LogFile = refl
at_place NoFile = refl

pub same_place : (r q : Role) → place_of r ≡ place_of q → r ≡ q
same_place r q e = sym (at_place r) ∙ ap role_at e ∙ at_place q

-- what holds of the three data files' roles
pub by_file : (P : Role → Type 0) → P FirstLong → P SecondLong → P ShortData → (r : Role) → is_data r ≡ true → P r
by_file P p q s FirstLong e = p
by_file P p q s SecondLong e = q
by_file P p q s ShortData e = s
by_file P p q s ValueFile e = absurd (false≢true e)
by_file P p q s LogFile e = absurd (false≢true e)
by_file P p q s NoFile e = absurd (false≢true e)
