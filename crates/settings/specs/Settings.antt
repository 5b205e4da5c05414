-- What personalisation fixes, which file a number names, and what is granted.
use Rattle.std.specs.Prelude.{ℕ, Bool, false, not, ◌&&◌, List, [], ◌∷◌, ◌++◌, map, eqb, ltb, Option}
use Rattle.tables.specs.Choice.{pick, any}
use Rattle.roles.specs.declared.Role.{Role}
use Rattle.roles.specs.declared.Role.TheVariants.{FirstLong, SecondLong, ShortData, ValueFile, LogFile, NoFile}
use Rattle.roles.specs.Roles.{default_number}
use Rattle.access.specs.declared.Access.{Access}
use Rattle.access.specs.Rights.{access_of, rights_sound}
use Rattle.columns.specs.Table.{by_read, by_write, get_value}
use Rattle.limits.specs.declared.Limits.{Limits}
use Rattle.settings.specs.declared.FileSettings.{FileSettings}
use Rattle.settings.specs.declared.Named.{Named}
use Rattle.settings.specs.declared.Settings.{Settings}

-- a file with these rights whose number and mode were not chosen
abbrev pub unchosen : Role → ℕ → FileSettings
unchosen r rights = record { number = default_number r; rights = rights; maced = false }

-- the same rights for every file, default numbers, plain modes, and GetValue not free
unfoldable pub alike : ℕ → Limits → Bool → Settings
alike rights limits limited =
    record {
      first = unchosen FirstLong rights;
      second = unchosen SecondLong rights;
      short = unchosen ShortData rights;
      value = unchosen ValueFile rights;
      log = unchosen LogFile rights;
      limits = limits;
      limited = limited;
      free = false;
    }

-- ---- which file a number names: the number is looked up in the card

unfoldable pub role_of : Settings → ℕ → Role
role_of s n =
    pick (eqb n s.first.number) FirstLong
    (pick (eqb n s.second.number) SecondLong
    (pick (eqb n s.short.number) ShortData
    (pick (eqb n s.value.number) ValueFile
    (pick (eqb n s.log.number) LogFile
    NoFile))))

-- ---- what belongs to the file of a role

-- what stands for the file that no number names: nobody's, and plain
abbrev pub absent : FileSettings
absent = unchosen NoFile 0xFFFF

abbrev pub file_at : Settings → Role → FileSettings
file_at s FirstLong = s.first
file_at s SecondLong = s.second
file_at s ShortData = s.short
file_at s ValueFile = s.value
file_at s LogFile = s.log
file_at s NoFile = absent

abbrev pub rights_of : Settings → Role → ℕ
rights_of s r = (file_at s r).rights

abbrev pub mac_file : Settings → Role → Bool
mac_file s r = (file_at s r).maced

-- the role with what belongs to it
abbrev pub named_by : Settings → Role → Named
named_by s r = record { role = r; file = file_at s r }

abbrev pub nothing : Named
nothing = record { role = NoFile; file = absent }

-- may the command i be used on a file with these rights, and through which door; free GetValue is a free condition for that command
abbrev pub access_by : Settings → ℕ → Option ℕ → ℕ → Access
access_by s rights k i = access_of rights k (by_read i) (by_write i) (eqb i get_value && s.free)

-- on the file of role r
unfoldable pub access_to : Settings → Option ℕ → ℕ → Role → Access
access_to s k i r = access_by s (rights_of s r) k i

-- ---- what an order must not have

-- a rights nibble is 5 to Dh
unfoldable pub rights_broken : Settings → Bool
rights_broken s =
    any
    (not (rights_sound s.first.rights)
    ∷ not (rights_sound s.second.rights)
    ∷ not (rights_sound s.short.rights)
    ∷ not (rights_sound s.value.rights)
    ∷ not (rights_sound s.log.rights)
    ∷ [])

abbrev pub numbers_of : Settings → List ℕ
numbers_of s = s.first.number ∷ s.second.number ∷ s.short.number ∷ s.value.number ∷ s.log.number ∷ []

abbrev pub largest_number : ℕ
largest_number = 0x1F

-- a number is above 1Fh
unfoldable pub number_above : Settings → Bool
number_above s = any (map (ltb largest_number) (numbers_of s))

-- for each number and each behind it, whether they are the same
abbrev pub pairs_same : List ℕ → List Bool
pairs_same [] = []
pairs_same (n ∷ ns) = map (eqb n) ns ++ pairs_same ns

-- two numbers are the same
unfoldable pub number_twice : Settings → Bool
number_twice s = any (pairs_same (numbers_of s))
