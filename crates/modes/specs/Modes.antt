-- Which file a data field names, which commands carry a MAC, and the data field without it.
use Rattle.std.specs.Prelude.{ℕ, ◌-◌, Bool, not, ◌&&◌, ◌||◌, List, eqb, length, take, drop}
use Rattle.tables.specs.Choice.{pick}
use Rattle.roles.specs.declared.Role.{Role}
use Rattle.roles.specs.declared.Role.TheVariants.{NoFile}
use Rattle.access.specs.declared.Access.{Access}
use Rattle.access.specs.Rights.{is_free_only}
use Rattle.channel.specs.declared.Stage.{Stage}
use Rattle.channel.specs.Channel.{acting_of, is_real}
use Rattle.columns.specs.Table.{get_file_settings, on_file, ends}
use Rattle.frames.specs.Frame.{file_of}
use Rattle.settings.specs.declared.Settings.{Settings}
use Rattle.settings.specs.Settings.{role_of, mac_file, access_to}

-- the role of the file that the data field x names; an empty one names none
unfoldable pub role_in : Settings → List ℕ → Role
role_in s x = pick (eqb (length x) 0) NoFile (role_of s (file_of x))

-- what access answers to the INS i and that file
abbrev pub access_for : Settings → Stage → ℕ → List ℕ → Access
access_for s g i x = access_to s (acting_of g) i (role_in s x)

-- under a real session commit, abort and GetFileSettings are in MAC mode, and any other base command whose data field names
-- a file of that mode, as m says, unless it is granted by a free condition alone
unfoldable pub maced_under : Access → Bool → Stage → ℕ → Bool
maced_under a m g i = is_real g && (ends i || eqb i get_file_settings || (on_file i && m && not (is_free_only a)))

abbrev pub maced : Settings → Stage → ℕ → List ℕ → Bool
maced s g i x = maced_under (access_for s g i x) (mac_file s (role_in s x)) g i

-- the length of a MAC
abbrev pub mac_size : ℕ
mac_size = 8

-- the data field without its MAC, where it has one
unfoldable pub plain_of : Bool → List ℕ → List ℕ
plain_of m x = pick m (take (length x - mac_size) x) x

-- and its MAC: the last eight bytes
unfoldable pub mac_of : List ℕ → List ℕ
mac_of x = drop (length x - mac_size) x
