-- Access rights: four nibbles from the top, Read, Write, ReadWrite, Change. 0 to 4 is a key, Eh is free, Fh is never.
use Rattle.std.specs.Prelude.{ℕ, ◌/◌, ◌%◌, Bool, true, false, not, ◌&&◌, ◌||◌, eqb, leb, Option, None, Some}
use Rattle.tables.specs.Choice.{pick}
use Rattle.access.specs.declared.Access.{Access}
use Rattle.access.specs.declared.Access.TheVariants.{Never, NotGranted, FreeOnly, ByKey}

-- the last key's number
abbrev pub last_key : ℕ
last_key = 4

abbrev pub free : ℕ
free = 0xE

abbrev pub never : ℕ
never = 0xF

-- ---- a file's 16 bits

abbrev pub read_of : ℕ → ℕ
read_of x = x / 4096 % 16

abbrev pub write_of : ℕ → ℕ
write_of x = x / 256 % 16

abbrev pub read_write_of : ℕ → ℕ
read_write_of x = x / 16 % 16

abbrev pub change_of : ℕ → ℕ
change_of x = x % 16

-- no nibble is 5 to Dh
abbrev pub nibble_sound : ℕ → Bool
nibble_sound n = leb n last_key || leb free n

unfoldable pub rights_sound : ℕ → Bool
rights_sound x = nibble_sound (read_of x) && nibble_sound (write_of x) && nibble_sound (read_write_of x) && nibble_sound (change_of x)

-- ---- the session: none, or the number of its key

-- the key number that a session names, or none: 16, which is no nibble
abbrev pub key_of : Option ℕ → ℕ
key_of None = 16
key_of (Some k) = k

-- none, or a key 0 to 4
abbrev pub session_sound : Option ℕ → Bool
session_sound None = true
session_sound (Some k) = leb k last_key

-- ---- the decision, where Read grants if by_read, Write if by_write, and ReadWrite always

-- every condition that could grant is Fh
unfoldable pub sealed : ℕ → Bool → Bool → Bool
sealed x by_read by_write = (not by_read || eqb (read_of x) never) && (not by_write || eqb (write_of x) never) && eqb (read_write_of x) never

-- a condition that could grant is k
unfoldable pub granting : ℕ → ℕ → Bool → Bool → Bool
granting k x by_read by_write = (by_read && eqb (read_of x) k) || (by_write && eqb (write_of x) k) || eqb (read_write_of x) k

-- never; by the session's key; by a free condition only, where freely is one more; or not at all
unfoldable pub access_of : ℕ → Option ℕ → Bool → Bool → Bool → Access
access_of x s by_read by_write freely =
    pick (sealed x by_read by_write) Never
    (pick (granting (key_of s) x by_read by_write) ByKey
    (pick (freely || granting free x by_read by_write) FreeOnly
    NotGranted))

-- ---- what each answer says of places 8 and 9

-- the status that it leads to: every condition Fh, none that grants, or a grant
abbrev pub access_status : Access → ℕ
access_status Never = 0x919D
access_status NotGranted = 0x91AE
access_status FreeOnly = 0x9100
access_status ByKey = 0x9100

abbrev pub is_never : Access → Bool
is_never a = eqb (access_status a) 0x919D

abbrev pub is_not_granted : Access → Bool
is_not_granted a = eqb (access_status a) 0x91AE

-- granted only by a free condition
abbrev pub is_free_only : Access → Bool
is_free_only Never = false
is_free_only NotGranted = false
is_free_only FreeOnly = true
is_free_only ByKey = false
