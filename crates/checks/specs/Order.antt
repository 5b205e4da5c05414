-- The order of checks over what the code's tests answer, in the two parts in which it asks them.
use Rattle.std.specs.Prelude.{ℕ, Bool, Result, Ok, Err, eqb}
use Rattle.std.proofs.Math.Bool.{false}
use mathlib.Core.List.{List, [], ◌∷◌}
use Rattle.tables.specs.Choice.{pick}
use Rattle.tables.specs.Reasons.{Reason, ◌when◌, first}
use Rattle.roles.specs.declared.Role.{Role}
use Rattle.roles.specs.declared.Role.TheVariants.{NoFile}
use Rattle.frames.specs.Frame.{ins_of, data_of, wrong_size, wrong_class, wrong_parameters, wrong_frame}
use Rattle.commands.specs.declared.Places.{Places}
use Rattle.rows.specs.State.{Core}
use Rattle.modes.specs.Modes.{role_in}
use Rattle.rows.specs.Rows.{carries_mac, ok, status_for}
use Rattle.checks.specs.declared.Status.{Status}
use Rattle.checks.specs.declared.Status.TheVariants.{WrongLength, WrongClass, WrongParameters, UnknownCommand, Aborted, DataLength, NoSuchFile, Denied, NotGranted, Integrity, BadParameter, Outside, NothingPending}
use Rattle.checks.specs.declared.Admitted.{Admitted}
use Rattle.checks.specs.declared.Refused.{Refused}

-- the status words
abbrev pub word_of : Status → ℕ
word_of WrongLength = 0x6700
word_of WrongClass = 0x6E00
word_of WrongParameters = 0x6A86
word_of UnknownCommand = 0x911C
word_of Aborted = 0x91CA
word_of DataLength = 0x917E
word_of NoSuchFile = 0x91F0
word_of Denied = 0x919D
word_of NotGranted = 0x91AE
word_of Integrity = 0x911E
word_of BadParameter = 0x919E
word_of Outside = 0x91BE
word_of NothingPending = 0x910C

-- the status that an answer tells
abbrev pub told : {A : Type 0} → Result A Status → ℕ
told (Ok a) = ok
told (Err s) = word_of s

-- what the order of checks leaves: the status, whether the frame's command carries a MAC, and the role of the file that it names
pub record Checked : Type 0 where
  pub status : ℕ
  pub maced : Bool
  pub role : Role

-- what a frame's answer says that it left
abbrev pub left_by : Result Admitted Refused → Checked
left_by (Ok a) = record { status = ok; maced = a.maced; role = a.role }
left_by (Err r) = record { status = word_of r.status; maced = r.maced; role = r.role }

-- a frame that is refused at places 1 to 4
abbrev pub nameless : Status → Refused
nameless s = record { status = s; maced = false; role = NoFile }

-- places 1 to 4
abbrev pub frame_part : Bool → Bool → Bool → Bool → List Reason
frame_part size class parameters frame = (0x6700 when size) ∷ (0x6E00 when class) ∷ (0x6A86 when parameters) ∷ (0x6700 when frame) ∷ []

unfoldable pub frame_order : Bool → Bool → Bool → Bool → ℕ
frame_order size class parameters frame = first (frame_part size class parameters frame) ok

-- places 5 to 13
unfoldable pub command_order : Bool → Bool → Bool → Bool → Bool → Bool → Bool → Bool → Bool → Bool → Bool → Bool → ℕ
command_order command waits length file kind grant chain seal off value range nothing =
    first
    ((0x911C when command)
    ∷ (0x91CA when waits)
    ∷ (0x917E when length)
    ∷ (0x91F0 when file)
    ∷ (0x919D when kind)
    ∷ (0x91AE when grant)
    ∷ (0x919D when chain)
    ∷ (0x911E when seal)
    ∷ (0x919D when off)
    ∷ (0x919E when value)
    ∷ (0x91BE when range)
    ∷ (0x910C when nothing)
    ∷ [])
    ok

abbrev pub in_order : Places → ℕ
in_order p =
    command_order p.command p.waits p.length p.file p.kind p.grant p.chain p.seal p.off p.value p.range p.nothing

-- a frame that is refused at places 1 to 4 names no command and no file
unfoldable pub framed : List ℕ → Bool
framed f = eqb (frame_order (wrong_size f) (wrong_class f) (wrong_parameters f) (wrong_frame f)) ok

-- whether the frame's command carries a MAC, and the role of the file that it names
unfoldable pub maced_for : Bool → Core → List ℕ → Bool
maced_for o c f = pick (framed f) (carries_mac o c (ins_of f) (data_of f)) false

unfoldable pub role_for : Core → List ℕ → Role
role_for c f = pick (framed f) (role_in c.settings (data_of f)) NoFile

unfoldable pub checked_of : Bool → Core → List ℕ → Checked
checked_of o c f = record { status = status_for o c f; maced = maced_for o c f; role = role_for c f }

-- whether an accepted frame's command carries a MAC, and the role of the file that it names
abbrev pub admitted_of : Bool → Core → List ℕ → Admitted
admitted_of o c f = record { maced = carries_mac o c (ins_of f) (data_of f); role = role_in c.settings (data_of f) }
