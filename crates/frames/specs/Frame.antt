-- The parts of a frame: CLA, INS, P1, P2, then Le alone, or Lc, the data field from byte 5 on, and Le.
use Rattle.std.specs.Prelude.{ℕ, ◌+◌, ◌-◌, ◌/◌, ◌%◌, Bool, not, ◌&&◌, ◌||◌, List, [], ◌∷◌, ◌++◌, ltb, leb, eqb, length, get_or}
use Rattle.wire.specs.Bytes.{part, le3, le4}

abbrev pub cla_of : List ℕ → ℕ
cla_of f = get_or f 0 0

abbrev pub ins_of : List ℕ → ℕ
ins_of f = get_or f 1 0

abbrev pub p1_of : List ℕ → ℕ
p1_of f = get_or f 2 0

abbrev pub p2_of : List ℕ → ℕ
p2_of f = get_or f 3 0

abbrev pub lc_of : List ℕ → ℕ
lc_of f = get_or f 4 0

abbrev pub le_of : List ℕ → ℕ
le_of f = get_or f (length f - 1) 0

-- from byte 5 up to Le: empty in a frame of 5 bytes or fewer
abbrev pub data_of : List ℕ → List ℕ
data_of f = part f 5 (length f - 1)

-- the frame of the INS i with the data field d
abbrev pub framed : ℕ → List ℕ → List ℕ
framed i d = 0x90 ∷ i ∷ 0x00 ∷ 0x00 ∷ length d ∷ d ++ 0x00 ∷ []

-- ---- the parameters in a data field

abbrev pub file_of : List ℕ → ℕ
file_of d = get_or d 0 0

-- a read's or write's first place, and how many places
abbrev pub offset_of : List ℕ → ℕ
offset_of d = le3 d 1

abbrev pub length_of : List ℕ → ℕ
length_of d = le3 d 4

-- the bytes of a write: behind file, offset and length
abbrev pub bytes_in : List ℕ → List ℕ
bytes_in d = part d 7 (length d)

abbrev pub amount_of : List ℕ → ℕ
amount_of d = le4 d 1

abbrev pub option_of : List ℕ → ℕ
option_of d = get_or d 0 0

-- an authentication's first part: key number, LenCap, then PCDcap2, whose first byte's bit 1 is the LRP bit
abbrev pub key_in : List ℕ → ℕ
key_in d = get_or d 0 0

-- LenCap, the number of bytes of PCDcap2
abbrev pub caps_in : List ℕ → ℕ
caps_in d = get_or d 1 0

abbrev pub lrp_in : List ℕ → ℕ
lrp_in d = get_or d 2 0 / 2 % 2

-- ---- places 1 to 4 of the order of checks

-- fewer than 5 or more than 261 bytes
unfoldable pub wrong_size : List ℕ → Bool
wrong_size f = ltb (length f) 5 || ltb 261 (length f)

-- CLA not 90h
unfoldable pub wrong_class : List ℕ → Bool
wrong_class f = not (eqb (cla_of f) 0x90)

-- P1 or P2 not 00h
unfoldable pub wrong_parameters : List ℕ → Bool
wrong_parameters f = not (eqb (p1_of f) 0) || not (eqb (p2_of f) 0)

-- 6 bytes or more and Lc is 00h or disagrees with the length; or Le not 00h
unfoldable pub wrong_frame : List ℕ → Bool
wrong_frame f = (leb 6 (length f) && (eqb (lc_of f) 0 || not (eqb (lc_of f + 6) (length f)))) || not (eqb (le_of f) 0)
