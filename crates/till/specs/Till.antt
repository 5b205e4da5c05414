-- The terminal's side of AuthenticateEV2First and of MAC mode: the frames it sends, and what it reads out of the replies.
-- K is the key, a is RndA, b is RndB. E and D are CBC without padding. The session MAC key is derivation's `mac_key`.
use Rattle.std.specs.Prelude.{ℕ, ◌+◌, Bool, ◌&&◌, List, [], ◌∷◌, ◌++◌, leb, length, take}
use Rattle.tables.specs.Choice.{pick}
use Rattle.wire.specs.Bytes.{part, same}
use Rattle.text.specs.Shown.{in_room}
use Rattle.frames.specs.Frame.{ins_of, data_of}
use Rattle.cbc.specs.Cbc.{encrypted, decrypted}
use Rattle.sealing.specs.Sealing.{seal_of}
use Rattle.handshake.specs.Handshake.{rotated}

-- ---- an authentication

-- the first part: key number, LenCap, PCDcap2
unfoldable pub first_frame : ℕ → List ℕ → List ℕ
first_frame number caps = 0x90 ∷ 0x71 ∷ 0x00 ∷ 0x00 ∷ (2 + length caps) ∷ number ∷ length caps ∷ caps ++ 0x00 ∷ []

-- RndB, out of the sixteen bytes of its reply
unfoldable pub learnt_b : List ℕ → List ℕ → List ℕ
learnt_b k e = decrypted k e

-- E(K, RndA, RndB rotated), the data field of the second part
unfoldable pub second_part : List ℕ → List ℕ → List ℕ → List ℕ
second_part k a b = encrypted k (a ++ rotated b)

unfoldable pub second_frame : List ℕ → List ℕ
second_frame d = 0x90 ∷ 0xAF ∷ 0x00 ∷ 0x00 ∷ 0x20 ∷ d ++ 0x00 ∷ []

-- what the thirty-two bytes of its reply bring: TI, then RndA
unfoldable pub replied_ti : List ℕ → List ℕ → List ℕ
replied_ti k r = take 4 (decrypted k r)

unfoldable pub replied_a : List ℕ → List ℕ → List ℕ
replied_a k r = part (decrypted k r) 4 20

-- the card has proved itself: it sent RndA back rotated
unfoldable pub knows_us : List ℕ → List ℕ → List ℕ → Bool
knows_us k a r = same (replied_a k r) (rotated a)

-- ---- a command in MAC mode

-- the header of the plain frame f, Lc for eight bytes more, the data field, its MAC, Le
unfoldable pub sealed : List ℕ → List ℕ → ℕ → List ℕ → List ℕ
sealed key ti counter f = take 4 f ++ (length (data_of f) + 8) ∷ data_of f ++ seal_of key (ins_of f) counter ti (data_of f) ++ 0x00 ∷ []

-- f has a header, and its Lc can count the MAC too
unfoldable pub sealable : List ℕ → Bool
sealable f = leb 5 (length f) && leb (length f) 253

-- the same in a room of so many places; nothing where f takes no MAC or there is no room
unfoldable pub sealed_in : ℕ → List ℕ → List ℕ → ℕ → List ℕ → List ℕ
sealed_in room key ti counter f = pick (sealable f) (in_room room (sealed key ti counter f)) []
