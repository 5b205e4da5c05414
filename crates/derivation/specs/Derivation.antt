-- The session MAC key of AuthenticateEV2First.
use Rattle.std.specs.Prelude.{ℕ, List, [], ◌∷◌, ◌++◌, take, drop}
use Rattle.std.specs.Int.Bits.{bit_xor}
use Rattle.wire.specs.Bytes.{part}
use Rattle.cmac.specs.Cmac.{cmac}

-- the bytes of two lists, exclusive or one by one
abbrev pub xored : List ℕ → List ℕ → List ℕ
xored [] y = []
xored (a ∷ x) [] = []
xored (a ∷ x) (b ∷ y) = bit_xor a b ∷ xored x y

-- what the session MAC key is made of: RndA and RndB behind six fixed bytes
unfoldable pub session_vector : List ℕ → List ℕ → List ℕ
session_vector a b = 0x5A ∷ 0xA5 ∷ 0x00 ∷ 0x01 ∷ 0x00 ∷ 0x80 ∷ take 2 a ++ xored (part a 2 8) (take 6 b) ++ drop 6 b ++ drop 8 a

-- the session MAC key of K, RndA and RndB
unfoldable pub mac_key : List ℕ → List ℕ → List ℕ → List ℕ
mac_key k a b = cmac k (session_vector a b)
