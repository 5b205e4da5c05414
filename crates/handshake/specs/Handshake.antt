-- AuthenticateEV2First: what each side sends, of the key K, RndA, RndB, TI and PCDcap2. E and D are CBC without padding.
use Rattle.std.specs.Prelude.{ℕ, Bool, not, List, [], ◌∷◌, ◌++◌, take, drop, replicate}
use Rattle.wire.specs.Bytes.{same}
use Rattle.wire.specs.Listed.{filled}
use Rattle.cbc.specs.Cbc.{encrypted, decrypted}

-- rotated left by one byte
unfoldable pub rotated : List ℕ → List ℕ
rotated [] = []
rotated (a ∷ x) = x ++ a ∷ []

-- the first part's PCDcap2, cut or filled with zero bytes to six
unfoldable pub caps_of : List ℕ → List ℕ
caps_of d = filled 6 (drop 2 d)

-- E(K, RndB), the reply to the first part
unfoldable pub first_reply : List ℕ → List ℕ → List ℕ
first_reply k b = encrypted k b

-- RndA as the second part d brings it
unfoldable pub brought_a : List ℕ → List ℕ → List ℕ
brought_a k d = take 16 (decrypted k d)

-- a second part d that does not bring RndB rotated
unfoldable pub fails : List ℕ → List ℕ → List ℕ → Bool
fails k b d = not (same (drop 16 (decrypted k d)) (rotated b))

-- E(K, TI, RndA rotated, PDcap2, PCDcap2), the reply to the second part; PDcap2 is six zero bytes
unfoldable pub second_reply : List ℕ → List ℕ → List ℕ → List ℕ → List ℕ
second_reply k ti caps a = encrypted k (ti ++ rotated a ++ replicate 6 0 ++ caps)
