-- CBC with AES-128, NIST SP 800-38A section 6.2, from a block of zeros and without padding: a text is of whole blocks of 16
-- bytes, as many as its length says. w is the list of the round keys, c the block before, n the number of blocks.
use Rattle.std.specs.Prelude.{ℕ, zero, suc, ◌/◌, List, [], ◌++◌, length, take, drop}
use Rattle.field.specs.Bytes.{◌⊞◌, zeros}
use Rattle.fips197.specs.Keys.{key_expansion}
use Rattle.fips197.specs.Cipher.{cipher, inv_cipher}

-- Cⱼ = CIPH(Pⱼ ⊕ Cⱼ₋₁)
abbrev pub encrypted_from : List (List ℕ) → List ℕ → ℕ → List ℕ → List ℕ
encrypted_from w c zero x = []
encrypted_from w c (suc n) x = cipher w (take 16 x ⊞ c) ++ encrypted_from w (cipher w (take 16 x ⊞ c)) n (drop 16 x)

-- Pⱼ = CIPH⁻¹(Cⱼ) ⊕ Cⱼ₋₁
abbrev pub decrypted_from : List (List ℕ) → List ℕ → ℕ → List ℕ → List ℕ
decrypted_from w c zero x = []
decrypted_from w c (suc n) x = (inv_cipher w (take 16 x) ⊞ c) ++ decrypted_from w (take 16 x) n (drop 16 x)

unfoldable pub encrypted : List ℕ → List ℕ → List ℕ
encrypted k x = encrypted_from (key_expansion k) zeros (length x / 16) x

unfoldable pub decrypted : List ℕ → List ℕ → List ℕ
decrypted k x = decrypted_from (key_expansion k) zeros (length x / 16) x
