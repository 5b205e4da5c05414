-- A MAC is sixteen bytes long, and a truncated one eight.
use Rattle.std.specs.Prelude.{◌≡◌, refl, List, ℕ, zero, suc, ◌-◌, ◌/◌, length, take, drop}
use Rattle.field.specs.Bytes.{◌⊞◌, zeros}
use Rattle.fips197.specs.Keys.{key_expansion}
use Rattle.fips197.specs.Cipher.{cipher}
use Rattle.fips197.specs.Decrypts.{length_cipher}
use Rattle.cmac.specs.Cmac.{last_block, chain, cmac, truncated}

length_chain : (k : List ℕ) (n : ℕ) (c m : List ℕ) → length (chain k n c m) ≡ 16
length_chain k zero c m = length_cipher (key_expansion k) (c ⊞ last_block k m)
length_chain k (suc n) c m = length_chain k n (cipher (key_expansion k) (c ⊞ take 16 m)) (drop 16 m)

pub length_cmac : (k m : List ℕ) → length (cmac k m) ≡ 16
unfolding cmac
length_cmac k m = length_chain k ((length m - 1) / 16) zeros m

pub length_truncated : (t : List ℕ) → length (truncated t) ≡ 8
unfolding truncated
length_truncated t = refl
