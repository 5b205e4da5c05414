-- CMAC with AES-128, NIST SP 800-38B sections 6.1 and 6.2: a block is of 128 bits, 16 bytes. k is the key.
use Rattle.std.specs.Prelude.{ℕ, zero, suc, ◌+◌, ◌*◌, ◌-◌, ◌/◌, ◌%◌, List, [], ◌∷◌, ◌++◌, eqb, length, get_or, take, drop, replicate}
use Rattle.tables.specs.Choice.{pick}
use Rattle.field.specs.Field.{◌⊕◌, only_if}
use Rattle.lookup.specs.Tables.{tabled}
use Rattle.field.specs.Bytes.{◌⊞◌, zeros}
use Rattle.fips197.specs.Keys.{key_expansion}
use Rattle.fips197.specs.Cipher.{cipher}

-- the byte i of l << 1: seven bits of its own, and the first bit of the next byte
abbrev pub shifted : List ℕ → ℕ → ℕ
shifted l i = get_or l i 0 * 2 % 256 ⊕ get_or l (i + 1) 0 / 128

-- 6.1, steps 2 and 3: l << 1, and R = 0..0 1000 0111 added to it where the first bit of l is 1
unfoldable pub doubled : List ℕ → List ℕ
doubled l = tabled 15 (shifted l) ++ ((get_or l 15 0 * 2 % 256 ⊕ only_if (get_or l 0 0 / 128) 0x87) ∷ [])

-- 6.1: the subkeys, of the round keys
abbrev pub first_subkey : List (List ℕ) → List ℕ
first_subkey w = doubled (cipher w zeros)

abbrev pub second_subkey : List (List ℕ) → List ℕ
second_subkey w = doubled (first_subkey w)

unfoldable pub subkey1 : List ℕ → List ℕ
subkey1 k = first_subkey (key_expansion k)

unfoldable pub subkey2 : List ℕ → List ℕ
subkey2 k = second_subkey (key_expansion k)

-- 10..0 behind a part of a block
abbrev pub padded : List ℕ → List ℕ
padded m = m ++ 0x80 ∷ replicate (15 - length m) 0

-- 6.2, step 4: the last block, from a last part m of at most 16 bytes: complete, or padded
unfoldable pub last_block : List ℕ → List ℕ → List ℕ
last_block k m = pick (eqb (length m) 16) (subkey1 k ⊞ m) (subkey2 k ⊞ padded m)

-- 6.2, step 6: the chain from the block c on, over n blocks of m and the last one
abbrev pub chain : List ℕ → ℕ → List ℕ → List ℕ → List ℕ
chain k zero c m = cipher (key_expansion k) (c ⊞ last_block k m)
chain k (suc n) c m = chain k n (cipher (key_expansion k) (c ⊞ take 16 m)) (drop 16 m)

-- 6.2: as many blocks as m fills or begins, and one for the empty m
unfoldable pub cmac : List ℕ → List ℕ → List ℕ
cmac k m = chain k ((length m - 1) / 16) zeros m

-- the bytes at places 1, 3 and on to 15, counted from 0
unfoldable pub truncated : List ℕ → List ℕ
truncated t = tabled 8 (λ i. get_or t (2 * i + 1) 0)
