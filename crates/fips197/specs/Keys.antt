-- KeyExpansion, FIPS 197 section 5.2 and figure 11, with a key of four words and ten rounds: Nk = 4, Nr = 10. A word is the
-- list of its four bytes.
use Rattle.std.specs.Prelude.{ℕ, zero, suc, ◌+◌, ◌-◌, ◌*◌, ◌/◌, ◌%◌, List, [], ◌∷◌, ◌++◌, eqb, get_or, drop}
use Rattle.tables.specs.Choice.{pick}
use Rattle.field.specs.Field.{xtime}
use Rattle.lookup.specs.Tables.{tabled}
use Rattle.field.specs.Bytes.{sum}
use Rattle.fips197.specs.Sbox.{sbox}
use Rattle.fips197.specs.Steps.{at}

-- the word i of a key
abbrev pub word : List ℕ → ℕ → List ℕ
word k i = tabled 4 (λ r. at k r i)

abbrev pub rot_word : List ℕ → List ℕ
rot_word t = tabled 4 (λ i. get_or t ((i + 1) % 4) 0)

abbrev pub sub_word : List ℕ → List ℕ
sub_word t = tabled 4 (λ i. sbox (get_or t i 0))

-- x to the power of i
abbrev pub power : ℕ → ℕ
power zero = 1
power (suc i) = xtime (power i)

-- Rcon[i]: x to the power of i - 1, and three zeros
abbrev pub rcon : ℕ → List ℕ
rcon i = power (i - 1) ∷ 0 ∷ 0 ∷ 0 ∷ []

-- temp, which is added to w[i - 4], from w[i - 1]
abbrev pub temp : ℕ → List ℕ → List ℕ
temp i t = pick (eqb (i % 4) 0) (sum 4 (sub_word (rot_word t)) (rcon (i / 4))) t

-- w[i], from the words w[i - 4] to w[i - 1]
abbrev pub next : ℕ → List (List ℕ) → List ℕ
next i ws = sum 4 (get_or ws 0 []) (temp i (get_or ws 3 []))

-- from the words w[i - 4] to w[i - 1] to the words w[i - 3] to w[i]
abbrev pub onward : ℕ → List (List ℕ) → List (List ℕ)
onward i ws = drop 1 ws ++ (next i ws ∷ [])

-- the words w[i] to w[i + 3]; the first four are the key's
abbrev pub words : List ℕ → ℕ → List (List ℕ)
words k zero = tabled 4 (word k)
words k (suc i) = onward (i + 4) (words k i)

-- words one behind the other
abbrev pub joined : List (List ℕ) → List ℕ
joined [] = []
joined (t ∷ ws) = t ++ joined ws

-- the round key n, which is of the words w[4n] to w[4n + 3]
unfoldable pub round_key : List ℕ → ℕ → List ℕ
round_key k n = joined (words k (4 * n))

-- the eleven round keys
unfoldable pub key_expansion : List ℕ → List (List ℕ)
key_expansion k = tabled 11 (round_key k)
