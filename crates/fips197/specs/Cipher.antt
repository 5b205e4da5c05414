-- Cipher and InvCipher, FIPS 197 figures 5 and 12, with ten rounds. w is the list of the round keys.
use Rattle.std.specs.Prelude.{ℕ, zero, suc, List, [], get_or}
use Rattle.fips197.specs.Steps.{sub_bytes, shift_rows, mix_columns, add_round_key, inv_sub_bytes, inv_shift_rows, inv_mix_columns}

-- a round of Cipher with the round key k
unfoldable pub round : List ℕ → List ℕ → List ℕ
round s k = add_round_key (mix_columns (shift_rows (sub_bytes s))) k

-- the State after rounds 1 to n of Cipher, from the State s
abbrev pub rounds : List (List ℕ) → List ℕ → ℕ → List ℕ
rounds w s zero = s
rounds w s (suc n) = round (rounds w s n) (get_or w (suc n) [])

unfoldable pub cipher : List (List ℕ) → List ℕ → List ℕ
cipher w b = add_round_key (shift_rows (sub_bytes (rounds w (add_round_key b (get_or w 0 [])) 9))) (get_or w 10 [])

-- a round of InvCipher with the round key k
unfoldable pub inv_round : List ℕ → List ℕ → List ℕ
inv_round s k = inv_mix_columns (add_round_key (inv_sub_bytes (inv_shift_rows s)) k)

-- the State after rounds n down to 1 of InvCipher, from the State s
abbrev pub inv_rounds : List (List ℕ) → ℕ → List ℕ → List ℕ
inv_rounds w zero s = s
inv_rounds w (suc n) s = inv_rounds w n (inv_round s (get_or w (suc n) []))

unfoldable pub inv_cipher : List (List ℕ) → List ℕ → List ℕ
inv_cipher w b = add_round_key (inv_sub_bytes (inv_shift_rows (inv_rounds w 9 (add_round_key b (get_or w 10 []))))) (get_or w 0 [])
