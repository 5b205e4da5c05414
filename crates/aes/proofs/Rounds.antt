-- Rounds over the round keys 1 to 9, in order and backwards.
use mathlib.Core.Path.{◌≡◌, refl, sym, subst}
use mathlib.Core.List.{List, [], reverse}
use Prim.Native.Nat.{ℕ}
use native.Mathlib.Omega.{arith}
use lib.ListN.{length, get_or, take, drop}
use Rattle.std.specs.List.{fold}
use Rattle.std.proofs.lemmas.List.{get_or_default}
use Rattle.lookup.specs.Tables.{tabled}
use Rattle.lookup.proofs.Made.{by_places}
use Rattle.fips197.specs.Cipher.{round, rounds, inv_round, inv_rounds}

eleven : (w : List (List ℕ)) → length w ≡ 11 → tabled 11 (λ i. get_or w i []) ≡ w
eleven w e = sym (by_places 11 w (λ i. get_or w i []) e (λ i d l. get_or_default w i d [] (omega arith)))

pub forwards : (w : List (List ℕ)) (s : List ℕ) → length w ≡ 11 → fold round s (take 9 (drop 1 w)) ≡ rounds w s 9
forwards w s e = subst (λ (w : List (List ℕ)). fold round s (take 9 (drop 1 w)) ≡ rounds w s 9) (eleven w e) refl

pub backwards : (w : List (List ℕ)) (s : List ℕ) → length w ≡ 11 → fold inv_round s (reverse (take 9 (drop 1 w))) ≡ inv_rounds w 9 s
backwards w s e = subst (λ (w : List (List ℕ)). fold inv_round s (reverse (take 9 (drop 1 w))) ≡ inv_rounds w 9 s) (eleven w e) refl
