-- What the standing rule says of an open chain, and that what is left of it keeps the rule.
use Rattle.std.specs.Prelude.{ℕ, ◌+◌, ◌-◌, ◌≤◌, ◌<◌, true, false, ◌&&◌, ◌≡◌, refl, eqb, leb}
use Rattle.std.proofs.Common.{sym, ◌∙◌, arith, ne_eqb, leb-true, leb-false, le-leb}
use Rattle.std.proofs.lemmas.Bool.{not-true}
use Rattle.tables.specs.Choice.{pick, passed, pick_cases, and_yes, and_both}
use Rattle.roles.specs.Roles.{is_data, size_of}
use Rattle.chains.specs.declared.Chain.{Chain}
use Rattle.chains.specs.Chain.{unchained, is_open, next_place, completes, shortened, most_bytes, chain_sound}

pub none_sound : chain_sound unchained ≡ true
unfolding chain_sound unchained pick
none_sound = refl

-- an accepted frame of n file bytes
pub record Carried (k : Chain) (n : ℕ) : Type 0 where
  pub opened : is_open k ≡ true
  pub some : 1 ≤ n
  pub most : n ≤ most_bytes
  pub fits : n ≤ k.left

-- what the standing rule says of an open chain
pub record Ranged (k : Chain) : Type 0 where
  pub file : is_data k.file ≡ true
  pub range : k.place + k.len ≤ size_of k.file
  pub left : k.left ≤ k.len

pub ranged : (k : Chain) → chain_sound k ≡ true → is_open k ≡ true → Ranged k
unfolding chain_sound
ranged k s o =
    let z : eqb k.left 0 ≡ false = not-true _ o in
    let (a, l) = and_yes (is_data k.file && leb (k.place + k.len) (size_of k.file)) _ (sym (passed _ _ z) ∙ s) in
    let (f, r) = and_yes (is_data k.file) _ a in
    record { file = f; range = leb-true _ _ r; left = leb-true _ _ l }

-- its bytes lie inside the file
pub bytes_room : (k : Chain) (n : ℕ) → Ranged k → Carried k n → next_place k + n ≤ size_of k.file
bytes_room k n r c = omega (arith, r.range, r.left, c.fits)

pub shortened_sound : (k : Chain) (n : ℕ) → Ranged k → chain_sound (shortened k n) ≡ true
unfolding shortened
shortened_sound k n r = pick_cases (λ (x : Chain). chain_sound x ≡ true) (completes k n) _ _ (λ _. none_sound) (λ t. still (leb-false _ _ t))
  where
    still : n < k.left → chain_sound (record { file = k.file; place = k.place; len = k.len; left = k.left - n }) ≡ true
    still less = unfold chain_sound in passed _ _ (ne_eqb (k.left - n) 0 (λ z. omega arith)) ∙ and_both _ _ (and_both _ _ r.file (le-leb _ _ r.range)) (le-leb (k.left - n) k.len (omega (arith, r.left)))
