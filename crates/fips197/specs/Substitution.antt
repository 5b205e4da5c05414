-- The S-box gives bytes, and its inverse undoes it. Each is one test of 256 bytes, with inverses looked up.
use Rattle.std.specs.Prelude.{◌≡◌, ℕ, ◌<◌, ltb, get_or}
use Rattle.std.proofs.Common.{sym, ap, subst, ◌∙◌, ltb→lt}
use Rattle.lookup.specs.Every.{below, agree}
use Rattle.field.specs.Inverses.{inverses}
use Rattle.field.proofs.Inverses.{inverse_at}
use Rattle.fips197.specs.Sbox.{affine, unaffine, sbox, inv_sbox}

abbrev looked : ℕ → ℕ
looked a = affine (get_or inverses a 0)

abbrev inv_looked : ℕ → ℕ
inv_looked a = get_or inverses (unaffine a) 0

sbox_is : (a : ℕ) → a < 256 → sbox a ≡ looked a
unfolding sbox
sbox_is a h = ap affine (inverse_at a h)

inv_sbox_is : (a : ℕ) → unaffine a < 256 → inv_sbox a ≡ inv_looked a
unfolding inv_sbox
inv_sbox_is a h = inverse_at (unaffine a) h

pub sbox_undone : (a : ℕ) → a < 256 → inv_sbox (sbox a) ≡ a
sbox_undone a h =
    let u = ltb→lt (unaffine (looked a)) 256 (below 256 (λ a. ltb (unaffine (looked a)) 256) tt a h) in
    ap inv_sbox (sbox_is a h) ∙ inv_sbox_is (looked a) u ∙ agree 256 (λ a. inv_looked (looked a)) (λ a. a) tt a h

pub sbox_lt : (a : ℕ) → a < 256 → sbox a < 256
sbox_lt a h = subst (λ (x : ℕ). x < 256) (sym (sbox_is a h)) (ltb→lt (looked a) 256 (below 256 (λ a. ltb (looked a) 256) tt a h))
