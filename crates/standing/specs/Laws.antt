-- A value file at rest breaks no standing rule, and each command's effect keeps them where its test passes.
use Rattle.std.specs.Prelude.{ℕ, ◌≤◌, ◌≡◌, Bool, true, false, not, ◌&&◌, ◌||◌, eqb, ℤ, pos, ◌+ℤ◌, ◌-ℤ◌}
use Rattle.std.proofs.Math.Path.{refl}
use Rattle.std.proofs.Common.{arith, ltb-false, le-ltb, eq-eqb, of_z}
use Rattle.std.proofs.lemmas.Bool.{not-false}
use Rattle.std.specs.Int.{w32}
use Rattle.tables.specs.Choice.{none, and_right, pick_both}
use Rattle.limits.specs.declared.Limits.{Limits}
use Rattle.limits.specs.Limits.{within}
use Rattle.purse.specs.declared.Purse.{Purse}
use Rattle.purse.specs.Purse.{largest, resting, credited, debited, rebooked, settled, dropped}
use Rattle.standing.specs.Rules.{unequal}
use Rattle.standing.specs.Parts.{value_rules, value_broken}

-- ---- the rules of the value file, one by one

pub record Sound (l : Limits) (p : Purse) (log_pending : Bool) : Type 0 where
  pub value : within l p.value ≡ true
  pub pending : within l p.pending ≡ true
  pub allowance : p.allowance ≤ largest
  pub left : p.left ≤ p.allowance
  pub debits : p.debits ≤ largest
  pub noted : (not p.debited && not (eqb p.debits 0)) ≡ false
  pub equal : (not (p.moved || log_pending) && unequal p) ≡ false

pub sound : {l : Limits} {p : Purse} {b : Bool} → value_broken l p b ≡ false → Sound l p b
unfolding value_broken
sound {l} {p} {b} e =
    let k = none (value_rules l p b) e in
    record {
      value = not-false _ k.0;
      pending = not-false _ k.1.0;
      allowance = ltb-false _ _ k.1.1.0;
      left = ltb-false _ _ k.1.1.1.0;
      debits = ltb-false _ _ k.1.1.1.1.0;
      noted = k.1.1.1.1.1.0;
      equal = k.1.1.1.1.1.1.0;
    }

pub unbroken : {l : Limits} {p : Purse} {b : Bool} → Sound l p b → value_broken l p b ≡ false
unfolding value_broken
unbroken s = simp (s.value, s.pending, le-ltb _ _ s.allowance, le-ltb _ _ s.left, le-ltb _ _ s.debits, s.noted, s.equal)

-- ---- at rest

rests_equal : (v : ℤ) (a : ℕ) → unequal (resting v a) ≡ false
unfolding unequal resting
rests_equal v a = simp (eq-eqb (of_z w32 v) (of_z w32 v) refl, eq-eqb a a refl)

pub resting_sound : (l : Limits) (v : ℤ) (a : ℕ) (b : Bool) → within l v ≡ true → a ≤ largest → Sound l (resting v a) b
unfolding resting
resting_sound l v a b h k = record { value = h; pending = h; allowance = k; left = omega arith; debits = omega arith; noted = refl; equal = and_right (not b) _ (rests_equal v a) }

-- ---- effects; b says what was pending in the log before, and b' what is after

module _ {l : Limits} {p : Purse} {b : Bool} (b' : Bool) (s : Sound l p b) where
  pub credited_sound : (n : ℕ) → within l (p.pending +ℤ pos n) ≡ true → Sound l (credited p n) b'
  unfolding credited
  credited_sound n h = record { value = s.value; pending = h; allowance = s.allowance; left = s.left; debits = s.debits; noted = s.noted; equal = refl }

  pub debited_sound : (n : ℕ) → within l (p.pending -ℤ pos n) ≡ true → Sound l (debited p n) b'
  unfolding debited
  debited_sound n h = record { value = s.value; pending = h; allowance = s.allowance; left = s.left; debits = omega arith; noted = refl; equal = refl }

  pub rebooked_sound : (n : ℕ) → within l (p.pending +ℤ pos n) ≡ true → Sound l (rebooked p n) b'
  unfolding rebooked
  rebooked_sound n h = record { value = s.value; pending = h; allowance = s.allowance; left = omega arith; debits = s.debits; noted = s.noted; equal = refl }

  pub settled_sound : Sound l (settled p) b'
  unfolding settled
  settled_sound = resting_sound l p.pending _ b' s.pending (pick_both (λ a. a ≤ largest) p.debited p.debits p.left s.debits (omega arith))

  pub dropped_sound : Sound l (dropped p) b'
  unfolding dropped
  dropped_sound = resting_sound l p.value p.allowance b' s.value s.allowance
