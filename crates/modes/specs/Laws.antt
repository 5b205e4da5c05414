-- The tests of MAC mode as the code asks them; and that the first byte of a data field alone names its file.
use Rattle.std.specs.Prelude.{ℕ, ◌-◌, ◌≤◌, ◌<◌, Bool, true, false, not, ◌&&◌, ◌||◌, List, ◌++◌, ◌≡◌, eqb, length}
use Rattle.std.proofs.Math.Path.{refl, ap}
use Rattle.std.proofs.Common.{sym, ◌∙◌, ne_eqb, length-drop, length-append, take_all, arith}
use Rattle.std.proofs.Math.ListN.{take, drop}
use Rattle.std.proofs.Math.Seq.{take_at, drop_at}
use Rattle.std.proofs.Math.Nat.{sub-zero}
use Rattle.tables.specs.Choice.{pick, passed}
use Rattle.access.specs.declared.Access.{Access}
use Rattle.access.specs.Rights.{is_free_only}
use Rattle.channel.specs.declared.Stage.{Stage}
use Rattle.channel.specs.Channel.{is_real}
use Rattle.columns.specs.Table.{get_file_settings, on_file, ends}
use Rattle.settings.specs.declared.Settings.{Settings}
use Rattle.settings.specs.Settings.{role_of}
use Rattle.frames.specs.Frame.{file_of}
use Rattle.modes.specs.Modes.{role_in, mac_size, maced_under, plain_of, mac_of}

-- under a real session the rest of the test decides
pub maced_by : (a : Access) (m : Bool) (g : Stage) (i : ℕ) {e o f : Bool} → is_real g ≡ true → e ≡ ends i → o ≡ on_file i → f ≡ is_free_only a
    → (e || eqb i get_file_settings || (o && m && not f)) ≡ maced_under a m g i
unfolding maced_under
maced_by a m g i real ee eo ef = rw (real, ee, eo, ef) refl

-- the part up to the end that the code computes
pub plain_part : (m : Bool) (x : List ℕ) (e : ℕ) → e ≡ pick m (length x - mac_size) (length x) → take (e - 0) x ≡ plain_of m x
unfolding plain_of pick
plain_part true x e q = rw (q, sub-zero (length x - mac_size)) refl
plain_part false x e q = rw (q, sub-zero (length x)) (take_all (length x) x (omega arith))

pub plain_inside : (m : Bool) (x : List ℕ) (e : ℕ) → e ≡ pick m (length x - mac_size) (length x) → e ≤ length x
unfolding pick
plain_inside true x e q = omega arith
plain_inside false x e q = omega arith

-- the part from the start that the code computes
pub mac_part : (x : List ℕ) (a : ℕ) → a ≡ length x - mac_size → take (length x - a) (drop a x) ≡ mac_of x
unfolding mac_of
mac_part x a q = rw q (take_all (length x - (length x - mac_size)) (drop (length x - mac_size) x) (omega (arith, length-drop (length x - mac_size) x)))

-- ---- a file is named by the first byte alone

module _ (s : Settings) where
  pub role_there : (x : List ℕ) → 0 < length x → role_in s x ≡ role_of s (file_of x)
  unfolding role_in
  role_there x h = passed _ _ (ne_eqb (length x) 0 (λ e. omega arith))

  pub role_first : (x y : List ℕ) → 0 < length x → 0 < length y → file_of x ≡ file_of y → role_in s x ≡ role_in s y
  role_first x y h k e = role_there x h ∙ ap (role_of s) e ∙ sym (role_there y k)

-- ---- a data field d with the MAC t behind it

module _ (d t : List ℕ) (eight : length t ≡ mac_size) where
  before_mac : length (d ++ t) - mac_size ≡ length d
  before_mac = let l = length-append d t in omega arith

  pub plain_sealed : plain_of true (d ++ t) ≡ d
  unfolding plain_of pick
  plain_sealed = ap (λ (n : ℕ). take n (d ++ t)) before_mac ∙ take_at d t (length d) refl

  pub mac_sealed : mac_of (d ++ t) ≡ t
  unfolding mac_of
  mac_sealed = ap (λ (n : ℕ). drop n (d ++ t)) before_mac ∙ drop_at d t (length d) refl
