-- Sixteen bytes of an order one by one, and what an order names that ends before the numbers, or behind the switches.
use Rattle.std.specs.Prelude.{ℕ, ◌+◌, ◌≤◌, ◌<◌, List, ◌≡◌, length, get_or, drop, replicate}
use Rattle.std.proofs.Math.Path.{refl}
use Rattle.std.proofs.Common.{◌∙◌, le-leb, drop_of_length-le, get_or-drop, arith}
use Rattle.std.proofs.Math.ListN.{get_or-eq_default}
use Rattle.tables.specs.Choice.{picked}
use Rattle.wire.specs.Listed.{filled, length_filled, filled_byte}
use Rattle.roles.specs.declared.Role.{Role}
use Rattle.roles.specs.declared.Role.TheVariants.{FirstLong, SecondLong, ShortData, ValueFile, LogFile, NoFile}
use Rattle.roles.specs.Roles.{default_number}
use Rattle.keys.specs.Keys.{zeros}
use Rattle.settings.specs.Settings.{unchosen, file_at, rights_of}
use Rattle.orders.specs.Order.{sixteen, keys_in, number_in, file_in, settings_in, order_in}

pub length_sixteen : (b : List ℕ) (at : ℕ) → length (sixteen b at) ≡ 16
unfolding sixteen
length_sixteen b at = length_filled 16 (drop at b)

pub sixteen_byte : (b : List ℕ) (at i : ℕ) → i < 16 → get_or (sixteen b at) i 0 ≡ get_or b (at + i) 0
unfolding sixteen
sixteen_byte b at i h = filled_byte 16 (drop at b) i h ∙ get_or-drop at b i 0

sixteen_none : (b : List ℕ) (at : ℕ) → length b ≤ at → sixteen b at ≡ replicate 16 0
unfolding sixteen filled
sixteen_none b at h = rw (drop_of_length-le b {i = at} h) refl

-- an order of at most 104 bytes names the default numbers
module _ (b : List ℕ) (h : length b ≤ 104) where
  number_none : (i : ℕ) (r : Role) → number_in b i r ≡ default_number r
  unfolding number_in
  number_none i r = picked _ _ (le-leb _ _ h)

  pub order_unnumbered : (r : Role) → (file_at (order_in b).settings r).number ≡ default_number r
  unfolding order_in settings_in file_in
  order_unnumbered FirstLong = number_none 0 FirstLong
  order_unnumbered SecondLong = number_none 1 SecondLong
  order_unnumbered ShortData = number_none 2 ShortData
  order_unnumbered ValueFile = number_none 3 ValueFile
  order_unnumbered LogFile = number_none 4 LogFile
  order_unnumbered NoFile = refl

-- an order of at most 23 bytes names zero keys, and of each file neither number nor mode
pub order_short : (b : List ℕ) → length b ≤ 23 → ((order_in b).keys ≡ zeros) × ((r : Role) → file_at (order_in b).settings r ≡ unchosen r (rights_of (order_in b).settings r))
unfolding order_in keys_in settings_in file_in zeros
order_short b h =
    let none : (at : ℕ) → 23 ≤ at → sixteen b at ≡ replicate 16 0 = λ at k. sixteen_none b at (omega arith) in
    (simp (none 23 (omega arith), none 39 (omega arith), none 55 (omega arith), none 71 (omega arith), none 87 (omega arith)), files)
  where
    plain : get_or b 103 0 ≡ 0
    plain = get_or-eq_default b 0 (omega arith)

    number : (i : ℕ) (r : Role) → number_in b i r ≡ default_number r
    number = number_none b (omega arith)

    files : (r : Role) → file_at (order_in b).settings r ≡ unchosen r (rights_of (order_in b).settings r)
    files FirstLong = rw (plain, number 0 FirstLong) refl
    files SecondLong = rw (plain, number 1 SecondLong) refl
    files ShortData = rw (plain, number 2 ShortData) refl
    files ValueFile = rw (plain, number 3 ValueFile) refl
    files LogFile = rw (plain, number 4 LogFile) refl
    files NoFile = refl
