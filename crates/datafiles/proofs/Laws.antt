-- Laws of the data files.
use Rattle.std.specs.Prelude.{ℕ, ◌+◌, ◌-◌, ◌≤◌, ◌<◌, ◌≡◌, refl, true, false, List, [], length, drop}
use Rattle.std.proofs.Common.{◌∙◌, leb-false, ltb-false, length-take, arith}
use Rattle.tables.specs.Choice.{choice, or_no, pick_both}
use Rattle.wire.specs.Bytes.{outside_of}
use Rattle.wire.proofs.Laws.{length_laid_in}
use Rattle.roles.specs.declared.Role.{Role}
use Rattle.roles.specs.declared.Role.TheVariants.{FirstLong, SecondLong, ShortData, ValueFile, LogFile, NoFile}
use Rattle.roles.specs.Roles.{place_of, is_data, long_size, short_size, size_of}
use Rattle.roles.specs.Laws.{size_most, by_file}
use Rattle.datafiles.specs.declared.Files.{Files}
use Rattle.datafiles.specs.Files.{bytes_of, end_of, shown, holding, written, shown_in}
use Rattle.datafiles.specs.Laws.{Sized}

-- a range that is not outside lies inside
pub end_inside : (size off len : ℕ) → outside_of size off len ≡ false → (off ≤ end_of size off len) × (end_of size off len ≤ size)
unfolding outside_of end_of
end_inside size off len e =
    let h = or_no _ _ e in
    let a : off < size = leb-false _ _ h.0 in
    let b : off + len ≤ size = ltb-false _ _ h.1 in (
      pick_both (λ (v : ℕ). off ≤ v) _ _ _ (omega arith) (omega arith),
      pick_both (λ (v : ℕ). v ≤ size) _ _ _ (omega arith) (omega arith),
    )

-- what a read lays into a buffer: nothing, or the range
pub shown_short : (room : ℕ) (f : Files) (r : Role) (off len : ℕ) → room < long_size → [] ≡ shown_in room f r off len
unfolding shown_in
shown_short room f r off len h = search choice

pub shown_outside : (room : ℕ) (f : Files) (r : Role) (off len : ℕ) → outside_of (size_of r) off len ≡ true → [] ≡ shown_in room f r off len
unfolding shown_in
shown_outside room f r off len h = search choice

pub shown_inside : (room : ℕ) (f : Files) (r : Role) (off len : ℕ) → long_size ≤ room → outside_of (size_of r) off len ≡ false → shown f r off len ≡ shown_in room f r off len
unfolding shown_in
shown_inside room f r off len h k = search choice

pub shown_small : (f : Files) (r : Role) (off len : ℕ) → outside_of (size_of r) off len ≡ false → length (shown f r off len) ≤ long_size
unfolding shown
shown_small f r off len e =
    let i = end_inside (size_of r) off len e in
    let m = size_most r in
    let t = length-take (end_of (size_of r) off len - off) (drop off (bytes_of f r)) in
    omega arith

-- ---- other bytes in a data file

module _ (f : Files) where
  -- a data file that is given bytes has them
  pub held : (x : List ℕ) (r : Role) → is_data r ≡ true → bytes_of (holding f r x) r ≡ x
  held x = by_file (λ r. bytes_of (holding f r x) r ≡ x) refl refl refl

  -- of bytes given twice the last stay
  pub held_again : (x y : List ℕ) (r : Role) → holding (holding f r x) r y ≡ holding f r y
  held_again x y FirstLong = refl
  held_again x y SecondLong = refl
  held_again x y ShortData = refl
  held_again x y ValueFile = refl
  held_again x y LogFile = refl
  held_again x y NoFile = refl

  -- the bytes that it has change nothing
  pub held_already : (r : Role) → holding f r (bytes_of f r) ≡ f
  held_already FirstLong = refl
  held_already SecondLong = refl
  held_already ShortData = refl
  held_already ValueFile = refl
  held_already LogFile = refl
  held_already NoFile = refl

  -- and no other file has them
  pub held_elsewhere : (x : List ℕ) (r : Role) → is_data r ≡ true → (q : Role) → is_data q ≡ true → (q ≡ r → ⊥) → bytes_of (holding f r x) q ≡ bytes_of f q
  held_elsewhere x =
      by_file (λ r. (q : Role) → is_data q ≡ true → (q ≡ r → ⊥) → bytes_of (holding f r x) q ≡ bytes_of f q)
      (by_file (λ q. (q ≡ FirstLong → ⊥) → bytes_of (holding f FirstLong x) q ≡ bytes_of f q) (λ n. absurd (n refl)) (λ n. refl) (λ n. refl))
      (by_file (λ q. (q ≡ SecondLong → ⊥) → bytes_of (holding f SecondLong x) q ≡ bytes_of f q) (λ n. refl) (λ n. absurd (n refl)) (λ n. refl))
      (by_file (λ q. (q ≡ ShortData → ⊥) → bytes_of (holding f ShortData x) q ≡ bytes_of f q) (λ n. refl) (λ n. refl) (λ n. absurd (n refl)))

-- ---- sizes

pub sized : (f : Files) → length f.first ≡ long_size → length f.second ≡ long_size → length f.short ≡ short_size → Sized f
sized f a b c FirstLong = a
sized f a b c SecondLong = b
sized f a b c ShortData = c
sized f a b c ValueFile = refl
sized f a b c LogFile = refl
sized f a b c NoFile = refl

pub sized_holding : (f : Files) (r : Role) (x : List ℕ) → Sized f → length x ≡ size_of r → Sized (holding f r x)
sized_holding f FirstLong x h e = sized _ e (h SecondLong) (h ShortData)
sized_holding f SecondLong x h e = sized _ (h FirstLong) e (h ShortData)
sized_holding f ShortData x h e = sized _ (h FirstLong) (h SecondLong) e
sized_holding f ValueFile x h e = h
sized_holding f LogFile x h e = h
sized_holding f NoFile x h e = h

-- what is no data file has no bytes, and holds none
pub no_data : (f : Files) (r : Role) → (place_of r ≡ 0 → ⊥) → (place_of r ≡ 1 → ⊥) → (place_of r ≡ 2 → ⊥) → (bytes_of f r ≡ []) × ((x : List ℕ) → holding f r x ≡ f)
no_data f FirstLong a b c = absurd (a refl)
no_data f SecondLong a b c = absurd (b refl)
no_data f ShortData a b c = absurd (c refl)
no_data f ValueFile a b c = (refl, λ x. refl)
no_data f LogFile a b c = (refl, λ x. refl)
no_data f NoFile a b c = (refl, λ x. refl)

-- and a write
pub written_sized : (f : Files) (r : Role) (at : ℕ) (x : List ℕ) → Sized f → Sized (written f r at x)
written_sized f r at x h = sized_holding f r _ h (length_laid_in (bytes_of f r) at x ∙ h r)
