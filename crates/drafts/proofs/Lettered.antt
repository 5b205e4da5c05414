-- A letter's line and a line of digits, from the bytes that were spelt.
use Prim.Native.Nat.{ℕ, ◌*◌, ◌≤◌, ◌<◌}
use mathlib.Core.Bool.{Bool, true, false, ◌&&◌, ◌||◌}
use mathlib.Core.List.{List}
use mathlib.Core.Path.{◌≡◌, refl, sym, ap, ◌∙◌}
use borrow.Author.Tests.{lt-ltb, le-ltb, eq-eqb, ne_eqb}
use lib.Dec.{eqb, leb}
use lib.ListN.{length, get_or, take}
use native.Mathlib.Omega.{arith}
use Rattle.tables.specs.Choice.{pick, picked, passed, order, and_right}
use Rattle.wire.specs.Bytes.{part, Shows}
use Rattle.text.specs.Hex.{is_hex, spelt, leading}
use Rattle.text.specs.Laws.{leading_all, leading_most, hex_test}
use Rattle.lines.proofs.Laws.{spelt_there, said_by}
use Rattle.held.specs.declared.Draft.{Draft}
use Rattle.held.specs.Held.{over, counted, sent, noted}
use Rattle.drafts.specs.Drafts.{unread, unchanged, authenticated, maced, lettered_by, lettered, drafted}

-- which of a letter's lines it is
module _ (d : Draft) (line : List ℕ) (letter n : ℕ) (digits : Bool) (b : List ℕ) where
  abbrev is_m : Bool
  is_m = eqb letter 0x4D && digits

  abbrev is_a : Bool
  is_a = eqb letter 0x41 && eqb n 66 && digits

  abbrev is_n : Bool
  is_n = eqb letter 0x4E && eqb n 40 && digits

  abbrev is_c : Bool
  is_c = eqb letter 0x43 && leb 2 n && digits

  abbrev is_over : Bool
  is_over = eqb letter 0x53 || eqb letter 0x50

  pub by_m : is_m ≡ true → maced d b ≡ lettered_by d line letter n digits b
  unfolding lettered_by
  by_m e = search order depth 9

  pub by_a : is_m ≡ false → is_a ≡ true → authenticated d b ≡ lettered_by d line letter n digits b
  unfolding lettered_by
  by_a e₁ e = search order depth 9

  pub by_n : is_m ≡ false → is_a ≡ false → is_n ≡ true → unchanged (noted d b) line ≡ lettered_by d line letter n digits b
  unfolding lettered_by
  by_n e₁ e₂ e = search order depth 9

  pub by_c : is_m ≡ false → is_a ≡ false → is_n ≡ false → is_c ≡ true → unchanged (counted d) line ≡ lettered_by d line letter n digits b
  unfolding lettered_by
  by_c e₁ e₂ e₃ e = search order depth 9

  pub by_over : is_m ≡ false → is_a ≡ false → is_n ≡ false → is_c ≡ false → is_over ≡ true → unchanged (over d) line ≡ lettered_by d line letter n digits b
  unfolding lettered_by
  by_over e₁ e₂ e₃ e₄ e = search order depth 9

  pub by_other : is_m ≡ false → is_a ≡ false → is_n ≡ false → is_c ≡ false → is_over ≡ false → unchanged d line ≡ lettered_by d line letter n digits b
  unfolding lettered_by
  by_other e₁ e₂ e₃ e₄ e = search order depth 9

module _ (d : Draft) (line : List ℕ) (letter : ℕ) where
  -- where they are no digits, no line looks at them
  unspelt : (n : ℕ) (a b : List ℕ) → lettered_by d line letter n false a ≡ lettered_by d line letter n false b
  unfolding lettered_by
  unspelt n a b =
      rw (and_right (eqb letter 0x4D) false refl, and_right (eqb letter 0x41 && eqb n 66) false refl, and_right (eqb letter 0x4E && eqb n 40) false refl, and_right (eqb letter 0x43 && leb 2 n) false refl) (unfold pick in refl)

  module _ (rest bytes after : List ℕ) (size n : ℕ) (few : length rest ≤ 1024) (room : 512 ≤ length bytes) (ln : n ≡ length rest)
      (s : Shows (take (length bytes) (leading rest)) bytes after size) where
    pub spelt_size : (size ≤ 512) × (size ≡ length (part after 0 size))
    spelt_size =
        let t = spelt_there rest bytes after size (omega arith) s in
        let m = leading_most rest in
        (omega (arith, t.1), t.1 ∙ ap length (sym t.0))

    pub lettered_by_lem : lettered_by d line letter n (eqb (2 * size) n) (part after 0 size) ≡ lettered d line letter rest
    unfolding lettered
    lettered_by_lem =
        let t = spelt_there rest bytes after size (omega (arith, few, room)) s in
        ap (λ (m : ℕ). lettered_by d line letter m (eqb (2 * size) m) (part after 0 size)) ln
        ∙ said_by (lettered_by d line letter (length rest)) (unspelt (length rest)) rest (part after 0 size) size t.0 t.1

-- a line of digits
pub digits_by : (line bytes after : List ℕ) (size : ℕ) → length line ≤ 1024 → 512 ≤ length bytes → Shows (take (length bytes) (leading line)) bytes after size
    → (is_hex line ≡ eqb (2 * size) (length line)) × (is_hex line ≡ true → part after 0 size ≡ spelt line) × (size ≤ 512)
digits_by line bytes after size few room s =
    let t = spelt_there line bytes after size (omega arith) s in
    let m = leading_most line in
    (sym (ap (λ (n : ℕ). eqb (2 * n) (length line)) t.1 ∙ hex_test line), λ e. t.0 ∙ leading_all line e, omega (arith, t.1))

-- which kind of line it is
module _ (d : Draft) (line : List ℕ) where
  pub by_long : 1024 < length line → unread d ≡ drafted d line
  unfolding drafted
  by_long h = sym (picked _ _ (lt-ltb _ _ h))

  module _ (h : length line ≤ 1024) where
    pub by_none : length line ≡ 0 → unchanged (over d) line ≡ drafted d line
    unfolding drafted
    by_none z = sym (passed _ _ (le-ltb _ _ h) ∙ picked _ _ (eq-eqb _ _ z))

    module _ (k : length line ≡ 0 → ⊥) where
      pub by_digits : is_hex line ≡ true → unchanged (sent d (spelt line)) line ≡ drafted d line
      unfolding drafted
      by_digits e = sym (passed _ _ (le-ltb _ _ h) ∙ (passed _ _ (ne_eqb _ _ k) ∙ picked _ _ e))

      pub by_letter : is_hex line ≡ false → lettered d line (get_or line 0 0) (part line 1 (length line)) ≡ drafted d line
      unfolding drafted
      by_letter e = sym (passed _ _ (le-ltb _ _ h) ∙ (passed _ _ (ne_eqb _ _ k) ∙ passed _ _ e))
