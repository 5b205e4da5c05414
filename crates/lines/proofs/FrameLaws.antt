-- Laws of a frame at the front of a text, found by spelling the digits there.
use Prim.Native.Nat.{ℕ, zero, suc, ◌+◌, ◌-◌, ◌*◌, ◌%◌, ◌≤◌, ◌<◌}
use Rattle.std.specs.Prelude.{Bool, ◌&&◌, ◌||◌, ◌≡◌, eqb, leb, ltb, drop}
use Rattle.std.proofs.Math.Bool.{true, false}
use Rattle.std.proofs.Common.{true≢false, ◌∙◌, drop_of_length-le, get_or-drop, add-zero}
use mathlib.Core.List.{List, [], ◌∷◌, ◌++◌}
use Rattle.std.proofs.Math.Path.{refl, sym, ap}
use borrow.Author.Tests.{lt-ltb, le-leb, ne_eqb, eq-eqb, leb-true, ltb-true, eqb-true}
use Rattle.std.proofs.Math.ListN.{length, take, get_or, length-take, length-drop}
use Rattle.std.proofs.Math.Nat.{sub-zero}
use native.Mathlib.Omega.{arith}
use Rattle.tables.specs.Choice.{pick, picked, passed, and_both, and_yes}
use Rattle.wire.specs.Bytes.{part, laid, Shows}
use Rattle.wire.proofs.Laws.{laid_none, shows_front}
use Rattle.text.specs.Hex.{digit_of, all_digits, is_hex, spelt, leading}
use Rattle.text.specs.Laws.{leading_most, leading_part, leading_stop, length_spelt}
use Rattle.lines.specs.Lines.{line_length}
use Rattle.lines.specs.Frames.{longest_frame, longest_line, is_frame, frame_in, is_chained, tried}
use Rattle.lines.proofs.Laws.{line_ends, length_most, length_stop}
use Rattle.lines.specs.FrameLaws.{Frame}

end_no_digit : 16 ≤ digit_of 0x0A
unfolding digit_of pick
end_no_digit = omega arith

not_end : (c : ℕ) → ltb (digit_of c) 16 ≡ true → c ≡ 0x0A → ⊥
not_end c t e = let h = ltb-true (digit_of c) 16 t in omega (arith, end_no_digit, ap digit_of e)

hex_even : (l : List ℕ) → is_hex l ≡ true → (length l % 2 ≡ 0) × (all_digits l ≡ true)
unfolding is_hex
hex_even l h = let a = and_yes (eqb (length l % 2) 0) (all_digits l) h in (eqb-true _ _ a.0, a.1)

-- digits end no line
digits_length : (x y : List ℕ) → all_digits x ≡ true → line_length (x ++ 0x0A ∷ y) ≡ length x
unfolding all_digits line_length
digits_length [] y h = picked _ _ (eq-eqb 0x0A 0x0A refl)
digits_length (c ∷ cs) y h =
    let d = and_yes (ltb (digit_of c) 16) (all_digits cs) h in
    passed _ _ (ne_eqb c 0x0A (not_end c d.0)) ∙ ap suc (digits_length cs y d.1)

frame_is : (l : List ℕ) → is_frame l ≡ true → (0 < length l) × (length l ≤ longest_line) × (is_hex l ≡ true)
unfolding is_frame
frame_is l e =
    let a = and_yes (ltb 0 (length l) && leb (length l) longest_line) (is_hex l) e in
    let b = and_yes (ltb 0 (length l)) (leb (length l) longest_line) a.0 in
    (ltb-true _ _ b.0, leb-true _ _ b.1, a.1)

is_frame_lem : (l : List ℕ) → 0 < length l → length l ≤ longest_line → is_hex l ≡ true → is_frame l ≡ true
unfolding is_frame
is_frame_lem l h k e = and_both _ _ (and_both _ _ (lt-ltb _ _ h) (le-leb _ _ k)) e

-- LF at place i parts a text in two
split_at : (s : List ℕ) (i : ℕ) → get_or s i 0 ≡ 0x0A → (i < length s) × (s ≡ take i s ++ 0x0A ∷ drop (suc i) s)
split_at [] i e = absurd (omega arith)
split_at (c ∷ s) zero e = (omega arith, ap (λ (x : ℕ). x ∷ s) e)
split_at (c ∷ s) (suc i) e = let r = split_at s i e in (omega (arith, r.0), ap (λ (l : List ℕ). c ∷ l) r.1)

-- ---- the frame that was spelt

pub frame_past : (t : List ℕ) (at : ℕ) → length t ≤ at → [] ≡ frame_in (drop at t)
unfolding frame_in line_length pick
frame_past t at h = rw (drop_of_length-le t {i = at} h)

-- a line with an odd number of characters
pub frame_odd : (s : List ℕ) → line_length s % 2 ≡ 1 → [] ≡ frame_in s
unfolding frame_in
frame_odd s o = by (ltb (line_length s) (length s) && is_frame (take (line_length s) s)) refl
  where
    by : (b : Bool) → (ltb (line_length s) (length s) && is_frame (take (line_length s) s)) ≡ b → [] ≡ pick b (spelt (take (line_length s) s)) []
    by false e = unfold pick in refl
    by true e =
        let a = and_yes (ltb (line_length s) (length s)) (is_frame (take (line_length s) s)) e in
        let v = (hex_even (take (line_length s) s) (frame_is _ a.1).2).0 in
        let n : length (take (line_length s) s) ≡ line_length s = omega (arith, length-take (line_length s) s, length_most s) in
        absurd (omega (arith, ap (λ (k : ℕ). k % 2) n))

-- ---- a line of a chain, by its first character and its end e

module _ (t : List ℕ) (at : ℕ) {b : ℕ} (g : b ≡ get_or t at 0) where
  begins : (eqb b 0x43 || eqb b 0x44) ≡ (eqb (get_or (drop at t) 0 0) 0x43 || eqb (get_or (drop at t) 0 0) 0x44)
  begins = ap (λ (c : ℕ). eqb c 0x43 || eqb c 0x44) (g ∙ (ap (λ (i : ℕ). get_or t i 0) (sym (add-zero at)) ∙ sym (get_or-drop at t 0 0)))

  pub chained_odd : {e : ℕ} → (eqb b 0x43 || eqb b 0x44) ≡ true → e ≡ at + line_length (drop at t) → eqb ((e - at) % 2) 1 ≡ is_chained (drop at t)
  unfolding is_chained
  chained_odd {e = e} y h =
      let n : e - at ≡ line_length (drop at t) = omega arith in
      rw (n, sym begins, y) refl

  pub chained_not : (eqb b 0x43 || eqb b 0x44) ≡ false → false ≡ is_chained (drop at t)
  unfolding is_chained
  chained_not y = rw (sym begins, y) refl

pub frame_chained : (s : List ℕ) → is_chained s ≡ true → [] ≡ frame_in s
unfolding is_chained
frame_chained s e = frame_odd s (eqb-true _ _ (and_yes (eqb (get_or s 0 0) 0x43 || eqb (get_or s 0 0) 0x44) (eqb (line_length s % 2) 1) e).1)

-- nothing is spelt of it, nor past the end
pub tried_chained : (s buf : List ℕ) → is_chained s ≡ true → buf ≡ laid buf 0 (tried s)
unfolding tried
tried_chained s buf e = laid_none buf ∙ ap (laid buf 0) (sym (picked [] (take longest_frame (leading s)) e))

pub tried_past : (t buf : List ℕ) (at : ℕ) → length t ≤ at → buf ≡ laid buf 0 (tried (drop at t))
unfolding tried is_chained leading pick
tried_past t buf at h = rw (drop_of_length-le t {i = at} h) (laid_none buf)

-- of the digits at the front of s, no more than a frame has were spelt
module _ (s frame after : List ℕ) (size : ℕ) (f : length frame ≡ longest_frame) (w : Shows (take (length frame) (leading s)) frame after size) where
  size_is : size ≡ length (take longest_frame (leading s))
  size_is = w.1 ∙ ap (λ n. length (take n (leading s))) f

  pub size_most : (size ≤ longest_frame) × (2 * size ≤ length s)
  size_most = let n = size_is ∙ length-take longest_frame (leading s) in let m = leading_most s in (omega arith, omega arith)

  bytes : part after 0 size ≡ take longest_frame (leading s)
  bytes = ap (λ n. take n after) (sub-zero size) ∙ (shows_front _ frame after size w ∙ ap (λ n. take n (leading s)) f)

  pub tried_all : false ≡ is_chained s → after ≡ laid frame 0 (tried s)
  unfolding tried
  tried_all n = w.0 ∙ ap (laid frame 0) (ap (λ n. take n (leading s)) f ∙ sym (passed [] (take longest_frame (leading s)) (sym n)))

  -- LF behind them
  pub frame_there : 0 < size → get_or s (2 * size) 0 ≡ 0x0A → (size ≡ length (frame_in s)) × (part after 0 size ≡ frame_in s)
  unfolding frame_in
  frame_there some g =
      let n = size_is ∙ length-take longest_frame (leading s) in
      let few : size ≤ length (leading s) = omega arith in
      let p = leading_part s size few in
      let c = split_at s (2 * size) g in
      let l = length-take (2 * size) s in
      let e : line_length s ≡ 2 * size = ap line_length c.1 ∙ (digits_length (take (2 * size) s) (drop (suc (2 * size)) s) (hex_even _ p.0).1 ∙ omega (arith, size_most.1)) in
      let q : (ltb (line_length s) (length s) && is_frame (take (line_length s) s)) ≡ true =
      rw e (and_both _ _ (lt-ltb _ _ c.0) (is_frame_lem _ (omega arith) (omega (arith, size_most.0)) p.0)) in
      let t : take size (leading s) ≡ take longest_frame (leading s) = ap (λ n. take n (leading s)) size_is ∙ take_taken longest_frame (leading s) in
      let r : pick (ltb (line_length s) (length s) && is_frame (take (line_length s) s)) (spelt (take (line_length s) s)) [] ≡ take longest_frame (leading s) =
      picked _ _ q ∙ (ap (λ i. spelt (take i s)) e ∙ (p.1 ∙ t)) in
      (size_is ∙ ap length (sym r), bytes ∙ sym r)
    where
      take_taken : (n : ℕ) (l : List ℕ) → take (length (take n l)) l ≡ take n l
      take_taken zero l = refl
      take_taken (suc n) [] = refl
      take_taken (suc n) (c ∷ l) = ap (λ x. c ∷ x) (take_taken n l)

  -- none
  pub frame_none : (ltb 0 size && eqb (get_or s (2 * size) 0) 0x0A) ≡ false → [] ≡ frame_in s
  unfolding frame_in
  frame_none y = by (ltb (line_length s) (length s) && is_frame (take (line_length s) s)) refl
    where
      by : (b : Bool) → (ltb (line_length s) (length s) && is_frame (take (line_length s) s)) ≡ b → [] ≡ pick b (spelt (take (line_length s) s)) []
      by false e = unfold pick in refl
      by true e =
          let l = take (line_length s) s in
          let a = and_yes (ltb (line_length s) (length s)) (is_frame l) e in
          let h = ltb-true _ _ a.0 in
          let p = frame_is l a.1 in
          let g = length_stop s h in
          let c = split_at s (line_length s) g in
          let m = ap leading c.1 ∙ leading_stop l 0x0A (drop (suc (line_length s)) s) end_no_digit p.2 in
          let n = size_is ∙ (ap (λ x. length (take longest_frame x)) m ∙ length-take longest_frame (spelt l)) in
          let z = length_spelt l in
          let i = length-take (line_length s) s in
          let v = (hex_even l p.2).0 in
          let k : 2 * size ≡ line_length s = omega (arith, p.1, length_most s) in
          let u = and_both _ _ (lt-ltb 0 size (omega (arith, p.0))) (eq-eqb _ _ (ap (λ i. get_or s i 0) k ∙ g)) in
          absurd (true≢false (sym u ∙ y))

-- ---- the line of a frame, and of none

module _ (t : List ℕ) (at r : ℕ) (h : at ≤ length t) (q : r ≡ length (frame_in (drop at t))) where
  abbrev first : List ℕ
  first = take (line_length (drop at t)) (drop at t)

  abbrev whole : Bool
  whole = ltb (line_length (drop at t)) (length (drop at t)) && is_frame first

  -- so many bytes: the line is a frame
  module _ (p : 0 < r) where
    is : whole ≡ true
    unfolding frame_in
    is = by whole refl
      where
        by : (b : Bool) → whole ≡ b → b ≡ true
        by true e = refl
        by false e = absurd (omega (arith, q ∙ ap length (passed (spelt first) [] e)))

    pub frame_line : Frame t at r
    unfolding frame_in
    frame_line =
        let a = and_yes (ltb (line_length (drop at t)) (length (drop at t))) (is_frame first) is in
        let b = ltb-true (line_length (drop at t)) (length (drop at t)) a.0 in
        let f = frame_is first a.1 in
        let d = length-drop at t in
        let i = length-take (line_length (drop at t)) (drop at t) in
        let z = q ∙ (ap length (picked (spelt first) [] is) ∙ length_spelt first) in
        let v = (hex_even first f.2).0 in
        let e : at + 2 * r ≡ at + line_length (drop at t) = omega (arith, b) in
        let n : at + 2 * r - at ≡ line_length (drop at t) = omega arith in
        let l = line_ends t at h e in
        (l.0, omega (arith, b), rw n a.1, rw n (sym (picked (spelt first) [] is)), omega (arith, f.1))

  -- none: a line that ends is no frame
  pub no_frame : r ≡ 0 → (e : ℕ) → e ≡ at + line_length (drop at t) → e < length t → is_frame (part t at e) ≡ false
  unfolding frame_in
  no_frame z e g b = rw n (by (is_frame first) refl)
    where
      n : e - at ≡ line_length (drop at t)
      n = omega arith

      by : (v : Bool) → is_frame first ≡ v → v ≡ false
      by false x = refl
      by true x =
          let d = length-drop at t in
          let f = frame_is first x in
          let i = length-take (line_length (drop at t)) (drop at t) in
          let y = q ∙ ap length (picked (spelt first) [] (and_both _ _ (lt-ltb (line_length (drop at t)) (length (drop at t)) (omega arith)) x)) in
          let v = (hex_even first f.2).0 in
          absurd (omega (arith, length_spelt first, f.0))
