-- Laws of the first line of a text, of a line put where there is room, and of how far a run comes.
use Rattle.std.specs.Prelude.{ℕ, zero, suc, ◌+◌, ◌-◌, ◌*◌, ◌≤◌, ◌<◌, Bool, true, ◌≡◌, refl, eqb, leb, ltb, length, drop, get_or}
use Rattle.std.proofs.Math.Bool.{false}
use Rattle.std.specs.Prelude.{Option, Some, None}
use Rattle.std.specs.Option.{unwrap_or}
use Rattle.memchr.specs.Find.{IsFirstByte, is_byte}
use mathlib.Core.List.{List, [], ◌∷◌, ◌++◌, append-nil, append_assoc}
use Rattle.std.proofs.Math.Path.{sym, ap}
use Rattle.std.proofs.Common.{◌∙◌, length-append, length-drop, drop_of_length-le, drop-drop, take_all, add-zero, arith}
use borrow.Author.Tests.{eq-eqb, ne_eqb, eqb-true, leb-true, leb-false, ltb-true, ltb-false, lt-ltb, le-ltb}
use Rattle.std.proofs.Math.ListN.{take}
use Rattle.tables.specs.Choice.{pick, picked, passed, pick_cases}
use Rattle.wire.specs.Bytes.{part, laid, laid_in, Shows}
use Rattle.wire.proofs.Laws.{length_laid, shows_there}
use Rattle.text.specs.Hex.{is_hex, spelt, leading}
use Rattle.text.specs.Laws.{room_yes, room_no, leading_most, leading_all, hex_test}
use Rattle.text.specs.Shown.{in_room, Adds}
use Rattle.text.specs.Adds.{adds_none, adds_then, adds_room}
use Rattle.lines.specs.Lines.{line_length, lines_after, Said, stopped, ahead, went, Goes}
use Rattle.lines.specs.Laws.{Ends, Lines, Within}

-- ---- the first line

-- past the end
pub length_none : (t : List ℕ) (i : ℕ) → length t ≤ i → line_length (drop i t) ≡ 0
unfolding line_length
length_none t i h = rw (drop_of_length-le t {i = i} h)

-- the place of the first LF, or the length where there is none
pub length_first : (s : List ℕ) (n : ℕ) → n ≤ length s → ((k : ℕ) → k < n → get_or s k 0 ≡ 0x0A → ⊥) → (n < length s → get_or s n 0 ≡ 0x0A) → line_length s ≡ n
unfolding line_length
length_first [] n h before at = omega (arith, h)
length_first (c ∷ cs) zero h before at = picked _ _ (eq-eqb c 0x0A (at (omega arith)))
length_first (c ∷ cs) (suc n) h before at =
    passed _ _ (ne_eqb c 0x0A (before 0 (omega arith)))
    ∙ ap suc (length_first cs n (omega (arith, h)) (λ k q. before (suc k) (omega (arith, q))) (λ q. at (omega (arith, q))))

-- where a search for LF finds it, or else the length
pub length_searched : (s : List ℕ) (found : Option ℕ) → IsFirstByte (is_byte 0x0A) s found → line_length s ≡ unwrap_or found (length s)
length_searched s (Some n) f =
    length_first s n (omega (arith, f.0.high)) (λ k q e. f.0.before k (omega arith) q (eq-eqb _ _ e)) (λ q. eqb-true _ _ f.1)
length_searched s None f =
    length_first s (length s) (omega arith) (λ k q e. f k (omega arith) q (eq-eqb _ _ e)) (λ q. absurd (omega (arith, q)))

pub length_most : (s : List ℕ) → line_length s ≤ length s
unfolding line_length
length_most [] = omega arith
length_most (c ∷ cs) = pick_cases (λ (n : ℕ). n ≤ suc (length cs)) (eqb c 0x0A) 0 (suc (line_length cs)) (λ e. omega arith) (λ e. omega (arith, length_most cs))

-- two numbers compare as do the same with as much added
both_more : (at l n : ℕ) {p m : ℕ} → p ≡ at + l → m ≡ at + n → ltb l n ≡ ltb p m
both_more at l n {p} {m} e f = sym (by (ltb l n) refl)
  where
    by : (b : Bool) → ltb l n ≡ b → ltb p m ≡ b
    by true q = let k = ltb-true l n q in lt-ltb p m (omega arith)
    by false q = let k = ltb-false l n q in le-ltb p m (omega arith)

one_more : (l n : ℕ) → ltb l n ≡ ltb (suc l) (suc n)
one_more l n = both_more 1 l n {p = suc l} {m = suc n} (omega arith) (omega arith)

-- no line where no LF follows, else the first and those behind it
lines_first : (held s : List ℕ) → lines_after held s ≡ pick (ltb (line_length s) (length s)) ((held ++ take (line_length s) s) ∷ lines_after [] (drop (suc (line_length s)) s)) []
unfolding lines_after line_length
lines_first held [] = sym (passed _ _ (le-ltb 0 0 (omega arith)))
lines_first held (c ∷ cs) = by (eqb c 0x0A) (lines_first (held ++ c ∷ []) cs)
  where
    by : (b : Bool)
        → lines_after (held ++ c ∷ []) cs ≡ pick (ltb (line_length cs) (length cs)) (((held ++ c ∷ []) ++ take (line_length cs) cs) ∷ lines_after [] (drop (suc (line_length cs)) cs)) []
        → pick b (held ∷ lines_after [] cs) (lines_after (held ++ c ∷ []) cs)
        ≡ pick (ltb (pick b 0 (suc (line_length cs))) (suc (length cs)))
        ((held ++ take (pick b 0 (suc (line_length cs))) (c ∷ cs)) ∷ lines_after [] (drop (suc (pick b 0 (suc (line_length cs)))) (c ∷ cs)))
        []
    by true e = unfold pick in sym (picked _ _ (lt-ltb 0 (suc (length cs)) (omega arith)) ∙ ap (λ (l : List ℕ). l ∷ lines_after [] cs) (append-nil held))
    by false e =
        unfold pick in
        e
        ∙ ap (λ (l : List ℕ). pick (ltb (line_length cs) (length cs)) (l ∷ lines_after [] (drop (suc (line_length cs)) cs)) []) (append_assoc held (c ∷ []) (take (line_length cs) cs))
        ∙ ap (λ (b : Bool). pick b ((held ++ c ∷ take (line_length cs) cs) ∷ lines_after [] (drop (suc (line_length cs)) cs)) []) (one_more (line_length cs) (length cs))

lines_at : (t : List ℕ) (at : ℕ) → at ≤ length t → Lines t at (at + line_length (drop at t))
lines_at t at h =
    let l = line_length (drop at t) in
    let n : l ≡ at + l - at = omega arith in
    let m : at + suc l ≡ at + l + 1 = omega arith in
    let d = length-drop at t in
    let q = both_more at l (length (drop at t)) {p = at + l} {m = length t} refl (omega arith) in
    let r : drop (suc l) (drop at t) ≡ drop (at + l + 1) t = drop-drop (suc l) at t ∙ ap (λ (i : ℕ). drop i t) m in
    lines_first [] (drop at t) ∙ (λ i. pick (q i) (take (n i) (drop at t) ∷ lines_after [] (r i)) [])

-- where the first line has an end, LF stands there
pub length_stop : (s : List ℕ) → line_length s < length s → get_or s (line_length s) 0 ≡ 0x0A
unfolding line_length
length_stop [] h = absurd (omega arith)
length_stop (c ∷ cs) h = by (eqb c 0x0A) refl h (λ k. length_stop cs k)
  where
    by : (b : Bool) → eqb c 0x0A ≡ b → pick b 0 (suc (line_length cs)) < suc (length cs) → (line_length cs < length cs → get_or cs (line_length cs) 0 ≡ 0x0A)
        → get_or (c ∷ cs) (pick b 0 (suc (line_length cs))) 0 ≡ 0x0A
    by true e k r = unfold pick in eqb-true c 0x0A e
    by false e k r = unfold pick in r (omega arith)

pub line_ends : (t : List ℕ) (at : ℕ) {e : ℕ} → at ≤ length t → e ≡ at + line_length (drop at t) → Ends t at e
line_ends t at h q =
    let m = length_most (drop at t) in
    let l = length-drop at t in
    rw q (lines_at t at h, omega arith, omega arith)

pub lines_none : (held t : List ℕ) (i : ℕ) → length t ≤ i → lines_after held (drop i t) ≡ []
unfolding lines_after
lines_none held t i h = rw (drop_of_length-le t {i = i} h)

-- ---- one line written

-- a line y and its LF, put behind place n of b where they fit
module _ (y b : List ℕ) (n : ℕ) where
  size : length (y ++ 0x0A ∷ []) ≡ length y + 1
  size = length-append y (0x0A ∷ [])

  pub put_short : length b - n ≤ length y → Adds (in_room (length b - n) (y ++ 0x0A ∷ [])) b n b n
  put_short h = rw (room_no (length b - n) (y ++ 0x0A ∷ []) (omega (arith, size))) (adds_none b n)

  pub put_all : (m e : List ℕ) → length y < length b - n → m ≡ laid_in b n y → e ≡ laid_in m (n + length y) (0x0A ∷ [])
      → Adds (in_room (length b - n) (y ++ 0x0A ∷ [])) b n e (n + length y + 1)
  put_all m e h p q =
      let a = adds_room y b n (omega arith) p in
      let g : length m ≡ length b = ap length a.0 ∙ length_laid b n y (omega arith) in
      rw (room_yes (length b - n) (y ++ 0x0A ∷ []) (omega (arith, size))) (adds_then y (0x0A ∷ []) b n a (adds_room (0x0A ∷ []) m (n + length y) (omega arith) q))

  -- m is the place behind them: whether they fit
  module _ (x : List ℕ) (m : ℕ) (a : Adds (in_room (length b - n) (y ++ 0x0A ∷ [])) b n x m) where
    pub put_none : m ≡ n → (length b - n ≤ length y) × (x ≡ b)
    put_none q = by (leb (length (y ++ 0x0A ∷ [])) (length b - n)) refl
      where
        by : (f : Bool) → leb (length (y ++ 0x0A ∷ [])) (length b - n) ≡ f → (length b - n ≤ length y) × (x ≡ b)
        by true f = let g = room_yes (length b - n) (y ++ 0x0A ∷ []) (leb-true _ _ f) in absurd (omega (arith, a.1, ap length g, size))
        by false f =
            let h = leb-false (length (y ++ 0x0A ∷ [])) (length b - n) f in
            (omega (arith, size), a.0 ∙ (ap (laid b n) (room_no (length b - n) (y ++ 0x0A ∷ []) h) ∙ sym (adds_none b n).0))

    pub put_some : (m ≡ n → ⊥) → (length y < length b - n) × Adds (y ++ 0x0A ∷ []) b n x m
    put_some q = by (leb (length (y ++ 0x0A ∷ [])) (length b - n)) refl
      where
        by : (f : Bool) → leb (length (y ++ 0x0A ∷ [])) (length b - n) ≡ f → (length y < length b - n) × Adds (y ++ 0x0A ∷ []) b n x m
        by true f =
            let h = leb-true (length (y ++ 0x0A ∷ [])) (length b - n) f in
            (omega (arith, size), rw (room_yes (length b - n) (y ++ 0x0A ∷ []) h) at a)
        by false f = let g = room_no (length b - n) (y ++ 0x0A ∷ []) (leb-false _ _ f) in absurd (q (a.1 ∙ (ap (λ (l : List ℕ). n + length l) g ∙ add-zero n)))

-- ---- the bytes of a line's leading digits

pub spelt_there : (s bytes after : List ℕ) (n : ℕ) → length s ≤ 2 * length bytes → Shows (take (length bytes) (leading s)) bytes after n
    → (part after 0 n ≡ leading s) × (n ≡ length (leading s)) × (n ≤ length after)
spelt_there s bytes after n k w =
    let m = leading_most s in
    let e : take (length bytes) (leading s) ≡ leading s = take_all (length bytes) (leading s) (omega arith) in
    let q : n ≡ length (leading s) = w.1 ∙ ap length e in
    let z : length after ≡ length bytes = ap length (w.0 ∙ ap (laid bytes 0) e) ∙ length_laid bytes 0 (leading s) (omega arith) in
    (shows_there _ bytes after n w ∙ e, q, omega arith)

-- what is said of a line by the n bytes b of its leading digits, where nothing looks at them unless all of it is digits
pub said_by : {A : Type 0} (F : Bool → List ℕ → A) → ((x y : List ℕ) → F false x ≡ F false y) → (s b : List ℕ) (n : ℕ) → b ≡ leading s → n ≡ length (leading s)
    → F (eqb (2 * n) (length s)) b ≡ F (is_hex s) (pick (is_hex s) (spelt s) [])
said_by F blind s b n e l = (λ i. F (eqb (2 * l i) (length s)) (e i)) ∙ (ap (λ (h : Bool). F h (leading s)) (hex_test s) ∙ by (is_hex s) refl)
  where
    by : (h : Bool) → is_hex s ≡ h → F h (leading s) ≡ F h (pick h (spelt s) [])
    by true q = unfold pick in ap (F true) (leading_all s q)
    by false q = blind (leading s) (pick false (spelt s) [])

-- ---- how far a run comes

went_within : {S : Type 0} (said : S → List ℕ → Said S) (k : S) (held t : List ℕ) (room : ℕ) → Within (length held + length t) room (went said k (lines_after held t) room)
unfolding went lines_after stopped ahead
went_within said k held [] room = (omega arith, omega arith)
went_within said k held (c ∷ cs) room =
    let o = (said k held).out in
    let d = (said k held).next in
    let left = room - (length o + 1) in
    let i = went_within said d [] cs left in
    let j = went_within said k (held ++ c ∷ []) cs room in
    let W = Within (length held + length (c ∷ cs)) room in
    pick_cases (λ (ls : List (List ℕ)). W (went said k ls room)) (eqb c 0x0A) (held ∷ lines_after [] cs) (lines_after (held ++ c ∷ []) cs)
    (λ e.
    pick_cases W (ltb room (length o + 1)) (stopped k) (ahead (length held) (o ++ 0x0A ∷ []) (went said d (lines_after [] cs) left)) (λ f. (omega arith, omega arith))
    (λ f. (omega arith, simp length-append (omega (arith, ltb-false room (length o + 1) f)))))
    (λ e. (omega (arith, length-append held (c ∷ [])), j.1))

pub goes_within : {S : Type 0} (said : S → List ℕ → Said S) (k : S) (t b x : List ℕ) (s : S) (read written : ℕ) → Goes (went said k (lines_after [] t) (length b)) b x s read written
    → (read ≤ length t) × (written ≤ length b)
goes_within said k t b x s read written g = let i = went_within said k [] t (length b) in (omega (arith, g.1), omega (arith, g.2))
