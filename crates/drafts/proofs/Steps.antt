-- What is held and written after each kind of line, from what each step left.
use Prim.Native.Nat.{ℕ, ◌+◌, ◌-◌, ◌≤◌}
use mathlib.Core.Bool.{Bool, true, false, ◌&&◌}
use mathlib.Core.List.{List, [], ◌∷◌, ◌++◌}
use mathlib.Core.Path.{◌≡◌, refl, sym, ap, subst, ◌∙◌}
use lib.ListN.{length, get_or, take, drop}
use native.Mathlib.Nat.{zero-add}
use native.Mathlib.Omega.{arith}
use Rattle.tables.specs.Choice.{pick, picked, passed, and_both, and_left, and_right}
use Rattle.wire.specs.Bytes.{part, laid_in, Shows}
use Rattle.wire.proofs.Laws.{length_part, length_laid, laid_room, shows_as, shows_there}
use Rattle.text.specs.Hex.{in_digits}
use Rattle.text.specs.Shown.{digits_in, Adds}
use Rattle.text.specs.Laws.{length_digits, digits_shown}
use Rattle.text.specs.Adds.{adds_then, adds_behind}
use Rattle.till.specs.Till.{first_frame, second_part, second_frame, sealed, sealable, sealed_in}
use Rattle.frames.specs.Laws.{length_data}
use Rattle.till.specs.Laws.{length_sealed, sealable_yes, in_room_lem}
use Rattle.lines.specs.Lines.{Said}
use Rattle.held.specs.declared.Draft.{Draft}
use Rattle.drafts.specs.declared.Step.{Step}
use Rattle.held.specs.Held.{counted}
use Rattle.opening.specs.Opening.{opened}
use Rattle.drafts.specs.Drafts.{authenticated, unread, maced, Writes}

pub writes_as : {o p : Said Draft} (b after : List ℕ) (r : Step) → o ≡ p → Writes o b after r → Writes p b after r
writes_as b after r e w = subst (λ (x : Said Draft). Writes x b after r) e w

-- ---- two frames, a line each

module _ (f s b : List ℕ) (lf : length f ≡ 8) (ls : length s ≡ 38) (h : 1024 ≤ length b) where
  module _ (m : List ℕ) (n : ℕ) (w : Shows (digits_in (length b) f) b m n) where
    first_shown_lem : Shows (in_digits f) b m n
    first_shown_lem = shows_as _ _ b m n (digits_shown (length b) f (omega arith)) w

    pub first_size : (n ≡ 16) × (length m ≡ length b)
    first_size =
        let l = length_digits f in
        (omega (arith, first_shown_lem.1), ap length first_shown_lem.0 ∙ length_laid b 0 (in_digits f) (omega arith))

    module _ (e : List ℕ) (q : e ≡ laid_in m n (0x0A ∷ [])) where
      end_added : Adds (0x0A ∷ []) m n e (n + 1)
      end_added = (q ∙ laid_room m n (0x0A ∷ []) (omega (arith, first_size.0, first_size.1)), refl)

      pub end_size : length e ≡ length b
      end_size = ap length end_added.0 ∙ (length_laid m n (0x0A ∷ []) (omega (arith, first_size.0, first_size.1)) ∙ first_size.1)

      module _ (after : List ℕ) (k : ℕ) (v : Shows (digits_in (length (part e (n + 1) (length e))) s) (part e (n + 1) (length e)) after k) where
        second_shown_lem : Shows (in_digits s) (part e (n + 1) (length e)) after k
        second_shown_lem =
            let l = length_part e (n + 1) (length e) (omega arith) in
            shows_as _ _ _ after k (digits_shown (length (part e (n + 1) (length e))) s (omega (arith, first_size.0, end_size))) v

        pub second_size : k ≡ 76
        second_size = let l = length_digits s in omega (arith, second_shown_lem.1)

        pub two_shown : Shows (in_digits f ++ 0x0A ∷ in_digits s) b (take (n + 1) e ++ (after ++ drop (length e - (n + 1)) (drop (n + 1) e))) (n + 1 + k)
        two_shown =
            let a = adds_behind (in_digits s) e after (n + 1) k (omega (arith, first_size.0, end_size)) second_shown_lem in
            let t = adds_then (in_digits f) (0x0A ∷ in_digits s) b 0 (first_shown_lem.0, first_shown_lem.1 ∙ sym (zero-add _)) (adds_then (0x0A ∷ []) (in_digits s) m n end_added a) in
            (t.0, t.1 ∙ zero-add _)

-- both parts of an authentication
pub authenticated_by : (d : Draft) (b text : List ℕ) {k a f p s after : List ℕ} {number len : ℕ} {e : Draft} → k ≡ part b 1 17 → a ≡ part b 17 33 → number ≡ get_or b 0 0
    → f ≡ first_frame number [] → p ≡ second_part k a d.random → s ≡ second_frame p → e ≡ opened d k a → Shows (in_digits f ++ 0x0A ∷ in_digits s) text after len
    → Writes (authenticated d b) text after (record { draft = e; len = len })
unfolding authenticated
authenticated_by d b text {after = after} {len = len} ek ea en ef ep es eo w = rw (eo, ← ek, ← ea, ← en, ← ep, ← ef, ← es) (refl, w)

-- ---- a frame with its MAC

module _ (d : Draft) (f : List ℕ) where
  pub maced_none : d.held ≡ false → unread d ≡ maced d f
  unfolding maced
  maced_none e = sym (passed _ _ (and_left _ _ e))

  abbrev bytes : List ℕ
  bytes = sealed d.key d.ti d.counter f

  whole : sealable f ≡ true → (sealed_in 261 d.key d.ti d.counter f ≡ bytes) × (length bytes ≤ 261) × (14 ≤ length bytes)
  whole e =
      let y = sealable_yes f e in
      let l = length_data f in
      let z = length_sealed d.key d.ti d.counter f y.0 in
      (in_room_lem 261 d.key d.ti d.counter f e (omega (arith, y.1)), omega (arith, y.1), omega arith)

  module _ (w after : List ℕ) (n : ℕ) (s : Shows (sealed_in 261 d.key d.ti d.counter f) w after n) where
    none : sealable f ≡ false → n ≡ 0
    unfolding sealed_in
    none e = s.1 ∙ ap length (passed _ _ e)

    pub maced_zero : n ≡ 0 → unread d ≡ maced d f
    unfolding maced
    maced_zero z = by (sealable f) refl
      where
        by : (b : Bool) → sealable f ≡ b → unread d ≡ pick (d.held && sealable f) (record { next = counted d; out = in_digits bytes }) (unread d)
        by true e = absurd (omega (arith, s.1 ∙ ap length (whole e).0, (whole e).2))
        by false e = sym (passed _ _ (and_right d.held _ e))

    module _ (p : n ≡ 0 → ⊥) where
      yes : sealable f ≡ true
      yes = by (sealable f) refl
        where
          by : (b : Bool) → sealable f ≡ b → b ≡ true
          by true e = refl
          by false e = absurd (p (none e))

      there : part after 0 n ≡ bytes
      there = shows_there _ w after n s ∙ (whole yes).0

      pub maced_size : n ≤ 261
      maced_size = omega (arith, s.1 ∙ ap length (whole yes).0, (whole yes).1)

      pub maced_some : (c : Draft) (b text : List ℕ) (k : ℕ) → d.held ≡ true → c ≡ counted d → 1024 ≤ length b → Shows (digits_in (length b) (part after 0 n)) b text k
          → Writes (maced d f) b text (record { draft = c; len = k })
      unfolding maced
      maced_some c b text k e g h v =
          let t = digits_shown (length b) (part after 0 n) (omega (arith, ap length there, (whole yes).1)) in
          writes_as b text (record { draft = c; len = k }) (sym (picked (record { next = counted d; out = in_digits bytes }) (unread d) (and_both _ _ e yes))) (g, shows_as _ _ b text k (t ∙ ap in_digits there) v)
