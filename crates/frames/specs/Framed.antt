-- A frame made of an INS and a data field passes places 1 to 4, and both are read out of it.
use Rattle.std.specs.Prelude.{ℕ, suc, ◌+◌, ◌-◌, ◌≤◌, ◌<◌, List, [], ◌∷◌, ◌++◌, ◌≡◌, leb, length, get_or, take}
use Rattle.std.proofs.Math.Bool.{false, not}
use Rattle.std.proofs.Math.Path.{refl, ap}
use Rattle.std.proofs.Common.{sym, ◌∙◌, arith, length-append, take_at, length-take-le, get_or-take}
use borrow.Author.Tests.{eq-eqb, ne_eqb, le-ltb, eqb-true, not-false, ltb-false}
use Rattle.std.proofs.Math.Dec.{eqb}
use Rattle.std.proofs.lemmas.List.{get_or_at}
use Rattle.tables.specs.Choice.{or_none, and_right, or_no}
use Rattle.wire.specs.Listed.{spread}
use Rattle.frames.specs.Frame.{ins_of, data_of, framed, wrong_size, wrong_class, wrong_parameters, wrong_frame}

module _ (i : ℕ) (d : List ℕ) where
  pub framed_length : length (framed i d) ≡ length d + 6
  framed_length = let l = length-append d (0x00 ∷ []) in omega arith

  pub framed_data : data_of (framed i d) ≡ d
  framed_data =
      let l = framed_length in
      let n : length (framed i d) - 1 - 5 ≡ length d = omega arith in
      ap (λ (m : ℕ). take m (d ++ 0x00 ∷ [])) n ∙ take_at d (0x00 ∷ []) (length d) refl

  pub last : get_or (framed i d) (length (framed i d) - 1) 0 ≡ 0
  last =
      let l = framed_length in
      let n : length (framed i d) - 1 ≡ suc (suc (suc (suc (suc (length d))))) = omega arith in
      ap (λ (m : ℕ). get_or (framed i d) m 0) n ∙ get_or_at d 0x00 [] 0 (length d) refl

  module _ (h : 1 ≤ length d) (k : length d ≤ 255) where
    pub framed_size : wrong_size (framed i d) ≡ false
    unfolding wrong_size
    framed_size = let l = framed_length in or_none _ _ (le-ltb (length (framed i d)) 5 (omega arith)) (le-ltb 261 (length (framed i d)) (omega arith))

    pub framed_class : wrong_class (framed i d) ≡ false
    unfolding wrong_class
    framed_class = refl

    pub framed_parameters : wrong_parameters (framed i d) ≡ false
    unfolding wrong_parameters
    framed_parameters = refl

    pub framed_frame : wrong_frame (framed i d) ≡ false
    unfolding wrong_frame
    framed_frame =
        let l = framed_length in
        let lc : eqb (length d) 0 ≡ false = ne_eqb (length d) 0 (λ e. omega arith) in
        let both : not (eqb (length d + 6) (length (framed i d))) ≡ false = ap not (eq-eqb (length d + 6) (length (framed i d)) (sym l)) in
        or_none _ _ (and_right (leb 6 (length (framed i d))) _ (or_none _ _ lc both)) (ap not (eq-eqb _ 0 last))

-- the header of a frame that passes places 1 to 4
pub header : (f : List ℕ) → wrong_size f ≡ false → wrong_class f ≡ false → wrong_parameters f ≡ false → take 4 f ≡ 0x90 ∷ ins_of f ∷ 0x00 ∷ 0x00 ∷ []
unfolding wrong_size wrong_class wrong_parameters
header f z c p =
    let s = ltb-false (length f) 5 (or_no _ _ z).0 in
    let q = or_no (not (eqb (get_or f 2 0) 0)) _ p in
    let e : (n : ℕ) → n < 4 → get_or (take 4 f) n 0 ≡ get_or f n 0 = λ n h. get_or-take 4 f n 0 h in
    let w = spread 4 (take 4 f) (length-take-le 4 f (omega arith)) in
    w ∙ (λ j. (e 0 (omega arith) ∙ eqb-true _ _ (not-false _ c)) j ∷ e 1 (omega arith) j ∷ (e 2 (omega arith) ∙ eqb-true _ _ (not-false _ q.0)) j ∷ (e 3 (omega arith) ∙ eqb-true _ _ (not-false _ q.1)) j ∷ [])
