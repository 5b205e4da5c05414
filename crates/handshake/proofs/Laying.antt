-- What the functions lay together, element by element.
use Prim.Native.Nat.{ℕ, ◌+◌}
use mathlib.Core.Bool.{Bool, not, ◌&&◌}
use mathlib.Core.List.{List, ◌++◌}
use mathlib.Core.Path.{◌≡◌, refl, sym, ap, ◌∙◌}
use borrow.Author.Tests.{eq-eqb}
use lib.Dec.{eqb}
use lib.ListN.{length, get_or, take, drop, replicate}
use lib.Seq.{get_or-drop}
use Rattle.tables.specs.Choice.{pick}
use Rattle.wire.specs.Bytes.{part, laid, laid_in, same}
use Rattle.wire.specs.Listed.{listed, by_elements, filled_listed}
use Rattle.handshake.specs.Handshake.{rotated, caps_of, fails, second_reply}
use Rattle.handshake.specs.Guarded.{pair_of, pair_whole, brought_in, reply_in}
use Rattle.cbc.specs.Cbc.{encrypted, decrypted}

pub rotates : (x : List ℕ) → length x ≡ 16 → drop 1 x ++ take 1 x ≡ rotated x
unfolding rotated
rotates = by_elements 16 (λ x. drop 1 x ++ take 1 x ≡ rotated x) (λ f. refl)

-- the two blocks of a list of thirty-two
pub first_block : (x : List ℕ) → length x ≡ 32 → listed 16 (λ i. get_or x i 0) ≡ take 16 x
first_block = by_elements 32 (λ x. listed 16 (λ i. get_or x i 0) ≡ take 16 x) (λ f. refl)

pub second_block : (x : List ℕ) → length x ≡ 32 → part x 16 32 ≡ drop 16 x
second_block = by_elements 32 (λ x. part x 16 32 ≡ drop 16 x) (λ f. refl)

abbrev reply_laid : List ℕ → List ℕ → List ℕ → List ℕ
reply_laid ti turned caps = laid_in (laid_in (laid_in (replicate 32 0) 0 ti) 4 turned) 26 caps

pub reply_laid_lem : (ti turned caps : List ℕ) → length ti ≡ 4 → length turned ≡ 16 → length caps ≡ 6 → reply_laid ti turned caps ≡ ti ++ turned ++ replicate 6 0 ++ caps
unfolding laid_in laid pick
reply_laid_lem ti turned caps lt la lc =
    by_elements 4 (λ t. reply_laid t turned caps ≡ t ++ turned ++ replicate 6 0 ++ caps)
    (λ f. by_elements 16 (λ a. reply_laid (listed 4 f) a caps ≡ listed 4 f ++ a ++ replicate 6 0 ++ caps)
    (λ g. by_elements 6 (λ c. reply_laid (listed 4 f) (listed 16 g) c ≡ listed 4 f ++ listed 16 g ++ replicate 6 0 ++ c) (λ h. refl) caps lc) turned la)
    ti lt

pub caps_listed : (d : List ℕ) → listed 6 (λ i. get_or d (2 + i) 0) ≡ caps_of d
unfolding caps_of
caps_listed d = sym (filled_listed 6 (drop 2 d) ∙ (λ j. listed 6 (λ i. get_or-drop 2 d i 0 j)))

-- ---- the same from what each step left

pub reply_by : (k ti caps d : List ℕ) {a turned x₁ x₂ x₃ r : List ℕ} → length ti ≡ 4 → length turned ≡ 16 → length caps ≡ 6 → a ≡ brought_in k d → turned ≡ rotated a
    → x₁ ≡ laid_in (replicate 32 0) 0 ti → x₂ ≡ laid_in x₁ 4 turned → x₃ ≡ laid_in x₂ 26 caps → r ≡ encrypted k x₃ → r ≡ reply_in k ti caps d
unfolding reply_in second_reply
reply_by k ti caps d {turned = turned} lt la lc ea et e₁ e₂ e₃ e =
    let q : turned ≡ rotated (brought_in k d) = et ∙ ap rotated ea in
    let w = reply_laid_lem ti turned caps lt la lc in
    e ∙ ap (encrypted k) (e₃ ∙ rw (e₂, e₁) (w ∙ ap (λ (t : List ℕ). ti ++ t ++ replicate 6 0 ++ caps) q))

pub failed_by : (k b d : List ℕ) {p x t : List ℕ} {s : Bool} → length d ≡ 32 → length x ≡ 32 → p ≡ pair_of d → x ≡ decrypted k p → t ≡ rotated b → s ≡ same (part x 16 32) t
    → not s ≡ (eqb (length d) 32 && fails k b d)
unfolding fails
failed_by k b d {x = x} {s = s} ld lx ep ex et es =
    let q : x ≡ decrypted k d = ex ∙ ap (decrypted k) (ep ∙ pair_whole d ld) in
    let w : s ≡ same (drop 16 (decrypted k d)) (rotated b) = es ∙ (λ i. same ((second_block x lx ∙ ap (drop 16) q) i) (et i)) in
    ap not w ∙ sym (ap (λ (t : Bool). t && not (same (drop 16 (decrypted k d)) (rotated b))) (eq-eqb _ _ ld))
