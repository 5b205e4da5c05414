-- A frame with its MAC, part by part.
use Prim.Native.Nat.{ℕ, ◌+◌, ◌≤◌}
use mathlib.Core.List.{List, [], ◌∷◌, ◌++◌}
use mathlib.Core.Path.{◌≡◌, refl, sym, ap, ◌∙◌}
use lib.ListN.{length, take}
use lib.Seq.{length-take-le}
use native.Mathlib.Nat.{zero-add}
use native.Mathlib.Omega.{arith}
use Rattle.wire.specs.Bytes.{part, laid_in, Shows}
use Rattle.wire.proofs.Laws.{laid_room, length_laid, shows_as}
use Rattle.text.specs.Shown.{Adds}
use Rattle.text.specs.Adds.{adds_then}
use Rattle.frames.specs.Frame.{ins_of, data_of}
use Rattle.sealing.specs.Sealing.{seal_of}
use Rattle.till.specs.Till.{sealed, sealed_in}
use Rattle.till.specs.Laws.{sealable_by, in_room_lem}

adds_at : (x b : List ℕ) (at r : ℕ) {e : List ℕ} → at + length x ≡ r → r ≤ length b → e ≡ laid_in b at x → Adds x b at e r × (length e ≡ length b)
adds_at x b at r l h q =
    let w = q ∙ laid_room b at x (omega arith) in
    ((w, sym l), ap length w ∙ length_laid b at x (omega arith))

pub parts_by : (f d mac b : List ℕ) {b₁ b₂ b₃ b₄ b₅ : List ℕ} → 5 ≤ length f → length mac ≡ 8 → length d + 14 ≤ length b
    → b₁ ≡ laid_in b 0 (part f 0 4) → b₂ ≡ laid_in b₁ 4 ((length d + 8) ∷ []) → b₃ ≡ laid_in b₂ 5 d → b₄ ≡ laid_in b₃ (length d + 5) mac → b₅ ≡ laid_in b₄ (length d + 13) (0x00 ∷ [])
    → Shows (take 4 f ++ (length d + 8) ∷ d ++ mac ++ 0x00 ∷ []) b b₅ (length d + 14)
parts_by f d mac b {b₁} {b₂} {b₃} {b₄} lf lm h e₁ e₂ e₃ e₄ e₅ =
    let lh = length-take-le 4 f (omega arith) in
    let a₁ = adds_at (take 4 f) b 0 4 (omega arith) (omega arith) e₁ in
    let a₂ = adds_at ((length d + 8) ∷ []) b₁ 4 5 refl (omega (arith, a₁.1)) e₂ in
    let a₃ = adds_at d b₂ 5 (length d + 5) (omega arith) (omega (arith, a₁.1, a₂.1)) e₃ in
    let a₄ = adds_at mac b₃ (length d + 5) (length d + 13) (omega arith) (omega (arith, a₁.1, a₂.1, a₃.1)) e₄ in
    let a₅ = adds_at (0x00 ∷ []) b₄ (length d + 13) (length d + 14) (omega arith) (omega (arith, a₁.1, a₂.1, a₃.1, a₄.1)) e₅ in
    let lc : List ℕ = (length d + 8) ∷ [] in
    let v = adds_then (take 4 f) (lc ++ d) b 0 a₁.0 (adds_then lc d b₁ 4 a₂.0 a₃.0) in
    let w = adds_then (take 4 f ++ (lc ++ d) ++ mac) (0x00 ∷ []) b 0 (adds_then (take 4 f ++ (lc ++ d)) mac b 0 v a₄.0) a₅.0 in
    (w.0, w.1 ∙ zero-add _)

pub sealed_shown : (room : ℕ) (key ti : List ℕ) (counter : ℕ) (f b : List ℕ) {d mac after : List ℕ} {ins n : ℕ}
    → 5 ≤ length f → length f ≤ 253 → length d + 14 ≤ room → d ≡ data_of f → ins ≡ ins_of f → mac ≡ seal_of key ins counter ti d
    → Shows (take 4 f ++ (length d + 8) ∷ d ++ mac ++ 0x00 ∷ []) b after n → Shows (sealed_in room key ti counter f) b after n
unfolding sealed
sealed_shown room key ti counter f b {d} {mac} {after} {ins} {n} h k r ed ei em s =
    let e : take 4 f ++ (length d + 8) ∷ d ++ mac ++ 0x00 ∷ [] ≡ sealed key ti counter f = rw (em, ei, ed) in
    shows_as _ _ b after n (e ∙ sym (in_room_lem room key ti counter f (sealable_by f h k) (omega (arith, ap length ed)))) s
