-- How long a frame with its MAC is, and where there is one.
use Rattle.std.specs.Prelude.{ℕ, ◌+◌, ◌≤◌, ◌<◌, true, ◌≡◌, leb, length}
use mathlib.Core.List.{List, []}
use Rattle.std.proofs.Math.Path.{refl, ap}
use Rattle.std.proofs.Common.{◌∙◌, le-leb, leb-true, length-append, length-take-le, arith}
use Rattle.std.proofs.lemmas.Bool.{lt-leb}
use Rattle.tables.specs.Choice.{pick, picked, passed, pick_both, and_both, and_left, and_right, and_yes}
use Rattle.text.specs.Laws.{room_yes, room_no}
use Rattle.frames.specs.Frame.{ins_of, data_of}
use Rattle.sealing.specs.Laws.{length_seal}
use Rattle.till.specs.Till.{sealed, sealable, sealed_in}

pub length_sealed : (key ti : List ℕ) (counter : ℕ) (f : List ℕ) → 5 ≤ length f → length (sealed key ti counter f) ≡ length (data_of f) + 14
unfolding sealed
length_sealed key ti counter f h =
    simp (length-append, length-take-le 4 f (omega arith), length_seal key (ins_of f) counter ti (data_of f)) (omega arith)

pub sealable_yes : (f : List ℕ) → sealable f ≡ true → (5 ≤ length f) × (length f ≤ 253)
unfolding sealable
sealable_yes f e = let h = and_yes (leb 5 (length f)) (leb (length f) 253) e in (leb-true 5 (length f) h.0, leb-true (length f) 253 h.1)

pub sealable_by : (f : List ℕ) → 5 ≤ length f → length f ≤ 253 → sealable f ≡ true
unfolding sealable
sealable_by f h k = and_both _ _ (le-leb 5 (length f) h) (le-leb (length f) 253 k)

module _ (room : ℕ) (key ti : List ℕ) (counter : ℕ) (f : List ℕ) where
  pub in_short : length f < 5 → sealed_in room key ti counter f ≡ []
  unfolding sealed_in sealable
  in_short h = passed _ _ (and_left _ _ (lt-leb 5 (length f) h))

  pub in_long : 253 < length f → sealed_in room key ti counter f ≡ []
  unfolding sealed_in sealable
  in_long h = passed _ _ (and_right (leb 5 (length f)) _ (lt-leb (length f) 253 h))

  pub in_room_lem : sealable f ≡ true → length (data_of f) + 14 ≤ room → sealed_in room key ti counter f ≡ sealed key ti counter f
  unfolding sealed_in
  in_room_lem e h = picked _ _ e ∙ room_yes room (sealed key ti counter f) (omega (arith, length_sealed key ti counter f (sealable_yes f e).0))

  pub in_full : 5 ≤ length f → room < length (data_of f) + 14 → sealed_in room key ti counter f ≡ []
  unfolding sealed_in
  in_full g h =
      ap (λ (x : List ℕ). pick (sealable f) x []) (room_no room (sealed key ti counter f) (omega (arith, length_sealed key ti counter f g)))
      ∙ pick_both (λ (x : List ℕ). x ≡ []) (sealable f) [] [] refl refl
