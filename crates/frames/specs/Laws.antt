-- The data field between the ends that the code computes, and its length.
use Rattle.std.specs.Prelude.{ℕ, ◌-◌, min, max, Bool, true, false, List, ◌≡◌, refl, ltb, length}
use Rattle.std.proofs.Common.{ltb-true, ltb-false, arith}
use Rattle.wire.specs.Bytes.{part}
use Rattle.wire.proofs.Laws.{length_part}
use Rattle.frames.specs.Frame.{data_of}

pub data_between : (f : List ℕ) {a e : ℕ} → a ≡ min 5 (length f) → e ≡ max (min 5 (length f)) (length f - 1) → part f a e ≡ data_of f
data_between f {a} {e} ea ee = by (ltb (length f) 5) refl
  where
    by : (b : Bool) → ltb (length f) 5 ≡ b → part f a e ≡ data_of f
    by true q =
        let h = ltb-true (length f) 5 q in
        let k : e - a ≡ 0 = omega arith in
        let l : length f - 1 - 5 ≡ 0 = omega arith in
        rw (k, l) refl
    by false q =
        let h = ltb-false (length f) 5 q in
        let k : e - a ≡ length f - 1 - 5 = omega arith in
        let l : a ≡ 5 = omega arith in
        rw (k, l) refl

pub length_data : (f : List ℕ) → length (data_of f) ≡ length f - 1 - 5
length_data f = length_part f 5 (length f - 1) (omega arith)
