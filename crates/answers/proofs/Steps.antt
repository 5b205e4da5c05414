-- Two places a byte, tested without doubling; and an answer with its LF.
use Prim.Native.Nat.{ℕ, ◌+◌, ◌*◌, ◌-◌, ◌/◌, ◌≤◌, ◌<◌}
use Rattle.std.specs.Prelude.{Option}
use Rattle.refusals.specs.declared.Refusal.{Refusal}
use mathlib.Core.Bool.{Bool, true, false}
use mathlib.Core.List.{List, [], ◌∷◌, ◌++◌}
use mathlib.Core.Path.{◌≡◌, refl, sym, ap, ◌∙◌}
use borrow.Author.Tests.{lt-ltb, le-ltb, ltb-true, ltb-false}
use lib.Dec.{ltb}
use lib.ListN.{length, take, drop}
use native.Mathlib.Omega.{arith}
use Rattle.wire.specs.Bytes.{part, laid_in, Shows}
use Rattle.wire.proofs.Laws.{length_part, length_laid, shows_as}
use Rattle.text.specs.Shown.{in_room, Adds}
use Rattle.text.specs.Laws.{room_yes, room_no}
use Rattle.text.specs.Adds.{adds_none, adds_room, adds_then, adds_behind}
use Rattle.answers.specs.Answers.{reply_text, reply_line, reply_size}
use Rattle.answers.specs.Laws.{length_reply, length_line}

pub half : (len room : ℕ) → ltb len (room - room / 2) ≡ ltb (2 * len) room
half len room = sym (by (ltb len (room - room / 2)) refl)
  where
    by : (b : Bool) → ltb len (room - room / 2) ≡ b → ltb (2 * len) room ≡ b
    by true e = let h = ltb-true len (room - room / 2) e in lt-ltb (2 * len) room (omega arith)
    by false e = let h = ltb-false len (room - room / 2) e in le-ltb (2 * len) room (omega arith)

module _ (refusal : Option Refusal) (bytes b : List ℕ) (at : ℕ) where
  -- there is no room for the line
  pub line_short : length b - at ≤ reply_size refusal (length bytes) → Adds (in_room (length b - at) (reply_line refusal bytes)) b at b at
  line_short h = rw (room_no (length b - at) (reply_line refusal bytes) (omega (arith, length_line refusal bytes))) (adds_none b at)

  module _ (after : List ℕ) (n : ℕ) (h : at < length b) (f : ltb (reply_size refusal (length bytes)) (length b - at) ≡ true)
      (s : Shows (in_room (length (part b at (length b))) (reply_text refusal bytes)) (part b at (length b)) after n) where
    shown : Shows (reply_text refusal bytes) (part b at (length b)) after n
    shown =
        let l = ltb-true (reply_size refusal (length bytes)) (length b - at) f in
        let p = length_part b at (length b) (omega arith) in
        shows_as _ _ _ _ _ (room_yes (length (part b at (length b))) (reply_text refusal bytes) (omega (arith, length_reply refusal bytes))) s

    pub line_size : at + n + 1 ≤ length b
    line_size =
        let l = ltb-true (reply_size refusal (length bytes)) (length b - at) f in
        omega (arith, shown.1, length_reply refusal bytes)

    pub line_added : {e : List ℕ} → e ≡ laid_in (take at b ++ (after ++ drop (length b - at) (drop at b))) (at + n) (0x0A ∷ [])
        → Adds (in_room (length b - at) (reply_line refusal bytes)) b at e (at + n + 1)
    unfolding reply_line
    line_added q =
        let l = ltb-true (reply_size refusal (length bytes)) (length b - at) f in
        let y = adds_behind (reply_text refusal bytes) b after at n (omega arith) shown in
        let z : length (take at b ++ (after ++ drop (length b - at) (drop at b))) ≡ length b = ap length y.0 ∙ length_laid b at (reply_text refusal bytes) (omega (arith, length_reply refusal bytes)) in
        let w = adds_room (0x0A ∷ []) (take at b ++ (after ++ drop (length b - at) (drop at b))) (at + n) (omega (arith, line_size)) q in
        rw (room_yes (length b - at) (reply_text refusal bytes ++ 0x0A ∷ []) (omega (arith, length_line refusal bytes))) (adds_then (reply_text refusal bytes) (0x0A ∷ []) b at y w)
