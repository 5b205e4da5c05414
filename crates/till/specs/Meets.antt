-- Terminal and card meet: each reads out of the other's bytes what the other put in, for every key, RndA, RndB and TI.
use Rattle.std.specs.Prelude.{ℕ, true, false, ◌≡◌, refl, take, drop}
use Rattle.std.proofs.Math.Bool.{not}
use mathlib.Core.List.{List, [], ◌∷◌, ◌++◌, append_assoc}
use Rattle.std.proofs.Math.Path.{ap}
use Rattle.std.proofs.Common.{◌∙◌, length-append, arith}
use Rattle.std.proofs.Math.ListN.{replicate}
use Rattle.std.proofs.Math.Seq.{take_at, drop_at}
use Rattle.wire.specs.Bytes.{part}
use Rattle.wire.specs.Same.{same_equal}
use Rattle.field.specs.Bytes.{Sized, Block, zeros}
use Rattle.field.proofs.Laws.{append_bytes, append_sized, take_bytes, zeros_block}
use Rattle.cbc.specs.Cbc.{decrypted}
use Rattle.cbc.specs.Laws.{undone}
use Rattle.handshake.specs.Handshake.{rotated, first_reply, brought_a, fails, second_reply}
use Rattle.till.specs.Till.{learnt_b, second_part, replied_ti, replied_a, knows_us}

rotated_sized : (n : ℕ) (x : List ℕ) → Sized n x → Sized n (rotated x)
unfolding rotated
rotated_sized n [] h = h
rotated_sized n (a ∷ x) h =
    record {
      long = length-append x (a ∷ []) ∙ omega (arith, h.long);
      bytes = append_bytes x (a ∷ []) h.bytes.1 (h.bytes.0, tt);
    }

module _ (k a b : List ℕ) (hk : Block k) (ha : Block a) (hb : Block b) where
  -- the terminal learns RndB from the reply to the first part
  pub learns : learnt_b k (first_reply k b) ≡ b
  unfolding learnt_b first_reply
  learns = undone k hk 1 b hb

  sent : decrypted k (second_part k a b) ≡ a ++ rotated b
  unfolding second_part
  sent = undone k hk 2 (a ++ rotated b) (append_sized 16 16 a (rotated b) ha (rotated_sized 16 b hb))

  -- the second part brings the card RndA, and does not fail
  pub brings : brought_a k (second_part k a b) ≡ a
  unfolding brought_a
  brings = ap (take 16) sent ∙ take_at a (rotated b) 16 ha.long

  pub passes : fails k b (second_part k a b) ≡ false
  unfolding fails
  passes = ap not (same_equal _ _ (ap (drop 16) sent ∙ drop_at a (rotated b) 16 ha.long))

-- its reply brings the terminal TI, and proves the card
module _ (k a ti caps : List ℕ) (hk : Block k) (ha : Block a) (ht : Sized 4 ti) (hc : Sized 6 caps) where
  replied : decrypted k (second_reply k ti caps a) ≡ ti ++ (rotated a ++ (replicate 6 0 ++ caps))
  unfolding second_reply
  replied =
      let r = rotated_sized 16 a ha in
      let z : Sized 6 (replicate 6 0) = record { long = refl; bytes = take_bytes 6 zeros zeros_block.bytes } in
      let s = append_sized 26 6 (ti ++ rotated a ++ replicate 6 0) caps (append_sized 20 6 (ti ++ rotated a) (replicate 6 0) (append_sized 4 16 ti (rotated a) ht r) z) hc in
      undone k hk 2 (ti ++ rotated a ++ replicate 6 0 ++ caps) s ∙ simp append_assoc

  pub tells : replied_ti k (second_reply k ti caps a) ≡ ti
  unfolding replied_ti
  tells = ap (take 4) replied ∙ take_at ti (rotated a ++ (replicate 6 0 ++ caps)) 4 ht.long

  pub knows : knows_us k a (second_reply k ti caps a) ≡ true
  unfolding knows_us replied_a
  knows =
      same_equal _ _
      (ap (λ (x : List ℕ). part x 4 20) replied
      ∙ ap (take 16) (drop_at ti (rotated a ++ (replicate 6 0 ++ caps)) 4 ht.long)
      ∙ take_at (rotated a) (replicate 6 0 ++ caps) 16 (rotated_sized 16 a ha).long)
