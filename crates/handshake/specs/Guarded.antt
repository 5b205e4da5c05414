-- What the functions of a second part answer to any data field: the same as Handshake where it has 32 bytes.
use Rattle.std.specs.Prelude.{ℕ, List, ◌≡◌, length, replicate}
use Rattle.std.proofs.Common.{ap, ◌∙◌, arith}
use Rattle.wire.specs.Bytes.{laid_in}
use Rattle.wire.proofs.Laws.{laid_room, laid_all}
use Rattle.derivation.specs.Derivation.{mac_key}
use Rattle.handshake.specs.Handshake.{brought_a, second_reply}

-- a data field of another length counts as filled with zero bytes, or as zero bytes where it is longer
unfoldable pub pair_of : List ℕ → List ℕ
pair_of d = laid_in (replicate 32 0) 0 d

unfoldable pub brought_in : List ℕ → List ℕ → List ℕ
brought_in k d = brought_a k (pair_of d)

unfoldable pub key_in : List ℕ → List ℕ → List ℕ → List ℕ
key_in k b d = mac_key k (brought_in k d) b

unfoldable pub reply_in : List ℕ → List ℕ → List ℕ → List ℕ → List ℕ
reply_in k ti caps d = second_reply k ti caps (brought_in k d)

pub pair_whole : (d : List ℕ) → length d ≡ 32 → pair_of d ≡ d
unfolding pair_of
pair_whole d e = laid_room (replicate 32 0) 0 d (omega arith) ∙ laid_all (replicate 32 0) d (omega arith)

pub brought_whole : (k d : List ℕ) → length d ≡ 32 → brought_in k d ≡ brought_a k d
unfolding brought_in
brought_whole k d e = ap (brought_a k) (pair_whole d e)

pub key_whole : (k b d : List ℕ) → length d ≡ 32 → key_in k b d ≡ mac_key k (brought_a k d) b
unfolding key_in
key_whole k b d e = ap (λ (a : List ℕ). mac_key k a b) (brought_whole k d e)

pub reply_whole : (k ti caps d : List ℕ) → length d ≡ 32 → reply_in k ti caps d ≡ second_reply k ti caps (brought_a k d)
unfolding reply_in
reply_whole k ti caps d e = ap (second_reply k ti caps) (brought_whole k d e)
