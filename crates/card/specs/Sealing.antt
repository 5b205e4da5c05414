-- What is laid behind a reply's data: its MAC, if the command had one, and 9100.
use Rattle.std.specs.Prelude.{ℕ, ◌+◌, ◌≤◌, Bool, true, false, List, ◌++◌, ◌≡◌, take}
use Rattle.std.proofs.Common.{sym, ◌∙◌, arith}
use Rattle.std.proofs.Math.Path.{ap}
use Rattle.std.proofs.Math.ListN.{length, length-append}
use Rattle.tables.specs.Choice.{pick}
use Rattle.wire.specs.Bytes.{laid, laid_in, word, Shows}
use Rattle.wire.proofs.Laws.{laid_room, laid_further, length_laid, length_word, shows_front, shows_then}
use Rattle.channel.specs.declared.Channel.{Channel}
use Rattle.channel.specs.Channel.{counter_of}
use Rattle.sealing.specs.Sealing.{seal_of}
use Rattle.modes.specs.Modes.{mac_size}
use Rattle.rows.specs.Rows.{ok}
use Rattle.card.specs.Events.{mac_behind, reply_room, data_room}

abbrev pub behind : Bool → Channel → List ℕ → List ℕ
behind m c x = mac_behind m c x ++ word ok

-- c is the channel after the command, n the number of the data's bytes, r the length in all
abbrev pub Sealed : Channel → Bool → ℕ → List ℕ → List ℕ → ℕ → Type 0
Sealed c m n before after r = (after ≡ laid before n (behind m c (take n before))) × (r ≡ n + length (behind m c (take n before)))

module _ (c : Channel) (n : ℕ) (b : List ℕ) (h : reply_room ≤ length b) where
  pub sealed_plain : {m : Bool} {r : ℕ} {b₂ : List ℕ} → m ≡ false → n ≤ data_room → b₂ ≡ laid_in b n (word ok) → r ≡ n + 2 → Sealed c m n b b₂ r
  unfolding mac_behind pick
  sealed_plain e room q k =
      let l = length_word ok in
      rw e (q ∙ laid_room b n (word ok) (omega arith), k ∙ ap (λ (j : ℕ). n + j) (sym l))

  pub sealed_maced : {m : Bool} {k r : ℕ} {b₁ b₂ w : List ℕ} → m ≡ true → n + mac_size ≤ data_room → k ≡ counter_of c.stage → length w ≡ mac_size
      → w ≡ seal_of c.secret 0x00 k c.ti (take n b) → b₁ ≡ laid_in b n w → b₂ ≡ laid_in b₁ (n + mac_size) (word ok) → r ≡ n + mac_size + 2 → Sealed c m n b b₂ r
  unfolding mac_behind pick
  sealed_maced {b₁ = b₁} {b₂ = b₂} {w = w} e room ek lw ew e₁ e₂ er =
      let l = length_word ok in
      let q : b₁ ≡ laid b n w = e₁ ∙ laid_room b n w (omega arith) in
      let lb : length b₁ ≡ length b = ap length q ∙ length_laid b n w (omega arith) in
      let p : b₂ ≡ laid b₁ (n + mac_size) (word ok) = e₂ ∙ laid_room b₁ (n + mac_size) (word ok) (omega arith) in
      let z : laid (laid b n w) (n + mac_size) (word ok) ≡ laid b n (w ++ word ok) = rw (sym lw) (laid_further b n w (word ok)) in
      let a = length-append w (word ok) in
      let v : w ≡ seal_of c.secret 0x00 (counter_of c.stage) c.ti (take n b) = rw ek at ew in
      rw e (rw (sym v) (p ∙ rw q z, omega arith))

-- behind data that are shown
pub sealed_shows : (c : Channel) (m : Bool) (x b : List ℕ) {b₁ b₂ : List ℕ} {n r : ℕ} → Shows x b b₁ n → Sealed c m n b₁ b₂ r → Shows (x ++ behind m c x) b b₂ r
sealed_shows c m x b {b₁} {b₂} {n} {r} s (q, k) =
    let f = shows_front x b b₁ n s in
    let t : Shows (x ++ behind m c x) b b₂ (n + length (behind m c x)) = shows_then x (behind m c x) b s (rw f at q) in
    (t.0, rw f at k ∙ t.1)
