-- Laws of the answers' lengths.
use Rattle.std.specs.Prelude.{ℕ, ◌+◌, ◌*◌, ◌%◌, ◌≤◌, Bool, true, List, [], ◌∷◌, ◌≡◌, Option, is_none, length}
use Rattle.std.proofs.Math.Bool.{false}
use Rattle.std.proofs.Math.Path.{refl}
use Rattle.std.proofs.Common.{ap, length-append, arith}
use Rattle.tables.specs.Choice.{pick, pick_both}
use Rattle.refusals.specs.declared.Refusal.{Refusal}
use Rattle.refusals.specs.Numbers.{number_of}
use Rattle.text.specs.Hex.{in_digits}
use Rattle.text.specs.Laws.{length_digits}
use Rattle.answers.specs.Answers.{numbered, refusal_text, reply_text, reply_line, reply_size}

pub length_numbered : (n : ℕ) → length (numbered n) ≡ 2
unfolding numbered
length_numbered n = refl

pub length_refusal : (n : Option Refusal) → length (refusal_text n) ≤ 2
unfolding refusal_text numbered
length_refusal n = pick_both (λ l. length l ≤ 2) (is_none n) [] (0x21 ∷ (0x30 + number_of n % 10) ∷ []) (omega arith) (omega arith)

pub length_reply : (refusal : Option Refusal) (bytes : List ℕ) → length (reply_text refusal bytes) ≡ reply_size refusal (length bytes)
unfolding reply_text reply_size numbered
length_reply refusal bytes = by (is_none refusal)
  where
    by : (b : Bool) → length (pick b (in_digits bytes) (0x21 ∷ (0x30 + number_of refusal % 10) ∷ [])) ≡ pick b (2 * length bytes) 2
    by true = unfold pick in length_digits bytes
    by false = unfold pick in refl

pub length_line : (refusal : Option Refusal) (bytes : List ℕ) → length (reply_line refusal bytes) ≡ reply_size refusal (length bytes) + 1
unfolding reply_line
length_line refusal bytes = simp length-append (ap (λ n. n + 1) (length_reply refusal bytes))
