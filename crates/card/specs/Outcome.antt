-- What an event answers: the card, the bench refusal, if any, the slot bytes of the log that it stored, and the bytes of the reply.
use Rattle.std.specs.Prelude.{ℕ, ◌≡◌, List, [], Option, length}
use Rattle.wire.specs.Bytes.{laid}
use Rattle.refusals.specs.declared.Refusal.{Refusal}
use Rattle.card.specs.declared.Card.{Card}
use Rattle.card.specs.declared.Reply.{Reply}

pub record Outcome : Type 0 where
  pub card : Card
  pub refusal : Option Refusal
  pub stored : ℕ
  pub out : List ℕ

-- the call also gives the reply's length
unfoldable pub reply_of : Outcome → Reply
reply_of o = record { card = o.card; refusal = o.refusal; stored = o.stored; len = length o.out }

-- the reply r and the buffer after are those of the outcome o: its bytes at the front, and what lies behind them as before
abbrev pub Answered : Outcome → List ℕ → List ℕ → Reply → Type 0
Answered o before after r = (r ≡ reply_of o) × (after ≡ laid before 0 o.out)

-- a bench refusal returns the input card unchanged, writes and stores nothing, and gives length 0
unfoldable pub bench : Card → Option Refusal → Outcome
bench c n = record { card = c; refusal = n; stored = 0; out = [] }

-- an outcome leaves one reply and one buffer
pub answered_one : (o : Outcome) (b b₁ b₂ : List ℕ) (r₁ r₂ : Reply) → Answered o b b₁ r₁ → Answered o b b₂ r₂ → (r₁ ≡ r₂) × (b₁ ≡ b₂)
answered_one o b b₁ b₂ r₁ r₂ p q = (cc, cc)
