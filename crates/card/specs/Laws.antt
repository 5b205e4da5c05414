-- Laws of the card's parts and events, as the code goes through them.
use Rattle.std.specs.Prelude.{ℕ, Option}
use Rattle.refusals.specs.declared.Refusal.{Refusal}
use Rattle.card.specs.declared.Card.{Card}
use Rattle.card.specs.declared.Reply.{Reply}

abbrev pub reply_storing : ℕ → Card → Option Refusal → ℕ → Reply
reply_storing stored c n len = record { card = c; refusal = n; stored = stored; len = len }

-- most store nothing
abbrev pub reply : Card → Option Refusal → ℕ → Reply
reply = reply_storing 0
