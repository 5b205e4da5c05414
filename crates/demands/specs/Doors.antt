-- Through which door a command is granted decides whether it carries a MAC, and nothing else: card, bench refusal and bytes are
-- those of the paper's decision.
use Rattle.std.specs.Prelude.{ℕ, false, List, ◌≡◌}
use Rattle.std.proofs.Common.{ap}
use Rattle.channel.specs.declared.Inputs.{Inputs}
use Rattle.rows.specs.Doors.{paper_status, status_stays}
use Rattle.card.specs.declared.Card.{Card}
use Rattle.card.specs.View.{view}
use Rattle.card.specs.Outcome.{Outcome}
use Rattle.card.specs.Events.{played_by, played, benched, commanded}

-- a command under the paper's decision, which does not tell one grant from another
unfoldable pub paper_commanded : Card → List ℕ → Inputs → ℕ → Outcome
paper_commanded c f u room = benched c room (played_by (paper_status false (view c).core f) (view c) u f)

pub no_reply_changes : (c : Card) (f : List ℕ) (u : Inputs) (room : ℕ) → paper_commanded c f u room ≡ commanded c f u room
unfolding paper_commanded commanded played
no_reply_changes c f u room = ap (λ (status : ℕ). benched c room (played_by status (view c) u f)) (status_stays false (view c).core f)
