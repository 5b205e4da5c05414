use Rattle.effects.specs.Effects.{stored_after}
use Rattle.card.proofs.Laws.{answered_by, part_answers, on_begun}
use Rattle.card.specs.Events.{shown, accepted_status}
use Rattle.card.specs.View.{view, on_channel}
use Rattle.tables.specs.Choice.{pick}
use Rattle.columns.specs.Table.{authenticate_first}
use lib.ListN.{length}
use mathlib.Core.Path.{◌≡◌, refl, ap, ◌∙◌}
use native.Mathlib.Omega.{arith}
use borrow.Author.Rules.{rules}
use Rattle.card.proofs.Card.begun.Goals as goal
use Rattle.card.proofs.Card.begun.Goals.{After-show_first-bytes}

-- the reply's data have their length
long : (s : After-show_first-bytes) → length s.show_first-bytes.result ≡ 16
long s = search rules

pub returns : goal.returns
unfolding shown accepted_status pick view
returns c = let a = c.args in let l : length c.show_first-bytes.result ≡ 16 = long (goal.at.returns c).After-show_first-bytes in answered_by _ _ _ c.sent.ensures (part_answers a.self a.inputs authenticate_first a.role a.d.now _ a.reply.now 16 0x91AF (c.on_channel.ensures ∙ ap (on_channel a.self) c.begin.ensures ∙ on_begun a.self a.inputs a.role a.d.now) (unfold stored_after pick in refl) c.show_first-bytes.ensures refl l (omega (arith, c.requires)) c.lay.ensures c.close-len.ensures.0 c.close-len.ensures.1)
