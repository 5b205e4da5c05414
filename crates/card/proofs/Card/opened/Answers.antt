use Rattle.effects.specs.Effects.{stored_after}
use Rattle.card.proofs.Laws.{answered_by, part_answers, on_opened}
use Rattle.card.specs.Events.{shown, accepted_status}
use Rattle.card.specs.View.{view, on_channel}
use Rattle.authentication.specs.Guarded.{second_whole}
use Rattle.tables.specs.Choice.{pick}
use Rattle.columns.specs.Table.{authenticate_second}
use lib.ListN.{length}
use mathlib.Core.Path.{◌≡◌, refl, ap, ◌∙◌}
use native.Mathlib.Omega.{arith}
use borrow.Author.Rules.{rules}
use Rattle.card.proofs.Card.opened.Goals as goal
use Rattle.card.proofs.Card.opened.Goals.{After-show_second-bytes}

-- the reply's data have their length
long : (s : After-show_second-bytes) → length s.show_second-bytes.result ≡ 32
long s = search rules

pub returns : goal.returns
unfolding shown accepted_status pick view
returns c = let a = c.args in let l : length c.show_second-bytes.result ≡ 32 = long (goal.at.returns c).After-show_second-bytes in answered_by _ _ _ c.sent.ensures (part_answers a.self a.inputs authenticate_second a.role a.d.now _ a.reply.now 32 0x9100 (c.on_channel.ensures ∙ ap (on_channel a.self) c.open.ensures ∙ on_opened a.self a.inputs a.role a.d.now c.requires.1) (unfold stored_after pick in refl) (c.show_second-bytes.ensures ∙ second_whole a.self.keys a.self.channel a.d.now c.requires.1) refl l (omega (arith, c.requires.0)) c.lay.ensures c.close-len.ensures.0 c.close-len.ensures.1)
