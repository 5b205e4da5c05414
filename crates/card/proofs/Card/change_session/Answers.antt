use Rattle.card.proofs.Laws.{session_unknown, session_broken, session_changes}
use Rattle.card.specs.View.{on_channel}
use Rattle.channel.specs.Channel.{bare}
use mathlib.Core.Bool.{not}
use mathlib.Core.Path.{sym, ap, ◌∙◌}
use Rattle.card.proofs.Card.change_session.Goals as goal

pub returns-then-not-is_session_sound : goal.returns-then-not-is_session_sound
returns-then-not-is_session_sound c = let a = c.args in c.refused.ensures ∙ session_unknown a.self a.session (ap not (sym c.is_session_sound.ensures ∙ c.if-not-is_session_sound.true))

pub returns-then-breaks : goal.returns-then-breaks
returns-then-breaks c = let a = c.args in c.refused-then-breaks.ensures ∙ session_broken a.self a.session (ap not (sym c.is_session_sound.ensures ∙ c.if-not-is_session_sound.false)) (sym c.if-breaks.ensures)

pub returns : goal.returns
returns c = let a = c.args in c.sent.ensures ∙ session_changes a.self a.session (ap not (sym c.is_session_sound.ensures ∙ c.if-not-is_session_sound.false)) (sym c.if-breaks.ensures) (c.on_channel.ensures ∙ ap (on_channel a.self) (c.bare.ensures ∙ ap bare c.from.ensures))
