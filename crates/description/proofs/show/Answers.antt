use Rattle.description.specs.Description.{described, described_in}
use Rattle.wire.proofs.Laws.{shows_as, shows_none, shows_then}
use Rattle.tables.specs.Choice.{hit, skip}
use borrow.Author.Tests.{lt-ltb, le-ltb}
use mathlib.Core.Path.{refl, sym, ◌∙◌}
use Rattle.description.proofs.show.Goals as goal

pub returns-then-reply-lt17 : goal.returns-then-reply-lt17
unfolding described_in
returns-then-reply-lt17 c = shows_as _ _ _ _ _ (hit _ _ _ (lt-ltb _ _ c.if-reply-lt17.true) refl) (shows_none c.args.reply.now)

pub returns-then-is_data : goal.returns-then-is_data
unfolding described_in described
returns-then-is_data c =
    shows_as _ _ _ _ _ (skip _ _ _ (le-ltb _ _ c.if-reply-lt17.false) (hit _ _ _ (sym c.is_data.ensures ∙ c.if-is_data.true) refl))
    (simp (c.size.ensures, c.option_of-option.ensures, c.file-file.ensures) at (shows_then _ _ _ c.lay_head.ensures c.lay_figure.ensures))

pub returns-then-is_value : goal.returns-then-is_value
unfolding described_in described
returns-then-is_value c =
    shows_as _ _ _ _ _ (skip _ _ _ (le-ltb _ _ c.if-reply-lt17.false) (skip _ _ _ (sym c.is_data.ensures ∙ c.if-is_data.false) (hit _ _ _ (sym c.is_value.ensures ∙ c.if-is_value.true) refl)))
    (simp (c.option_of-option.ensures, c.file-file.ensures) at c.show_value.ensures)

pub returns : goal.returns
unfolding described_in described
returns c =
    shows_as _ _ _ _ _ (skip _ _ _ (le-ltb _ _ c.if-reply-lt17.false) (skip _ _ _ (sym c.is_data.ensures ∙ c.if-is_data.false) (skip _ _ _ (sym c.is_value.ensures ∙ c.if-is_value.false) refl)))
    (simp (c.option_of-option.ensures, c.file-file.ensures) at (shows_then _ _ _ (shows_then _ _ _ (shows_then _ _ _ c.lay_head-2.ensures c.lay_figure-2.ensures) c.lay_figure-3.ensures) c.lay_figure-4.ensures))
