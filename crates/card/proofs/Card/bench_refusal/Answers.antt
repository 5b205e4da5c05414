use Rattle.card.specs.Events.{bench_refusal}
use Rattle.tables.specs.Choice.{hit, skip}
use borrow.Author.Tests.{lt-ltb, le-ltb}
use mathlib.Core.Path.{refl, sym}
use Rattle.card.proofs.Card.bench_refusal.Goals as goal

pub returns-then-room-lt-REPLY_ROOM : goal.returns-then-room-lt-REPLY_ROOM
unfolding bench_refusal
returns-then-room-lt-REPLY_ROOM c = hit _ _ _ (lt-ltb _ _ c.if-room-lt-REPLY_ROOM.true) refl

pub returns-then-breaks : goal.returns-then-breaks
unfolding bench_refusal
returns-then-breaks c = skip _ _ _ (le-ltb _ _ c.if-room-lt-REPLY_ROOM.false) (hit _ _ _ (sym c.if-breaks.ensures) refl)

pub returns : goal.returns
unfolding bench_refusal
returns c = skip _ _ _ (le-ltb _ _ c.if-room-lt-REPLY_ROOM.false) (skip _ _ _ (sym c.if-breaks.ensures) refl)
