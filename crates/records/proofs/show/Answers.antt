use lib.ListN.{length}
use mathlib.Core.Path.{◌≡◌, sym, ◌∙◌}
use borrow.Author.Rules.{rules}
use Rattle.records.proofs.Reading.{inside, shows_in_no_room, shows_of_too_many, shows_outside, shows}
use Rattle.records.proofs.show.Goals as goal
use Rattle.records.proofs.show.Goals.{Start}

slots_length : (s : Start) → length s.args.log.slots ≡ 64
slots_length s = search rules

pub returns-then-reply-lt-SLOTS : goal.returns-then-reply-lt-SLOTS
returns-then-reply-lt-SLOTS c = let a = c.args in shows_in_no_room a.reply.now a.log a.first a.count c.if-reply-lt-SLOTS.true

pub returns-then-log-gt-MOST : goal.returns-then-log-gt-MOST
returns-then-log-gt-MOST c = let a = c.args in shows_of_too_many a.reply.now a.log a.first a.count c.if-log-gt-MOST.true

pub returns-then-is_outside : goal.returns-then-is_outside
returns-then-is_outside c =
    let a = c.args in
    shows_outside a.reply.now a.log a.first a.count (sym c.is_outside.ensures ∙ c.if-is_outside.true)

pub span-number-requires : goal.span-number-requires
span-number-requires c = let a = c.args in inside a.log.count a.first a.count (sym c.is_outside.ensures ∙ c.if-is_outside.false)

pub returns : goal.returns
returns c =
    let a = c.args in
    shows a.reply.now a.log a.first a.count c.span-number.result c.if-reply-lt-SLOTS.false c.if-log-gt-MOST.false (sym c.is_outside.ensures ∙ c.if-is_outside.false) c.span-number.ensures c.lay_entries.ensures
