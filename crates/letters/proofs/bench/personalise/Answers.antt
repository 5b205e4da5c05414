use Rattle.notices.specs.Notices.{notice_text}
use Rattle.desk.specs.After.{after_event}
use Rattle.told.specs.Told.{said_of}
use Rattle.letters.specs.Letters.{counted}
use Rattle.answers.specs.Answers.{numbered}
use Rattle.refusals.specs.Numbers.{number_of}
use Rattle.card.specs.declared.Reply.{Reply}
use Rattle.card.specs.Outcome.{reply_of}
use Rattle.card.specs.Events.{personalised}
use Rattle.orders.specs.declared.Order.{Order}
use mir.Facts.{to_z-of_z}
use mir.Val.{SFits}
use mir.Syntax.{w32}
use mathlib.Core.Path.{ap, ◌∙◌}
use borrow.Author.Rules.{rules}
use Rattle.letters.proofs.bench.personalise.Goals as goal

pub returns : goal.returns
unfolding said_of notice_text counted reply_of
returns c =
    let k = c.args.desk in
    let o = c.read-order in
    let f : SFits w32 o.result.value = search rules in
    let v = ap (λ z. reply_of (personalised o.result.settings o.result.keys z)) (to_z-of_z f) in
    let e = c.personalise-made.ensures ∙ (v ∙ ap (λ (x : Order). reply_of (personalised x.settings x.keys x.value)) o.ensures) in
    rw c.keep.ensures (ap (λ (x : Reply). record { next = after_event k x.card x.stored; out = numbered (number_of x.refusal) }) e)
