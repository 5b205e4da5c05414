use Rattle.notices.specs.Notices.{notice_text}
use Rattle.desk.specs.After.{after_event}
use Rattle.told.specs.Told.{said_of}
use Rattle.letters.specs.Letters.{counted}
use Rattle.answers.specs.Answers.{numbered}
use Rattle.refusals.specs.Numbers.{number_of}
use Rattle.card.specs.declared.Reply.{Reply}
use Rattle.card.specs.Outcome.{reply_of}
use mathlib.Core.Path.{ap}
use Rattle.letters.proofs.bench.change_session.Goals as goal

pub returns : goal.returns
unfolding said_of notice_text counted reply_of
returns c = let k = c.args.desk in rw c.keep.ensures (ap (λ (x : Reply). record { next = after_event k x.card x.stored; out = numbered (number_of x.refusal) }) c.change_session-changed.ensures)
