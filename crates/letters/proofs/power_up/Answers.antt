use Rattle.notices.specs.Notices.{notice_text}
use Rattle.desk.specs.After.{after_event}
use Rattle.told.specs.Told.{said_of}
use Rattle.letters.specs.Letters.{powered}
use Rattle.answers.specs.Answers.{refusal_text}
use Rattle.card.specs.declared.Reply.{Reply}
use Rattle.card.specs.Outcome.{reply_of}
use mathlib.Core.Path.{ap}
use Rattle.letters.proofs.power_up.Goals as goal

pub returns : goal.returns
unfolding said_of notice_text powered reply_of
returns c = let k = c.args.desk in rw c.keep.ensures (ap (λ (x : Reply). record { next = after_event k x.card x.stored; out = refusal_text x.refusal }) c.power_up-reply.ensures)
