use Rattle.drafts.proofs.Steps.{authenticated_by}
use Rattle.drafts.proofs.parts.put_authenticated.Goals as goal

pub returns : goal.returns
returns c = authenticated_by c.args.draft c.args.b.now c.args.text.now c.sixteen-k.ensures c.sixteen-a.ensures c.byte_at.ensures c.first_frame-first.ensures c.second_part.ensures c.second_frame-second.ensures c.opened.ensures c.put_two-len.ensures
