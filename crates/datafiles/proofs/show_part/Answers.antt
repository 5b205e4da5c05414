use Rattle.wire.proofs.Laws.{shows_part}
use Rattle.datafiles.proofs.show_part.Goals as goal

pub returns : goal.returns
returns c =
    let a = c.args in
    let p = c.requires in
    shows_part a.bytes.now a.reply.now _ a.from a.to p.1 p.2 c.lay.ensures
