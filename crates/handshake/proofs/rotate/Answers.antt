use borrow.Author.Rules.{rules}
use mathlib.Core.Path.{◌≡◌, ◌∙◌}
use lib.ListN.{length}
use Rattle.handshake.proofs.Laying.{rotates}
use Rattle.handshake.proofs.rotate.Goals as goal

pub returns : goal.returns
returns c = let long : length c.args.x ≡ 16 = search rules in c.rotate_left.ensures.after ∙ rotates c.args.x long
