use Rattle.drafts.specs.Drafts.{unchanged}
use Rattle.wire.proofs.Laws.{shows_whole}
use mathlib.Core.Path.{◌≡◌, refl}
use Prim.Native.Nat.{◌≤◌}
use lib.ListN.{length}
use native.Mathlib.Omega.{arith}
use borrow.Author.Rules.{rules}
use Rattle.drafts.proofs.parts.put_same.Goals as goal

pub returns : goal.returns
unfolding unchanged
returns c =
    let k : length c.args.text.now ≡ 1024 = search rules in
    let room : length c.args.line.now ≤ length c.args.text.now = omega (arith, k, c.requires) in (refl, shows_whole _ _ _ _ refl room c.lay.ensures)
