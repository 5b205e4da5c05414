use borrow.Author.Rules.{rules}
use mathlib.Core.Path.{◌≡◌, refl, ap, ◌∙◌}
use lib.ListN.{length, get_or, take}
use Rattle.lookup.proofs.Made.{made}
use Rattle.cbc.specs.Cbc.{decrypted}
use Rattle.handshake.specs.Guarded.{brought_in}
use Rattle.handshake.specs.Handshake.{brought_a}
use Rattle.handshake.proofs.Laying.{first_block}
use Rattle.handshake.proofs.brought_a.Goals as goal

pub returns : goal.returns
unfolding brought_in brought_a
returns c =
    let x = c.decrypt-x.result in
    let long : length x ≡ 32 = search rules in
    made _ _ (λ i. get_or x i 0) 16 _ (λ i y f l k. search rules) c.from_fn.ensures.items ∙ first_block x long
    ∙ ap (take 16) (c.decrypt-x.ensures.whole refl ∙ ap (decrypted c.args.k) c.pair.ensures)
