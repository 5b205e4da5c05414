use mathlib.Core.Path.{ap, ◌∙◌, sym}
use mathlib.Core.List.{List, ◌++◌}
use Prim.Native.Nat.{ℕ}
use Rattle.field.specs.Bytes.{zeros}
use Rattle.cmac.specs.declared.Held.{Held}
use Rattle.cmac.specs.Fed.{holding, fed, closed}
use Rattle.cmac.proofs.Stream.{fed_append, streamed}
use Rattle.cmac.proofs.tag.Goals as goal

pub returns : goal.returns
returns c =
    let a = c.args in
    let w = c.key_expansion-w.result in
    let h = a.head.now in
    let r = a.rest.now in
    c.close.ensures
    ∙ ap (closed w)
    (c.feed-2.ensures ∙ ap (λ (s : Held). fed w s r) c.feed.ensures ∙ sym (fed_append w (holding zeros 0) h r))
    ∙ ap (λ (w : List (List ℕ)). closed w (fed w (holding zeros 0) (h ++ r))) c.key_expansion-w.ensures
    ∙ streamed a.key (h ++ r)
