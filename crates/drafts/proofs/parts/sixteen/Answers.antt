use Rattle.std.proofs.Common.{rules, ◌∙◌, sym, ap, ◌≡◌, ◌+◌, ◌-◌, get_or, take, drop, length-drop, arith}
use Rattle.std.proofs.lemmas.List.{get_or-take, get_or-drop, get_or_default}
use lib.Seq.{length-take-le}
use Rattle.lookup.proofs.Made.{made, by_places}
use Rattle.drafts.proofs.parts.sixteen.Goals as goal

pub returns : goal.returns
returns c =
    let x = c.args.b.now in
    let at = c.args.at in
    let d = length-drop at x in
    let l : 16 ≡ at + 16 - at = omega arith in
    made _ _ (λ i. get_or x (at + i) 0) 16 _ (λ i y f l k. search rules) c.from_fn.ensures.items
    ∙ sym
    (by_places 16 (take 16 (drop at x)) (λ i. get_or x (at + i) 0) (length-take-le 16 (drop at x) (omega arith))
    (λ i e h. get_or-take 16 (drop at x) i e h ∙ get_or-drop at x i e ∙ get_or_default x (at + i) e 0 (omega arith)))
    ∙ ap (λ n. take n (drop at x)) l
