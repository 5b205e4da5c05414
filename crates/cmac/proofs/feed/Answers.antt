use mathlib.Core.Path.{ap, ap₂, ◌∙◌, sym}
use mathlib.Core.List.{List}
use Prim.Native.Nat.{ℕ}
use lib.ListN.{get_or}
use Rattle.cmac.specs.declared.Held.{Held}
use Rattle.cmac.specs.Fed.{put, holding, step}
use Rattle.cmac.proofs.Stream.{fed_next, step_in, step_over}
use Rattle.cmac.proofs.feed.Goals as goal
use Rattle.cmac.proofs.feed.Goals.{then-held-lt16, else-held-lt16}

pub loop-a-preserved : goal.loop-a-preserved
loop-a-preserved c =
    let l = c.loop-a in
    let w = c.args.w in
    let m = c.args.m.now in
    let x = get_or m l.a-index 0 in
    let before = holding c.args.s.block c.args.s.held in
    let more = ap (λ (s : Held). step w s x) l.invariant ∙ sym (fed_next w before m l.a-index c.loop-a-test.true) in
    elim c.if-held-lt16.branch [
      | then-held-lt16 u ↦ ap₂ holding u.block-is u.held-is ∙ sym (step_in w l.block l.held x u.if-held-lt16.true) ∙ more
      | else-held-lt16 u ↦
          ap₂ holding (u.block-is ∙ ap (λ (b : List ℕ). put b 0 x) u.cipher-next.ensures) u.held-is
          ∙ sym (step_over w l.block l.held x u.if-held-lt16.false) ∙ more
    ]
