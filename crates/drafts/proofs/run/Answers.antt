use Rattle.drafts.specs.Drafts.{drafted}
use Rattle.lines.specs.Laws.{Ends}
use Rattle.lines.proofs.Laws.{line_ends}
use Rattle.wire.proofs.Laws.{shows_fits, shows_there}
use Rattle.lines.proofs.Sofar.{sofar_start, sofar_end, sofar_part, sofar_full, sofar_next, sofar_as}
use Rattle.text.specs.Shown.{in_room, Adds}
use Rattle.wire.specs.Bytes.{part}
use borrow.Author.Rules.{rules}
use lib.ListN.{length}
use native.Mathlib.Omega.{arith}
use Prim.Native.Nat.{ℕ, ◌-◌, ◌≤◌, ◌<◌}
use mathlib.Core.List.{List, [], ◌∷◌, ◌++◌}
use mathlib.Core.Path.{◌≡◌, sym, subst, ◌∙◌}
use Rattle.drafts.proofs.run.Goals as goal
use Rattle.drafts.proofs.run.Goals.{After-line_end-e, After-put-put, After-write_line-step, Else-e-text}

-- ---- what the places of a turn know
-- the line goes up to the next LF
ends : (c : After-line_end-e) → Ends c.args.text.now c.loop-at.at c.line_end-e.result
ends c = line_ends c.args.text.now c.loop-at.at c.loop-at.invariant.1.place c.line_end-e.ensures

inside : (c : Else-e-text) → c.line_end-e.result < length c.args.text.now
inside c = omega (arith, c.if-e-text.false, (line_ends c.args.text.now c.loop-at.at c.loop-at.invariant.1.place c.line_end-e.ensures).2)

-- what it writes lies at the front of its buffer
written : (c : After-write_line-step) → (c.write_line-step.result.len ≤ 1024) × (length c.write_line-step.new.text ≡ 1024)
written c =
    let w = c.write_line-step in
    let l = c.loop-at.invariant.0 in
    let n : length w.new.text ≡ 1024 = search rules in
    (omega (arith, shows_fits _ _ _ _ w.ensures.1 (n ∙ sym l)), n)

-- and was put behind what was written before
put_line : (c : After-put-put) → let v = c.loop-at in
    Adds (in_room (length v.out - v.n) ((drafted v.draft (part c.args.text.now v.at c.line_end-e.result)).out ++ 0x0A ∷ [])) v.out v.n c.put-put.new.out c.put-put.result
put_line c = let v = c.loop-at in
    subst (λ (x : List ℕ). Adds (in_room (length v.out - v.n) (x ++ 0x0A ∷ [])) v.out v.n c.put-put.new.out c.put-put.result) (shows_there _ _ _ _ c.write_line-step.ensures.1) c.put-put.ensures

-- ---- the needs
pub loop-at-init : goal.loop-at-init
loop-at-init c = (search rules, sofar_start drafted _ _ _)

pub returns-then-e-text : goal.returns-then-e-text
returns-then-e-text c = sofar_part drafted _ _ _ _ _ _ _ c.loop-at.invariant.1 _ (ends (goal.at.returns-then-e-text c).After-line_end-e).0 c.if-e-text.true

pub slice_bounds-write_line-end : goal.slice_bounds-write_line-end
slice_bounds-write_line-end c = omega (arith, (ends (goal.at.slice_bounds-write_line-end c).After-line_end-e).2)

pub slice_bounds-put-end : goal.slice_bounds-put-end
slice_bounds-put-end c =
    let p = (goal.at.slice_bounds-put-end c).After-write_line-step in
    omega (arith, (written p).0, (written p).1)

pub returns-then-put-n : goal.returns-then-put-n
returns-then-put-n c =
    let p = (goal.at.returns-then-put-n c).After-line_end-e in
    let v = c.loop-at in sofar_full drafted _ _ _ _ _ _ _ v.invariant.1 _ (ends p).0 (ends p).1 (inside (goal.at.returns-then-put-n c).Else-e-text) _ _ (put_line (goal.at.returns-then-put-n c).After-put-put) c.if-put-n.true

pub loop-at-preserved : goal.loop-at-preserved
loop-at-preserved c =
    let p = (goal.at.loop-at-preserved c).After-line_end-e in
    let v = c.loop-at in let w = c.write_line-step in (search rules, sofar_as drafted _ _ _ _ _ _ _ _ w.ensures.0 (sofar_next drafted _ _ _ _ _ _ _ v.invariant.1 _ (ends p).0 (ends p).1 (inside (goal.at.loop-at-preserved c).Else-e-text) _ _ (put_line (goal.at.loop-at-preserved c).After-put-put) c.if-put-n.false))

pub returns : goal.returns
returns c = sofar_end drafted _ _ _ _ _ _ _ c.loop-at.invariant.1 c.loop-at-test.false
