use Rattle.lines.specs.Lines.{line_length}
use Rattle.lines.proofs.Characters.{length_end}
use Rattle.lines.proofs.Laws.{length_none, length_most, length_searched}
use Prim.Native.Nat.{◌+◌, ◌-◌}
use lib.ListN.{length, drop, length-drop}
use lib.Seq.{take_all}
use mathlib.Core.Path.{◌≡◌, sym, ap, ◌∙◌}
use native.Mathlib.Nat.{add-zero}
use native.Mathlib.Omega.{arith}
use Rattle.lines.proofs.line_end.Goals as goal
use Rattle.lines.proofs.line_end.Goals.{After-unwrap_or}

searched : (k : After-unwrap_or) → k.unwrap_or.result ≡ line_length (drop k.args.at k.args.text.now)
searched k =
    let l = length-drop k.args.at k.args.text.now in
    k.unwrap_or.ensures
    ∙ (sym (length_searched _ _ k.memchr.ensures) ∙ ap line_length (take_all (length k.args.text.now - k.args.at) (drop k.args.at k.args.text.now) (omega arith)))

pub returns-then-text-at : goal.returns-then-text-at
returns-then-text-at c = let a = c.args in sym (ap (λ n. a.at + n) (length_none a.text.now a.at c.if-text-at.true) ∙ add-zero a.at)

pub returns-then-text-at-eq10 : goal.returns-then-text-at-eq10
returns-then-text-at-eq10 c =
    let a = c.args in
    sym (ap (λ n. a.at + n) (length_end a.text.now a.at (omega arith) c.if-text-at-eq10.true) ∙ add-zero a.at)

pub overflow_add-result : goal.overflow_add-result
overflow_add-result c =
    let a = c.args in
    record { fits = omega (arith, searched c, length_most (drop a.at a.text.now), length-drop a.at a.text.now, c.well_formed) }

pub returns : goal.returns
returns c = ap (λ n. c.args.at + n) (searched c)
