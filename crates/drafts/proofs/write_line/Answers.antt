use Rattle.drafts.proofs.Steps.{writes_as}
use Rattle.drafts.proofs.Lettered.{digits_by, by_long, by_none, by_digits, by_letter}
use Rattle.held.specs.Held.{sent}
use Rattle.drafts.specs.Drafts.{unchanged}
use Rattle.held.specs.declared.Draft.{Draft}
use Rattle.text.specs.Hex.{is_hex, spelt}
use Rattle.wire.specs.Bytes.{part}
use borrow.Author.Tests.{eq-eqb, ne_eqb}
use lib.Dec.{eqb}
use lib.ListN.{length, replicate}
use Prim.Native.Nat.{◌*◌, ◌≤◌}
use mathlib.Core.Bool.{true}
use mathlib.Core.Path.{◌≡◌, ap, ◌∙◌}
use native.Mathlib.Omega.{arith}
use Rattle.drafts.proofs.write_line.Goals as goal
use Rattle.drafts.proofs.write_line.Goals.{After-spell-size}

-- whether the line is digits, and the bytes that they spell
line_digits : (c : After-spell-size) → let l = c.args.line.now in
    (is_hex l ≡ eqb (2 * c.spell-size.result) (length l)) × (is_hex l ≡ true → part c.spell-size.new.out 0 c.spell-size.result ≡ spelt l) × (c.spell-size.result ≤ 512)
line_digits c = digits_by c.args.line.now (replicate 512 0) _ _ c.if-n-gt-LONGEST_LINE.false (omega arith) c.spell-size.ensures

pub returns-then-n-gt-LONGEST_LINE : goal.returns-then-n-gt-LONGEST_LINE
returns-then-n-gt-LONGEST_LINE c = let a = c.args in writes_as a.text.now _ _ (by_long a.draft a.line.now c.if-n-gt-LONGEST_LINE.true) c.put_unread.ensures

pub returns-then-n-eq0 : goal.returns-then-n-eq0
returns-then-n-eq0 c = let a = c.args in writes_as a.text.now _ _ (ap (λ (d : Draft). unchanged d a.line.now) c.over.ensures ∙ by_none a.draft a.line.now c.if-n-gt-LONGEST_LINE.false c.if-n-eq0.true) c.put_same.ensures

pub overflow_mul-size : goal.overflow_mul-size
overflow_mul-size c = omega (arith, (line_digits (goal.at.overflow_mul-size c).After-spell-size).2)

pub returns-then-size-n : goal.returns-then-size-n
returns-then-size-n c = let a = c.args in let t = line_digits (goal.at.returns-then-size-n c).After-spell-size in let y = t.0 ∙ eq-eqb _ _ c.if-size-n.true in writes_as a.text.now _ _ (ap (λ (d : Draft). unchanged d a.line.now) (c.sent.ensures ∙ ap (sent a.draft) (t.1 y)) ∙ by_digits a.draft a.line.now c.if-n-gt-LONGEST_LINE.false c.if-n-eq0.false y) c.put_same-then-size-n.ensures

pub returns : goal.returns
returns c = let a = c.args in let t = line_digits (goal.at.returns c).After-spell-size in writes_as a.text.now _ _ (by_letter a.draft a.line.now c.if-n-gt-LONGEST_LINE.false c.if-n-eq0.false (t.0 ∙ ne_eqb _ _ c.if-size-n.false)) c.put_lettered.ensures
