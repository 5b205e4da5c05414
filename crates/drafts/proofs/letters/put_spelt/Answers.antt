use Rattle.drafts.proofs.Steps.{writes_as}
use Rattle.drafts.proofs.Lettered.{by_m, by_a, by_n, by_c, by_over, by_other}
use Rattle.drafts.specs.Drafts.{unchanged}
use Rattle.held.specs.declared.Draft.{Draft}
use mathlib.Core.Path.{ap, ◌∙◌}
use Rattle.drafts.proofs.letters.put_spelt.Goals as goal

pub returns-then-letter-digits : goal.returns-then-letter-digits
returns-then-letter-digits c = let a = c.args in writes_as a.text.now _ _ (by_m a.draft a.line.now a.letter a.n a.digits a.b.now c.if-letter-digits.true) c.put_maced.ensures

pub returns-then-letter-n : goal.returns-then-letter-n
returns-then-letter-n c = let a = c.args in writes_as a.text.now _ _ (by_a a.draft a.line.now a.letter a.n a.digits a.b.now c.if-letter-digits.false c.if-letter-n.true) c.put_authenticated.ensures

pub returns-then-letter-n-2 : goal.returns-then-letter-n-2
returns-then-letter-n-2 c = let a = c.args in writes_as a.text.now _ _ (ap (λ (d : Draft). unchanged d a.line.now) c.noted.ensures ∙ by_n a.draft a.line.now a.letter a.n a.digits a.b.now c.if-letter-digits.false c.if-letter-n.false c.if-letter-n-2.true) c.put_same.ensures

pub returns-then-letter-n-3 : goal.returns-then-letter-n-3
returns-then-letter-n-3 c =
    let a = c.args in
    writes_as a.text.now _ _
    (ap (λ (d : Draft). unchanged d a.line.now) c.counted.ensures ∙ by_c a.draft a.line.now a.letter a.n a.digits a.b.now c.if-letter-digits.false c.if-letter-n.false c.if-letter-n-2.false c.if-letter-n-3.true)
    c.put_same-then-letter-n-3.ensures

pub returns-then-letter : goal.returns-then-letter
returns-then-letter c =
    let a = c.args in
    writes_as a.text.now _ _
    (ap (λ (d : Draft). unchanged d a.line.now) c.over.ensures ∙ by_over a.draft a.line.now a.letter a.n a.digits a.b.now c.if-letter-digits.false c.if-letter-n.false c.if-letter-n-2.false c.if-letter-n-3.false c.if-letter.true)
    c.put_same-then-letter.ensures

pub returns : goal.returns
returns c =
    let a = c.args in
    writes_as a.text.now _ _
    (by_other a.draft a.line.now a.letter a.n a.digits a.b.now c.if-letter-digits.false c.if-letter-n.false c.if-letter-n-2.false c.if-letter-n-3.false c.if-letter.false)
    c.put_same-2.ensures
