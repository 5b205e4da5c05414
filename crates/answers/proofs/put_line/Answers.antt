use Rattle.answers.proofs.Steps.{line_short, line_size, line_added}
use Rattle.answers.specs.Answers.{reply_size}
use borrow.Author.Tests.{ltb-false}
use lib.ListN.{length}
use native.Mathlib.Omega.{arith}
use mathlib.Core.Path.{sym, ◌∙◌}
use Rattle.answers.proofs.put_line.Goals as goal

pub returns-then-out-at : goal.returns-then-out-at
returns-then-out-at c =
    let a = c.args in
    line_short a.refusal a.bytes.now a.out.now a.at (omega arith)

pub returns-then-not-fits : goal.returns-then-not-fits
returns-then-not-fits c =
    let a = c.args in
    let f = sym c.fits.ensures ∙ c.if-not-fits.true in
    line_short a.refusal a.bytes.now a.out.now a.at (ltb-false (reply_size a.refusal (length a.bytes.now)) _ f)

pub overflow_add-at : goal.overflow_add-at
overflow_add-at c =
    let a = c.args in
    let f = sym c.fits.ensures ∙ c.if-not-fits.false in
    let z = line_size a.refusal a.bytes.now a.out.now a.at _ _ c.if-out-at.false f c.put_reply-len.ensures in
    omega (arith, c.well_formed)

pub overflow_add-result : goal.overflow_add-result
overflow_add-result c =
    let a = c.args in
    let f = sym c.fits.ensures ∙ c.if-not-fits.false in
    let z = line_size a.refusal a.bytes.now a.out.now a.at _ _ c.if-out-at.false f c.put_reply-len.ensures in
    omega (arith, c.well_formed)

pub overflow_add-result-2 : goal.overflow_add-result-2
overflow_add-result-2 c =
    let a = c.args in
    let f = sym c.fits.ensures ∙ c.if-not-fits.false in
    let z = line_size a.refusal a.bytes.now a.out.now a.at _ _ c.if-out-at.false f c.put_reply-len.ensures in
    omega (arith, c.well_formed)

pub returns : goal.returns
returns c =
    let a = c.args in
    let f = sym c.fits.ensures ∙ c.if-not-fits.false in
    line_added a.refusal a.bytes.now a.out.now a.at _ _ c.if-out-at.false f c.put_reply-len.ensures c.lay.ensures
