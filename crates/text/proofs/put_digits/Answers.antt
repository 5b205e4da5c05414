use Rattle.wire.proofs.Laws.{shows_as, shows_none}
use mathlib.Core.Path.{sym}
use lib.ListN.{length}
use mathlib.Core.List.{[]}
use native.Mathlib.Omega.{arith}
use Rattle.text.specs.Laws.{length_digits, digits_shown, digits_short}
use Rattle.text.specs.Hex.{in_digits}
use Rattle.text.proofs.put_digits.Goals as goal

pub returns-then-out-n : goal.returns-then-out-n
returns-then-out-n c =
    let a = c.args in
    let b = a.out.now in
    shows_as [] _ b b 0 (sym (digits_short (length b) a.bytes.now (omega arith))) (shows_none b)

pub returns : goal.returns
returns c =
    let a = c.args in
    let b = a.out.now in
    let bs = a.bytes.now in
    shows_as (in_digits bs) _ b _ _ (sym (digits_shown (length b) bs (omega arith))) (c.digits_all.ensures, sym (length_digits bs))
