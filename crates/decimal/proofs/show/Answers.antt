use Rattle.text.specs.Laws.{room_yes, room_no}
use Rattle.wire.proofs.Laws.{laid_room, laid_behind, shows_as, shows_none}
use Rattle.wire.specs.Bytes.{laid}
use lib.ListN.{length, length-append}
use mathlib.Core.List.{[], ◌++◌}
use mathlib.Core.Path.{◌≡◌, sym, ap, ◌∙◌}
use native.Mathlib.Omega.{arith}
use Rattle.decimal.proofs.show.Goals as goal

pub returns-then-out-n : goal.returns-then-out-n
returns-then-out-n c =
    let a = c.args in
    let b = a.out.now in
    let l = length-append a.sign.now a.digits.now in
    shows_as [] _ b b 0 (sym (room_no (length b) (a.sign.now ++ a.digits.now) (omega arith))) (shows_none b)

pub returns : goal.returns
returns c =
    let a = c.args in
    let b = a.out.now in
    let x = a.sign.now in
    let w = a.digits.now in
    let l = length-append x w in
    let first : c.lay.new.dst ≡ laid b 0 x = c.lay.ensures ∙ laid_room b 0 x (omega arith) in
    let both : c.lay-2.new.dst ≡ laid b 0 (x ++ w) =
    c.lay-2.ensures ∙ laid_room c.lay.new.dst (length x) w (omega (arith, c.lay.auto.dst)) ∙ ap (λ d. laid d (length x) w) first ∙ laid_behind b x w in
    shows_as (x ++ w) _ b _ _ (sym (room_yes (length b) (x ++ w) (omega arith))) (both, sym l)
