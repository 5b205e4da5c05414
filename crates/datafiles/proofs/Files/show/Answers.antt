use Rattle.datafiles.proofs.Laws.{sized, shown_short, shown_outside, shown_inside, end_inside}
use Rattle.datafiles.specs.Files.{shown}
use Rattle.roles.specs.Roles.{size_of}
use Rattle.wire.proofs.Laws.{shows_none, shows_as}
use native.Mathlib.Omega.{arith}
use Rattle.roles.specs.Laws.{size_most}
use borrow.Author.Rules.{rules}
use lib.ListN.{length}
use mathlib.Core.Path.{◌≡◌, ap, sym, ◌∙◌}
use Rattle.datafiles.proofs.Files.show.Goals as goal

pub returns-then-reply-lt-LONG : goal.returns-then-reply-lt-LONG
returns-then-reply-lt-LONG c =
    let a = c.args in
    shows_as _ _ _ _ _ (shown_short _ a.self a.role a.off a.len (omega arith)) (shows_none a.reply.now)

pub returns-then-is_outside : goal.returns-then-is_outside
returns-then-is_outside c =
    let a = c.args in
    shows_as _ _ _ _ _ (shown_outside _ a.self a.role a.off a.len (simp c.size-size.ensures at (sym c.is_outside.ensures ∙ c.if-is_outside.true))) (shows_none a.reply.now)

pub show_part-requires : goal.show_part-requires
show_part-requires c =
    let z = c.size-size.ensures in
    let a = c.args in
    let n : length c.bytes.result.now ≡ size_of a.role = ap length c.bytes.ensures ∙ sized a.self (search rules) (search rules) (search rules) a.role in
    let m = size_most a.role in
    let i = end_inside (size_of a.role) a.off a.len (simp z at (sym c.is_outside.ensures ∙ c.if-is_outside.false)) in
    let t = simp z at c.end_of-to.ensures in
    (omega arith, omega arith, omega arith)

pub returns : goal.returns
unfolding shown
returns c =
    let z = c.size-size.ensures in
    let a = c.args in
    let i = simp z at (sym c.is_outside.ensures ∙ c.if-is_outside.false) in
    shows_as _ _ _ _ _ (shown_inside _ a.self a.role a.off a.len (omega arith) i) (simp (c.end_of-to.ensures, z, c.bytes.ensures) at c.show_part.ensures)
