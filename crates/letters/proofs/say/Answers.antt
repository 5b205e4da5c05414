use Rattle.notices.specs.Notices.{notice_text}
use Rattle.told.specs.Told.{said_of}
use Rattle.letters.specs.Letters.{unread, other_said, lettered}
use Rattle.wire.specs.Bytes.{part}
use Rattle.tables.specs.Choice.{picked, passed}
use borrow.Author.Tests.{lt-ltb, le-ltb, eq-eqb, ne_eqb}
use lib.ListN.{length}
use mathlib.Core.Path.{sym, ap, ◌∙◌}
use Rattle.letters.proofs.say.Goals as goal

pub returns-then-n-gt-LONGEST_LINE : goal.returns-then-n-gt-LONGEST_LINE
unfolding other_said said_of notice_text unread
returns-then-n-gt-LONGEST_LINE c = sym (picked _ _ (lt-ltb _ _ c.if-n-gt-LONGEST_LINE.true))

pub returns-then-n-eq0 : goal.returns-then-n-eq0
unfolding other_said
returns-then-n-eq0 c = c.power_up.ensures ∙ sym (passed _ _ (le-ltb _ _ c.if-n-gt-LONGEST_LINE.false) ∙ picked _ _ (eq-eqb _ _ c.if-n-eq0.true))

pub returns-then-desk : goal.returns-then-desk
unfolding other_said
returns-then-desk c =
    let l = c.args.line.now in
    c.say_lettered.ensures
    ∙ (ap (λ b. lettered c.args.desk b (part l 1 (length l))) c.byte_at.ensures
    ∙ sym (passed _ _ (le-ltb _ _ c.if-n-gt-LONGEST_LINE.false) ∙ (passed _ _ (ne_eqb _ _ c.if-n-eq0.false) ∙ picked _ _ c.if-desk.true)))

pub returns : goal.returns
unfolding other_said said_of notice_text unread
returns c = sym (passed _ _ (le-ltb _ _ c.if-n-gt-LONGEST_LINE.false) ∙ (passed _ _ (ne_eqb _ _ c.if-n-eq0.false) ∙ passed _ _ c.if-desk.false))
