use Rattle.notices.specs.Notices.{notice_text}
use Rattle.told.specs.Told.{said_of}
use Rattle.letters.specs.Letters.{unread, lent}
use Rattle.tables.specs.Choice.{picked, passed}
use borrow.Author.Tests.{lt-ltb, le-ltb}
use mathlib.Core.Path.{sym}
use Rattle.letters.proofs.bench.lend.Goals as goal

pub returns-then-n-gt-MOST_ROOM : goal.returns-then-n-gt-MOST_ROOM
unfolding said_of notice_text lent unread
returns-then-n-gt-MOST_ROOM c = sym (picked _ _ (lt-ltb _ _ c.if-n-gt-MOST_ROOM.true))

pub returns : goal.returns
unfolding said_of notice_text lent
returns c = sym (passed _ _ (le-ltb _ _ c.if-n-gt-MOST_ROOM.false))
