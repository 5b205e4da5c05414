use native.Mathlib.Nat.{zero-add}
use Rattle.books.specs.Books.{books_text, books_in}
use Rattle.text.specs.Adds.{adds_then}
use Rattle.wire.proofs.Laws.{shows_as, shows_none}
use Rattle.tables.specs.Choice.{picked, passed}
use borrow.Author.Tests.{lt-ltb, le-ltb}
use mathlib.Core.Path.{sym}
use Rattle.books.proofs.Books.put.Goals as goal

pub returns-then-answer-lt-ROOM : goal.returns-then-answer-lt-ROOM
unfolding books_in
returns-then-answer-lt-ROOM c = shows_as _ _ _ _ _ (sym (picked _ _ (lt-ltb _ _ c.if-answer-lt-ROOM.true))) (shows_none c.args.answer.now)

pub returns : goal.returns
unfolding books_in books_text
returns c =
    shows_as _ _ _ _ _ (sym (passed _ _ (le-ltb _ _ c.if-answer-lt-ROOM.false)))
    (rw zero-add at (adds_then _ _ _ _ c.put_figures-a.ensures.adds c.add_marks.ensures))
