use Rattle.decimal.specs.Laws.{decimal_shown}
use Rattle.notices.specs.Notices.{notice_text}
use Rattle.answers.specs.Answers.{numbered, refusal_text}
use Rattle.answers.specs.Laws.{length_numbered, length_refusal}
use Rattle.books.specs.Books.{books_in}
use Rattle.text.specs.Laws.{room_yes, digits_shown}
use Rattle.wire.proofs.Laws.{shows_as, shows_whole}
use Rattle.tables.specs.Choice.{passed}
use borrow.Author.Tests.{le-ltb}
use lib.ListN.{length}
use native.Mathlib.Omega.{arith}
use mathlib.Core.List.{[], ◌∷◌}
use mathlib.Core.Path.{refl, ap, sym, ◌∙◌}
use Rattle.notices.proofs.put_text.Goals as goal

pub returns-in-Unread : goal.returns-in-Unread
unfolding notice_text
returns-in-Unread c =
    rw (ap (λ a. notice_text a c.args.books) c.in-Unread.is) (shows_whole (0x3F ∷ []) c.args.text.now _ 1 refl (omega arith) c.lay.ensures)

pub returns-in-Number : goal.returns-in-Number
unfolding notice_text
returns-in-Number c =
    let n = c.number_of.result in
    shows_as _ _ _ _ _ (room_yes (length c.args.text.now) (numbered n) (omega (arith, length_numbered n)) ∙ ap numbered c.number_of.ensures ∙ sym (ap (λ a. notice_text a c.args.books) c.in-Number.is)) c.put_number.ensures

pub returns-in-Refusal : goal.returns-in-Refusal
unfolding notice_text
returns-in-Refusal c =
    shows_as _ _ _ _ _ (room_yes (length c.args.text.now) (refusal_text c.in-Refusal.refusal) (omega (arith, length_refusal c.in-Refusal.refusal)) ∙ sym (ap (λ a. notice_text a c.args.books) c.in-Refusal.is)) c.put_refusal.ensures

pub returns-in-Status : goal.returns-in-Status
unfolding notice_text
returns-in-Status c =
    let two = c.in-Status.high ∷ c.in-Status.low ∷ [] in
    shows_as _ _ _ _ _ (digits_shown (length c.args.text.now) two (omega arith) ∙ sym (ap (λ a. notice_text a c.args.books) c.in-Status.is)) c.put_digits.ensures

pub returns-in-Count : goal.returns-in-Count
unfolding notice_text
returns-in-Count c =
    shows_as _ _ _ _ _ (decimal_shown (length c.args.text.now) c.in-Count.n (omega arith) ∙ sym (ap (λ a. notice_text a c.args.books) c.in-Count.is)) c.put_decimal.ensures

pub returns-in-Books : goal.returns-in-Books
unfolding notice_text books_in
returns-in-Books c =
    let e = ap (λ a. notice_text a c.args.books) c.in-Books.is in
    shows_as _ _ _ _ _ (passed _ _ (le-ltb (length c.args.text.now) 96 (omega arith)) ∙ sym e) c.put.ensures
