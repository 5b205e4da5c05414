use Rattle.std.specs.Prelude.{Some}
use Rattle.kinds.specs.declared.Kind.TheVariants.{Order, NoSession, Session, Room, HandedIn, Opening, FileBytes, Books, Count, Unread}
use Rattle.card.specs.Events.{session_changed}
use Rattle.notices.specs.Notices.{notice_text}
use Rattle.told.specs.Told.{said_of, framed}
use Rattle.letters.specs.Letters.{unread, counted, lent, book_kept, stored_told, lettered_by}
use mathlib.Core.Path.{◌≡◌, refl, ap, ◌∙◌}
use borrow.Author.Rules.{rules}
use Rattle.letters.proofs.bench.say_kind.Goals as goal

pub returns-in-Order : goal.returns-in-Order
unfolding lettered_by
returns-in-Order c = let e : c.args.kind ≡ Order = search rules in rw e c.personalise.ensures

pub returns-in-NoSession : goal.returns-in-NoSession
unfolding lettered_by
returns-in-NoSession c = let e : c.args.kind ≡ NoSession = search rules in rw e c.change_session.ensures

pub returns-in-Session : goal.returns-in-Session
unfolding lettered_by
returns-in-Session c = let e : c.args.kind ≡ Session = search rules in rw e (c.change_session-in-Session.ensures ∙ ap (λ b. counted c.args.desk (session_changed c.args.desk.card (Some b))) c.byte_at.ensures)

pub returns-in-Room : goal.returns-in-Room
unfolding lettered_by
returns-in-Room c = let e : c.args.kind ≡ Room = search rules in rw e (c.lend.ensures ∙ ap (lent c.args.desk) c.length_in.ensures)

pub returns-in-HandedIn : goal.returns-in-HandedIn
unfolding lettered_by
returns-in-HandedIn c = let e : c.args.kind ≡ HandedIn = search rules in rw e c.hand_in.ensures

pub returns-in-Opening : goal.returns-in-Opening
unfolding lettered_by framed
returns-in-Opening c = let e : c.args.kind ≡ Opening = search rules in rw e c.play.ensures

pub returns-in-FileBytes : goal.returns-in-FileBytes
unfolding lettered_by framed
returns-in-FileBytes c = let e : c.args.kind ≡ FileBytes = search rules in rw e c.play-in-FileBytes.ensures

pub returns-in-Books : goal.returns-in-Books
unfolding lettered_by said_of notice_text book_kept
returns-in-Books c = let e : c.args.kind ≡ Books = search rules in rw e refl

pub returns-in-Count : goal.returns-in-Count
unfolding lettered_by said_of notice_text stored_told
returns-in-Count c = let e : c.args.kind ≡ Count = search rules in rw e refl

pub returns-in-Unread : goal.returns-in-Unread
unfolding lettered_by said_of notice_text unread
returns-in-Unread c = let e : c.args.kind ≡ Unread = search rules in rw e refl
