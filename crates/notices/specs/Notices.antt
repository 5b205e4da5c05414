-- The characters of an answer to a line that is no command.
use Rattle.std.specs.Prelude.{ℕ, List, [], ◌∷◌}
use Rattle.refusals.specs.Numbers.{number_of}
use Rattle.text.specs.Hex.{in_digits}
use Rattle.decimal.specs.Decimal.{decimal}
use Rattle.answers.specs.Answers.{numbered, refusal_text}
use Rattle.books.specs.declared.Books as books
use Rattle.books.specs.Books.{books_text}
use Rattle.notices.specs.declared.Notice.{Notice}
use Rattle.notices.specs.declared.Notice.TheVariants.{Unread, Number, Refusal, Status, Count, Books}

unfoldable pub notice_text : Notice → books.Books → List ℕ
notice_text Unread k = 0x3F ∷ []
notice_text (Number n) k = numbered (number_of n)
notice_text (Refusal n) k = refusal_text n
notice_text (Status a b) k = in_digits (a ∷ b ∷ [])
notice_text (Count n) k = decimal n
notice_text Books k = books_text k
