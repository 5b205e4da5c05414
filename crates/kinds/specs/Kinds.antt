-- What a line that begins with a letter asks for.
use Rattle.std.specs.Prelude.{ℕ, Bool, ◌&&◌, ◌||◌, eqb, leb}
use Rattle.tables.specs.Choice.{pick}
use Rattle.kinds.specs.declared.Kind.{Kind}
use Rattle.kinds.specs.declared.Kind.TheVariants.{Order, NoSession, Session, Room, HandedIn, Opening, FileBytes, Books, Count, Unread}

-- the digits of an order: up to the switches, up to the modes, or with the numbers of the files behind them
abbrev pub is_order : ℕ → Bool
is_order n = eqb n 46 || eqb n 208 || eqb n 218

-- the letter, the number of characters behind it, and whether they are digits, two for each byte
unfoldable pub kind_of : ℕ → ℕ → Bool → Kind
kind_of letter n digits =
    pick (eqb letter 0x50 && is_order n && digits) Order
    (pick (eqb letter 0x53 && eqb n 0) NoSession
    (pick (eqb letter 0x53 && eqb n 2 && digits) Session
    (pick (eqb letter 0x52 && eqb n 4 && digits) Room
    (pick (eqb letter 0x4E && eqb n 40 && digits) HandedIn
    (pick (eqb letter 0x43 && leb 2 n && digits) Opening
    (pick (eqb letter 0x44 && digits) FileBytes
    (pick (eqb letter 0x42 && eqb n 0) Books
    (pick (eqb letter 0x4C && eqb n 0) Count
    Unread))))))))
