-- The books of a card, in eight fields with single spaces.
use Rattle.std.specs.Prelude.{ℕ, Bool, not, ◌||◌, List, [], ◌∷◌, ◌++◌, ltb}
use Rattle.tables.specs.Choice.{pick}
use Rattle.purse.specs.declared.Purse.{Purse}
use Rattle.chains.specs.Chain.{is_open}
use Rattle.channel.specs.declared.Stage.{Stage}
use Rattle.channel.specs.declared.Stage.TheVariants.{Closed, Bench, Waiting, Real}
use Rattle.decimal.specs.Decimal.{decimal, signed_decimal}
use Rattle.books.specs.declared.Books.{Books}

abbrev pub field : List ℕ → List ℕ
field x = x ++ 0x20 ∷ []

-- what is pending: value, new entry, clear, and behind them a write whose chain is open
unfoldable pub pending_letters : Bool → Bool → Bool → Bool → List ℕ
pending_letters v n c w =
    pick v (0x76 ∷ []) []
    ++ pick n (0x6E ∷ []) []
    ++ pick c (0x63 ∷ []) []
    ++ pick w (0x77 ∷ []) []
    ++ pick (not (v || n || c || w)) (0x2D ∷ []) []

-- the session: `-`, the bench's `3`, a first part that waits `3?`, a real one at counter 17 `3:17`
unfoldable pub stage_text : Stage → List ℕ
stage_text Closed = 0x2D ∷ []
stage_text (Bench k) = decimal k
stage_text (Waiting k) = decimal k ++ 0x3F ∷ []
stage_text (Real k n) = decimal k ++ 0x3A ∷ [] ++ decimal n

unfoldable pub figures_text : Purse → List ℕ
figures_text p =
    field (signed_decimal p.value)
    ++ field (signed_decimal p.pending)
    ++ field (decimal p.allowance)
    ++ field (decimal p.left)
    ++ field (decimal p.debits)

unfoldable pub marks_text : Books → List ℕ
marks_text b = field (decimal b.log.count) ++ field (pending_letters b.purse.moved b.log.adds b.log.clears (is_open b.chain)) ++ stage_text b.stage

unfoldable pub books_text : Books → List ℕ
books_text b = figures_text b.purse ++ marks_text b

-- where there is room for any books, else nothing
unfoldable pub books_in : ℕ → Books → List ℕ
books_in room b = pick (ltb room 96) [] (books_text b)
