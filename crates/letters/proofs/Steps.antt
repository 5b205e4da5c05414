-- A letter's line from the bytes that were spelt.
use Prim.Native.Nat.{ℕ, ◌*◌}
use mathlib.Core.Bool.{false, false≢true}
use mathlib.Core.List.{List}
use mathlib.Core.Path.{◌≡◌, refl}
use lib.Dec.{eqb}
use lib.ListN.{length}
use Rattle.text.specs.Hex.{leading}
use Rattle.kinds.specs.declared.Kind.{Kind}
use Rattle.kinds.specs.declared.Kind.TheVariants.{Order, NoSession, Session, Room, HandedIn, Opening, FileBytes, Books, Count, Unread}
use Rattle.kinds.specs.Kinds.{kind_of}
use Rattle.kinds.specs.Laws.{Known, known}
use Rattle.lines.proofs.Laws.{said_by}
use Rattle.desk.specs.declared.Desk.{Desk}
use Rattle.letters.specs.Letters.{lettered_by, lettered}

module _ (k : Desk) (letter : ℕ) where
  -- where they are no digits, no line looks at them
  bare : (x : Kind) (n : ℕ) (a b : List ℕ) → Known n false x → lettered_by k x a ≡ lettered_by k x b
  unfolding lettered_by Known
  bare Order n a b h = absurd (false≢true h)
  bare NoSession n a b h = refl
  bare Session n a b h = absurd (false≢true h)
  bare Room n a b h = absurd (false≢true h)
  bare HandedIn n a b h = absurd (false≢true h.1)
  bare Opening n a b h = absurd (false≢true h)
  bare FileBytes n a b h = absurd (false≢true h)
  bare Books n a b h = refl
  bare Count n a b h = refl
  bare Unread n a b h = refl

  -- b are the n bytes of its leading digits
  pub lettered_by_lem : (rest b : List ℕ) (n : ℕ) → b ≡ leading rest → n ≡ length (leading rest)
      → lettered_by k (kind_of letter (length rest) (eqb (2 * n) (length rest))) b ≡ lettered k letter rest
  unfolding lettered
  lettered_by_lem rest b n e l = said_by (λ digits x. lettered_by k (kind_of letter (length rest) digits) x) (λ a b. bare (kind_of letter (length rest) false) (length rest) a b (known letter (length rest) false)) rest b n e l
