-- What is known of a line by its kind.
use Rattle.std.specs.Prelude.{ℕ, Bool, true, ◌&&◌, ◌≡◌, eqb, leb}
use Rattle.std.proofs.Common.{eqb-true}
use Rattle.tables.specs.Choice.{pick_cases, and_yes}
use Rattle.kinds.specs.declared.Kind.{Kind}
use Rattle.kinds.specs.declared.Kind.TheVariants.{Order, NoSession, Session, Room, HandedIn, Opening, FileBytes, Books, Count, Unread}
use Rattle.kinds.specs.Kinds.{is_order, kind_of}

-- where it has bytes, digits spell them; what the bench hands in is 40 of them
unfoldable pub Known : ℕ → Bool → Kind → Type 0
Known n digits Order = digits ≡ true
Known n digits NoSession = Unit {0}
Known n digits Session = digits ≡ true
Known n digits Room = digits ≡ true
Known n digits HandedIn = (n ≡ 40) × (digits ≡ true)
Known n digits Opening = digits ≡ true
Known n digits FileBytes = digits ≡ true
Known n digits Books = Unit {0}
Known n digits Count = Unit {0}
Known n digits Unread = Unit {0}

pub known : (letter n : ℕ) (digits : Bool) → Known n digits (kind_of letter n digits)
unfolding kind_of Known
known letter n digits =
    pick_cases (Known n digits) _ _ _ (λ t. (and_yes (eqb letter 0x50 && is_order n) digits t).1)
    (λ _. pick_cases (Known n digits) _ _ _ (λ _. tt)
    (λ _. pick_cases (Known n digits) _ _ _ (λ t. (and_yes (eqb letter 0x53 && eqb n 2) digits t).1)
    (λ _. pick_cases (Known n digits) _ _ _ (λ t. (and_yes (eqb letter 0x52 && eqb n 4) digits t).1)
    (λ _. pick_cases (Known n digits) _ _ _ (λ t. let a = and_yes (eqb letter 0x4E && eqb n 40) digits t in (eqb-true n 40 (and_yes (eqb letter 0x4E) (eqb n 40) a.0).1, a.1))
    (λ _. pick_cases (Known n digits) _ _ _ (λ t. (and_yes (eqb letter 0x43 && leb 2 n) digits t).1)
    (λ _. pick_cases (Known n digits) _ _ _ (λ t. (and_yes (eqb letter 0x44) digits t).1)
    (λ _. pick_cases (Known n digits) _ _ _ (λ _. tt)
    (λ _. pick_cases (Known n digits) _ _ _ (λ _. tt)
    (λ _. tt)))))))))
