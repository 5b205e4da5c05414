-- Bytes that the rules do not speak of show in no reply: a card whose log was written and cleared answers as a new one does.
use Rattle.std.specs.Prelude.{List, [], ◌∷◌, ◌≡◌, pos, get_or}
use Rattle.std.proofs.Math.Path.{refl}
use Rattle.keys.specs.Keys as keys
use Rattle.card.specs.declared.Card.{Card}
use Rattle.card.specs.View.{view}
use Rattle.card.specs.Events.{issued}
use Rattle.demands.specs.History.{Event, power, next, said, along, books_of}
use Rattle.demands.specs.Demands.{reached}
use Rattle.demands.specs.Examples.{program, replies, bare, sends, taken}
use Rattle.demands.proofs.Laws.Issued.{issued_kept}
use Rattle.demands.proofs.Proofs.Demand2.{standing}
use Rattle.demands.proofs.Proofs.Demand3.{equal_replies}

-- an entry committed, and the log cleared
unfoldable pub written_and_cleared : List Event
written_and_cleared = sends 0x8B (1 ∷ 0x0F ∷ 0 ∷ 0 ∷ 0x01 ∷ 0 ∷ 0 ∷ 0xBB ∷ []) ∷ bare 0xC7 ∷ sends 0xEB (1 ∷ []) ∷ bare 0xC7 ∷ []

unfoldable pub new : Card
new = issued program keys.zeros (pos 100)

unfoldable pub used : Card
used = reached program keys.zeros (pos 100) written_and_cleared

-- the entry's byte is still there
pub left_behind : (get_or new.log.slots 31 0 ≡ 0) × (get_or used.log.slots 31 0 ≡ 0xBB)
unfolding replies new used written_and_cleared
left_behind = (refl, refl)

pub never_seen : (es : List Event) → along next said (next new power) es ≡ along next said (next used power) es
unfolding new used
never_seen = equal_replies new used (issued_kept program keys.zeros (pos 100) taken) (standing program keys.zeros (pos 100) taken written_and_cleared).keeps same_settings same_keys same_files same_books
  where
    same_settings : new.settings ≡ used.settings
    same_settings = unfold replies written_and_cleared in refl

    same_keys : new.keys ≡ used.keys
    same_keys = unfold replies written_and_cleared in refl

    same_files : new.files ≡ used.files
    same_files = unfold replies written_and_cleared in refl

    same_books : books_of (view new) ≡ books_of (view used)
    same_books = unfold replies written_and_cleared in refl
