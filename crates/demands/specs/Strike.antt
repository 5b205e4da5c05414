-- Striking and parting, for operations X of any kind: nothing here knows the card.
use Rattle.std.specs.Prelude.{Bool, true, false, List, [], ◌∷◌, ◌++◌}
use Rattle.tables.specs.Choice.{pick}

-- what became of one event of a history
pub data Line (X : Type 0) : Type 0 where
  -- an accepted operation
  posted : X → Line X
  -- a successful commit
  closed : Line X
  -- a refused command, an abort or a power-up
  broken : Line X
  -- anything else
  idle : Line X

module _ {X : Type 0} where
  -- a successful commit follows before the next refused command, abort or power-up
  unfoldable pub followed : List (Line X) → Bool
  followed [] = false
  followed (posted x ∷ ls) = followed ls
  followed (closed ∷ ls) = true
  followed (broken ∷ ls) = false
  followed (idle ∷ ls) = followed ls

  -- struck: each operation that no such commit follows
  unfoldable pub strike : List (Line X) → List (Line X)
  strike [] = []
  strike (posted x ∷ ls) = pick (followed ls) (posted x ∷ strike ls) (strike ls)
  strike (closed ∷ ls) = closed ∷ strike ls
  strike (broken ∷ ls) = broken ∷ strike ls
  strike (idle ∷ ls) = idle ∷ strike ls

  -- the operations on a list
  unfoldable pub posts : List (Line X) → List X
  posts [] = []
  posts (posted x ∷ ls) = x ∷ posts ls
  posts (closed ∷ ls) = posts ls
  posts (broken ∷ ls) = posts ls
  posts (idle ∷ ls) = posts ls

  -- parted at the commits: for each commit the operations since the one before it; tx are those so far
  unfoldable pub part : List X → List (Line X) → List (List X)
  part tx [] = []
  part tx (posted x ∷ ls) = part (tx ++ (x ∷ [])) ls
  part tx (closed ∷ ls) = tx ∷ part [] ls
  part tx (broken ∷ ls) = part tx ls
  part tx (idle ∷ ls) = part tx ls

-- one after the other, from the left
unfoldable pub through : {A B : Type 0} → (B → A → B) → B → List A → B
through f b [] = b
through f b (x ∷ xs) = through f (f b x) xs

-- lists one behind the other
unfoldable pub flat : {X : Type 0} → List (List X) → List X
flat [] = []
flat (x ∷ xs) = x ++ flat xs
