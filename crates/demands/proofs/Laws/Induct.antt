-- The one induction of demand 3, for any machine and operations of any kind.
use Rattle.std.specs.Prelude.{Bool, ◌≡◌}
use Rattle.std.proofs.Math.Bool.{true, false}
use mathlib.Core.List.{List, [], ◌∷◌, ◌++◌, append_assoc}
use Rattle.std.proofs.Math.Path.{refl, ap}
use Rattle.std.proofs.Common.{◌∙◌}
use Rattle.tables.specs.Choice.{pick}
use Rattle.demands.specs.Strike.{Line, posted, closed, broken, idle, followed, strike, posts, part, through, flat}
use Rattle.demands.specs.History.{run, along}

pick_same : {X : Type 0} (b : Bool) → pick {A = List X} b [] [] ≡ []
unfolding pick
pick_same true = refl
pick_same false = refl

part_posted : {X : Type 0} (b : Bool) (tx : List X) (x : X) (ls : List (Line X)) → part (pick b (tx ++ (x ∷ [])) []) ls ≡ part (pick b tx []) (pick b (posted x ∷ ls) ls)
unfolding part pick
part_posted true tx x ls = refl
part_posted false tx x ls = refl

-- `books` is what the machine holds for good; `Open s tx` says that what s holds for the time being is the work of tx
module _ {S E X B : Type 0} (step : S → E → S) (line_of : S → E → Line X) (books : S → B) (balance : B → List X → B) (Open : S → List X → Type 0) where
  -- what an event of this line does to the books and to the open transaction
  abbrev pub Moved : S → List X → S → Line X → Type 0
  Moved s tx d (posted x) = (books d ≡ books s) × Open d (tx ++ (x ∷ []))
  Moved s tx d closed = (books d ≡ balance (books s) tx) × Open d []
  Moved s tx d broken = (books d ≡ books s) × Open d []
  Moved s tx d idle = (books d ≡ books s) × Open d tx

  one_line : (s d : S) (tx : List X) (l : Line X) (ls : List (Line X)) (b : B) → Moved s tx d l
      → ((tx' : List X) → Open d tx' → b ≡ through balance (books d) (part (pick (followed ls) tx' []) (strike ls)))
      → b ≡ through balance (books s) (part (pick (followed (l ∷ ls)) tx []) (strike (l ∷ ls)))
  unfolding followed strike part through pick
  one_line s d tx (posted x) ls b (q, h) ih = rw q at (ih (tx ++ (x ∷ [])) h) ∙ ap (through balance (books s)) (part_posted (followed ls) tx x (strike ls))
  one_line s d tx closed ls b (q, h) ih = rw (q, pick_same (followed ls)) at (ih [] h)
  one_line s d tx broken ls b (q, h) ih = rw (q, pick_same (followed ls)) at (ih [] h)
  one_line s d tx idle ls b (q, h) ih = rw q at (ih tx h)

  module _ (moved : (s : S) (tx : List X) → Open s tx → (e : E) → Moved s tx (step s e) (line_of s e)) where
    -- the open transaction counts exactly where a commit follows
    from_open : (s : S) (tx : List X) → Open s tx → (es : List E)
        → books (run step s es) ≡ through balance (books s) (part (pick (followed (along step line_of s es)) tx []) (strike (along step line_of s es)))
    unfolding run along followed strike part through
    from_open s tx h [] = refl
    from_open s tx h (e ∷ es) =
        one_line s (step s e) tx (line_of s e) (along step line_of (step s e) es) (books (run step (step s e) es)) (moved s tx h e) (λ tx' h'. from_open (step s e) tx' h' es)

    -- with nothing open: the books are those of the struck list, parted at its commits
    pub from_rest : (s : S) → Open s [] → (es : List E) → books (run step s es) ≡ through balance (books s) (part [] (strike (along step line_of s es)))
    from_rest s h es = rw (pick_same (followed (along step line_of s es))) at (from_open s [] h es)

-- ---- the operations of the transactions are those of the struck list

module _ {X : Type 0} where
  flat_open : (tx : List X) (ls : List (Line X)) → flat (part (pick (followed ls) tx []) (strike ls)) ≡ pick (followed ls) tx [] ++ posts (strike ls)
  unfolding followed strike part posts flat pick
  flat_open tx [] = refl
  flat_open tx (posted x ∷ ls) = by (followed ls) (flat_open (tx ++ (x ∷ [])) ls)
    where
      by : (b : Bool) → flat (part (pick b (tx ++ (x ∷ [])) []) (strike ls)) ≡ pick b (tx ++ (x ∷ [])) [] ++ posts (strike ls)
          → flat (part (pick b tx []) (pick b (posted x ∷ strike ls) (strike ls))) ≡ pick b tx [] ++ posts (pick b (posted x ∷ strike ls) (strike ls))
      by true h = h ∙ append_assoc tx (x ∷ []) (posts (strike ls))
      by false h = h
  flat_open tx (closed ∷ ls) = ap (λ (l : List X). tx ++ l) (rw (pick_same (followed ls)) at (flat_open [] ls))
  flat_open tx (broken ∷ ls) = rw (pick_same (followed ls)) at (flat_open [] ls)
  flat_open tx (idle ∷ ls) = flat_open tx ls

  pub flat_part : (ls : List (Line X)) → flat (part [] (strike ls)) ≡ posts (strike ls)
  flat_part ls = rw (pick_same (followed ls)) at (flat_open [] ls)
