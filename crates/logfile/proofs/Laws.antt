-- Laws of view and put.
use Rattle.std.specs.Prelude.{ℕ, ◌≤◌, Bool, true, false, List, [], ◌∷◌, ◌≡◌, refl, length}
use Rattle.std.proofs.Common.{◌∙◌, ap, arith}
use Rattle.tables.specs.Choice.{pick}
use Rattle.logfile.specs.declared.Log.{Log}
use Rattle.logfile.specs.Journal.{Journal, fresh_or, some, resting}
use Rattle.logfile.specs.Ring.{ringed, laid_round}
use Rattle.logfile.specs.View.{view, turned, put, empty}
use Rattle.logfile.specs.Fit.{Fit}
use Rattle.logfile.proofs.Entries.{length_ringed, laid_ringed, ringed_laid}
use Rattle.logfile.specs.Laws.{beside}

-- a journal of the same entries leaves slots, place and count
pub put_same : (l : Log) (j : Journal) → j.entries ≡ ringed l.count l.place l.slots → put l 0 j ≡ beside l j
unfolding put
put_same l j q = λ i. record { slots = slots i; place = l.place; count = count i; entry = fresh_or l.entry j.fresh; adds = some j.fresh; clears = j.clears }
  where
    slots : laid_round l.slots l.place j.entries ≡ l.slots
    slots = ap (λ (es : List (List ℕ)). laid_round l.slots l.place es) q ∙ laid_ringed l.count l.place l.slots

    count : length j.entries ≡ l.count
    count = ap (λ (es : List (List ℕ)). length es) q ∙ length_ringed l.count l.place l.slots

fresh_entry : (b : Bool) (e : List ℕ) → fresh_or e (pick b (e ∷ []) []) ≡ e
unfolding fresh_or pick
fresh_entry true e = refl
fresh_entry false e = refl

fresh_some : (b : Bool) (e : List ℕ) → some (pick b (e ∷ []) []) ≡ b
unfolding some pick
fresh_some true e = refl
fresh_some false e = refl

pub put_view : (l : Log) → put l 0 (view l) ≡ l
unfolding view
put_view l = put_same l (view l) refl ∙ (λ i. record { slots = l.slots; place = l.place; count = l.count; entry = fresh_entry l.adds l.entry i; adds = fresh_some l.adds l.entry i; clears = l.clears })

pub entries_view : (l : Log) → length (view l).entries ≡ l.count
unfolding view
entries_view l = length_ringed l.count l.place l.slots

pub fresh_back : (e : List ℕ) (fs : List (List ℕ)) → length fs ≤ 1 → pick (some fs) (fresh_or e fs ∷ []) [] ≡ fs
unfolding pick some fresh_or
fresh_back e [] h = refl
fresh_back e (f ∷ []) h = refl
fresh_back e (f ∷ g ∷ fs) h = absurd (omega arith)

pub view_put : (l : Log) (n : ℕ) (j : Journal) → length l.slots ≡ 64 → Fit j → view (put l n j) ≡ j
unfolding put view
view_put l n j h f = λ i. record { entries = ringed_laid l.slots (turned n l.place) j.entries f.sized f.few h i; fresh = fresh_back l.entry j.fresh f.fresh_one i; clears = j.clears }

pub view_empty : view empty ≡ resting []
unfolding view empty resting ringed pick
view_empty = refl
