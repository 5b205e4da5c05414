-- What fits: a log's journal, what each step makes of one that fits, and its lengths.
use Rattle.std.specs.Prelude.{ℕ, ◌-◌, ◌≤◌, List, [], ◌∷◌, reverse, ◌≡◌, refl, eqb, length, take, drop}
use Rattle.std.proofs.Common.{◌∙◌, length-take, length-drop, arith}
use Rattle.std.proofs.lemmas.List.{length-reverse}
use Rattle.tables.specs.Choice.{pick, pick_both}
use Rattle.wire.proofs.Laws.{length_laid_in}
use Rattle.logfile.specs.declared.Log.{Log}
use Rattle.logfile.specs.Journal.{Journal, blank, joined, shown, fresh_or, written, cleared, pushed, resting, settled, dropped}
use Rattle.logfile.specs.View.{view}
use Rattle.logfile.specs.Fit.{Sixteens, Fit}
use Rattle.logfile.proofs.Entries.{length_ringed, length_joined, sixteens_ringed, sixteens_take, sixteens_drop, sixteens_reverse}

pub fit_view : (l : Log) → l.count ≤ 4 → length l.slots ≡ 64 → length l.entry ≡ 16 → Fit (view l)
unfolding view
fit_view l few s e =
    let n = length_ringed l.count l.place l.slots in
    record {
      sized = sixteens_ringed l.count l.place l.slots s;
      few = omega arith;
      fresh_sized = pick_both (λ (fs : List (List ℕ)). Sixteens fs) l.adds (l.entry ∷ []) [] (e, tt) tt;
      fresh_one = pick_both (λ (fs : List (List ℕ)). length fs ≤ 1) l.adds (l.entry ∷ []) [] (omega arith) (omega arith);
    }

-- the new entry, or e where there is none
pub length_fresh : (e : List ℕ) (fs : List (List ℕ)) → length e ≡ 16 → Sixteens fs → length (fresh_or e fs) ≡ 16
unfolding fresh_or
length_fresh e [] l h = l
length_fresh e (f ∷ fs) l (h, hs) = h

pub fit_written : (j : Journal) (off : ℕ) (bytes : List ℕ) → Fit j → Fit (written j off bytes)
unfolding written
fit_written j off bytes f =
    record {
      sized = f.sized;
      few = f.few;
      fresh_sized = (length_laid_in (fresh_or blank j.fresh) off bytes ∙ length_fresh blank j.fresh (unfold blank in refl) f.fresh_sized, tt);
      fresh_one = omega arith;
    }

pub fit_cleared : (j : Journal) → Fit j → Fit (cleared j)
unfolding cleared
fit_cleared j f = record { sized = f.sized; few = f.few; fresh_sized = tt; fresh_one = omega arith }

fit_resting : (es : List (List ℕ)) → Sixteens es → length es ≤ 4 → Fit (resting es)
unfolding resting
fit_resting es s n = record { sized = s; few = n; fresh_sized = tt; fresh_one = omega arith }

fit_pushed : (fs es : List (List ℕ)) → Sixteens fs → Sixteens es → length es ≤ 4 → Fit (resting (pushed fs es))
unfolding pushed
fit_pushed [] es h s n = fit_resting es s n
fit_pushed (f ∷ fs) es h s n = fit_resting (take 4 (f ∷ es)) (h.0, sixteens_take 3 es s) (simp length-take (omega arith))

pub fit_settled : (j : Journal) → Fit j → Fit (settled j)
unfolding settled
fit_settled j f = pick_both (λ (es : List (List ℕ)). Fit (resting es)) j.clears [] (pushed j.fresh j.entries) (fit_resting [] tt (omega arith)) (fit_pushed j.fresh j.entries f.fresh_sized f.sized f.few)

pub fit_dropped : (j : Journal) → Fit j → Fit (dropped j)
unfolding dropped
fit_dropped j f = fit_resting j.entries f.sized f.few

-- ---- lengths

pub shown_room : (j : Journal) (r c : ℕ) → Fit j → length (shown j r c) ≤ 64
unfolding shown
shown_room j r c f = within (pick (eqb c 0) (length j.entries - r) c)
  where
    within : (k : ℕ) → length (joined (reverse (take k (drop r j.entries)))) ≤ 64
    within k =
        let es : List (List ℕ) = take k (drop r j.entries) in
        let s = sixteens_reverse es (sixteens_take k (drop r j.entries) (sixteens_drop r j.entries f.sized)) in
        let l = length_joined (reverse es) s in
        let n = f.few in
        omega (arith, length-reverse es, length-take k (drop r j.entries), length-drop r j.entries)
