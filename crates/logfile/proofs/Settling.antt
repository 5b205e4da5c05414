-- What a write leaves, and what a commit comes to: a clear, a new entry in front, or nothing.
use Prim.Native.Nat.{ℕ, ◌+◌, ◌*◌, min}
use mathlib.Core.Bool.{true, false}
use mathlib.Core.List.{List, [], ◌∷◌}
use mathlib.Core.Path.{◌≡◌, refl, sym, ◌∙◌, ap}
use lib.ListN.{length, length-take}
use native.Mathlib.Omega.{arith}
use Rattle.tables.specs.Choice.{pick, picked, passed}
use Rattle.wire.specs.Bytes.{laid_in}
use Rattle.wire.proofs.Laws.{laid_room}
use Rattle.logfile.specs.declared.Log.{Log}
use Rattle.logfile.specs.Journal.{Journal, blank, fresh_or, some, stored, written, pushed, resting, settled, dropped}
use Rattle.logfile.specs.Ring.{slot_at, newer, laid_round}
use Rattle.logfile.specs.View.{view, put, put_stored, committed}
use Rattle.logfile.proofs.Entries.{length_ringed, take_ringed, laid_newer}
use Rattle.logfile.proofs.Laws.{put_same}

pub settled_clears : (l : Log) → l.clears ≡ true → settled (view l) ≡ resting []
unfolding settled
settled_clears l h = ap resting (unfold view in picked [] (pushed (view l).fresh (view l).entries) h)

pub settled_adds : (l : Log) → l.clears ≡ false → l.adds ≡ true → settled (view l) ≡ resting (pushed (l.entry ∷ []) (view l).entries)
unfolding settled view
settled_adds l h a = ap resting (passed [] (pushed (view l).fresh (view l).entries) h ∙ ap (λ (fs : List (List ℕ)). pushed fs (view l).entries) (picked (l.entry ∷ []) [] a))

pub settled_none : (l : Log) → l.clears ≡ false → l.adds ≡ false → settled (view l) ≡ dropped (view l)
unfolding settled dropped view pushed
settled_none l h a = ap resting (passed [] (pushed (view l).fresh (view l).entries) h ∙ ap (λ (fs : List (List ℕ)). pushed fs (view l).entries) (passed (l.entry ∷ []) [] a))

stored_clears : (l : Log) → l.clears ≡ true → stored (view l) ≡ 0
unfolding stored view
stored_clears l h = picked 0 _ h

stored_adds : (l : Log) → l.clears ≡ false → l.adds ≡ true → stored (view l) ≡ 16
unfolding stored view some
stored_adds l h a = passed 0 _ h ∙ ap (λ (fs : List (List ℕ)). pick (some fs) 16 0) (picked (l.entry ∷ []) [] a) ∙ (unfold pick in refl)

stored_none : (l : Log) → l.clears ≡ false → l.adds ≡ false → stored (view l) ≡ 0
unfolding stored view some
stored_none l h a = passed 0 _ h ∙ ap (λ (fs : List (List ℕ)). pick (some fs) 16 0) (passed (l.entry ∷ []) [] a) ∙ (unfold pick in refl)

-- what a commit returns, from the number stored and the journal settled
returned : (l : Log) (n : ℕ) (j : Journal) {r : Log} → r ≡ put l n j → stored (view l) ≡ n → settled (view l) ≡ j → record { log = r; stored = n } ≡ committed l
unfolding put_stored
returned l n j e s q = rw (e, s, q)

module _ (l : Log) {r : Log} where
  pub commits_clear : l.clears ≡ true → r ≡ put l 0 (resting []) → record { log = r; stored = 0 } ≡ committed l
  commits_clear h e = returned l 0 (resting []) e (stored_clears l h) (settled_clears l h)

  pub commits_entry_lem : l.clears ≡ false → l.adds ≡ true → r ≡ put l 16 (resting (pushed (l.entry ∷ []) (view l).entries)) → record { log = r; stored = 16 } ≡ committed l
  commits_entry_lem h a e = returned l 16 _ e (stored_adds l h a) (settled_adds l h a)

  pub commits_none : l.clears ≡ false → l.adds ≡ false → r ≡ put l 0 (dropped (view l)) → record { log = r; stored = 0 } ≡ committed l
  commits_none h a e = returned l 0 _ e (stored_none l h a) (settled_none l h a)

-- what drop_pending leaves
pub dropped_log : (l : Log) → put l 0 (dropped (view l)) ≡ record { slots = l.slots; place = l.place; count = l.count; entry = l.entry; adds = false; clears = false }
unfolding dropped view resting some fresh_or
dropped_log l = put_same l (dropped (view l)) refl

-- what a write leaves: the new entry as it stood, with the bytes laid over it
pub written_log : (l : Log) (off : ℕ) (bytes stood entry : List ℕ) → stood ≡ fresh_or blank (view l).fresh → entry ≡ laid_in stood off bytes
    → record { slots = l.slots; place = l.place; count = l.count; entry = entry; adds = true; clears = l.clears } ≡ put l 0 (written (view l) off bytes)
unfolding view some written fresh_or
written_log l off bytes stood entry s e =
    let q : entry ≡ laid_in (fresh_or blank (view l).fresh) off bytes = e ∙ ap (λ (x : List ℕ). laid_in x off bytes) s in
    (λ i. record { slots = l.slots; place = l.place; count = l.count; entry = q i; adds = true; clears = l.clears }) ∙ sym (put_same l (written (view l) off bytes) refl)

-- what a commit with a new entry leaves: the entry in the next slot, and the other slots as they were
module _ (l : Log) (k : ℕ) (s64 : length l.slots ≡ 64) (e16 : length l.entry ≡ 16) (few : k ≡ min 3 l.count) where
  pushed_slots : laid_in l.slots (slot_at (newer l.place)) l.entry ≡ laid_round l.slots (newer l.place) (pushed (l.entry ∷ []) (view l).entries)
  unfolding view pushed
  pushed_slots =
      rw (take_ringed 3 l.count l.place l.slots, laid_newer (min 3 l.count) l.place l.slots l.entry)
      (laid_room l.slots (slot_at (newer l.place)) l.entry (omega arith))

  pushed_count : length (pushed (l.entry ∷ []) (view l).entries) ≡ k + 1
  unfolding view pushed
  pushed_count = let n = length_ringed l.count l.place l.slots in simp length-take (omega arith)

  -- the log that the code makes
  pub pushed_log : (p : ℕ) (laid_over : List ℕ) → p ≡ newer l.place → laid_over ≡ laid_in l.slots (16 * p) l.entry
      → record { slots = laid_over; place = p; count = k + 1; entry = l.entry; adds = false; clears = false } ≡ put l 16 (resting (pushed (l.entry ∷ []) (view l).entries))
  unfolding put resting some fresh_or
  pushed_log p laid_over q o =
      let m : 16 * p ≡ slot_at (newer l.place) = omega arith in
      let s : laid_over ≡ laid_round l.slots (newer l.place) (pushed (l.entry ∷ []) (view l).entries) = o ∙ ap (λ (a : ℕ). laid_in l.slots a l.entry) m ∙ pushed_slots in
      λ i. record { slots = s i; place = q i; count = sym pushed_count i; entry = l.entry; adds = false; clears = false }
