-- What an operation does to the slots: a commit with a new entry stores its slot alone, and nothing else stores any.
use Rattle.std.specs.Prelude.{ℕ, zero, suc, ◌+◌, ◌/◌, ◌%◌, ◌<◌, min, Bool, ◌≡◌, refl, length, drop, get_or}
use Rattle.std.proofs.Math.Bool.{true, false}
use mathlib.Core.List.{List, [], ◌∷◌}
use Rattle.std.proofs.Common.{sym, ◌∙◌, arith, get_or-take, get_or-drop}
use Rattle.std.proofs.Math.Path.{ap}
use Rattle.tables.specs.Choice.{pick}
use Rattle.logfile.specs.declared.Log.{Log}
use Rattle.logfile.specs.Journal.{Journal, some, stored, pushed, resting, settled}
use Rattle.logfile.specs.Ring.{slot_at, slot, ringed, laid_round}
use Rattle.logfile.specs.View.{view, put, put_stored, committed}
use Rattle.logfile.proofs.Entries.{take_ringed, laid_ringed, laid_newer, slot_same, slot_other}
use Rattle.logfile.specs.Slots.{Stores}

module _ (l : Log) where
  -- a journal of the same entries
  pub same_stores_none : (j : Journal) → j.entries ≡ (view l).entries → Stores 0 l.entry l (put l 0 j)
  unfolding put view
  same_stores_none j q = (refl, ap (λ (es : List (List ℕ)). laid_round l.slots l.place es) q ∙ laid_ringed l.count l.place l.slots)

  -- a commit
  pub commit_stores : Stores (stored (view l)) l.entry l (committed l).log
  unfolding put_stored put stored settled resting view some pushed laid_round pick
  commit_stores = by l.clears l.adds
    where
      by : (c a : Bool) → Stores (pick c 0 (pick (some (pick a (l.entry ∷ []) [])) 16 0)) l.entry l (put l (pick c 0 (pick (some (pick a (l.entry ∷ []) [])) 16 0)) (resting (pick c [] (pushed (pick a (l.entry ∷ []) []) (ringed l.count l.place l.slots)))))
      by true a = (refl, refl)
      by false true = (refl, rw (take_ringed 3 l.count l.place l.slots, laid_newer (min 3 l.count) l.place l.slots l.entry))
      by false false = (refl, laid_ringed l.count l.place l.slots)

-- ---- slot by slot, and byte by byte

module _ (e : List ℕ) (a b : Log) (h : length a.slots ≡ 64) (s : length e ≡ 16) where
  -- the entry's slot holds it
  pub stored_slot : (n : ℕ) → Stores (suc n) e a b → slot b.place b.slots ≡ e
  stored_slot n (p, q) = rw q (slot_same a.slots e b.place h s)

  -- no other slot is altered
  pub other_slots : (n : ℕ) → Stores n e a b → (q : ℕ) → (q % 4 ≡ b.place % 4 → ⊥) → slot q b.slots ≡ slot q a.slots
  other_slots zero (p, t) q d = rw t
  other_slots (suc n) (p, t) q d = rw t (slot_other a.slots e b.place h s q d)

  -- no byte but those of the entry's slot is altered
  pub other_bytes : (n : ℕ) → Stores n e a b → (i : ℕ) → i < 64 → (i / 16 ≡ b.place % 4 → ⊥) → get_or b.slots i 0 ≡ get_or a.slots i 0
  other_bytes n t i few d = sym (in_slot b.slots) ∙ ap (λ (x : List ℕ). get_or x (i % 16) 0) (other_slots n t (i / 16) (omega arith)) ∙ in_slot a.slots
    where
      in_slot : (x : List ℕ) → get_or (slot (i / 16) x) (i % 16) 0 ≡ get_or x i 0
      in_slot x =
          let m : slot_at (i / 16) + i % 16 ≡ i = omega arith in
          get_or-take 16 (drop (slot_at (i / 16)) x) (i % 16) 0 (omega arith) ∙ get_or-drop (slot_at (i / 16)) x (i % 16) 0 ∙ rw m
