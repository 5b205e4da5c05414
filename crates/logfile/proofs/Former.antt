-- The former log, whose commit moved up to three entries: the newest in front. No code is behind it.
use Rattle.std.specs.Prelude.{ℕ, ◌+◌, List, [], ◌∷◌, ◌++◌, ◌≡◌, refl, length, drop}
use Rattle.std.proofs.Common.{append_assoc, take_at, drop_at}
use Rattle.wire.specs.Bytes.{laid}
use Rattle.logfile.specs.Journal.{Journal, joined}
use Rattle.logfile.specs.Fit.{Sixteens, Fit}
use Rattle.logfile.proofs.Laws.{fresh_back}
use Rattle.logfile.specs.Former.{Former, cut, moved, viewed}

cut_joined : (es : List (List ℕ)) (rest : List ℕ) → Sixteens es → cut (length es) (joined es ++ rest) ≡ es
unfolding cut joined
cut_joined [] rest h = refl
cut_joined (e ∷ es) rest (h, hs) = rw (append_assoc e (joined es) rest, take_at e (joined es ++ rest) 16 h, drop_at e (joined es ++ rest) 16 h, cut_joined es rest hs)

pub viewed_moved : (l : Former) (j : Journal) → Fit j → viewed (moved l j) ≡ j
unfolding moved viewed laid
viewed_moved l j f = λ i. record { entries = cut_joined j.entries (drop (0 + length (joined j.entries)) l.slots) f.sized i; fresh = fresh_back l.entry j.fresh f.fresh_one i; clears = j.clears }
