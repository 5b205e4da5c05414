-- The former log's card and the ring's go by the same state, and so they give equal replies.
use Rattle.std.specs.Prelude.{false, List, [], ◌∷◌, ◌≡◌, ℤ, length}
use Rattle.std.proofs.Math.Path.{refl}
use Rattle.std.proofs.Common.{sym, ◌∙◌, ap, le-ltb}
use Rattle.tables.specs.Choice.{passed, not_no, or_none}
use Rattle.logfile.specs.Journal.{Journal}
use Rattle.logfile.specs.Ring as ring
use Rattle.logfile.specs.View as log
use Rattle.logfile.specs.Former as former
use Rattle.logfile.proofs.Former as former-laws
use Rattle.keys.specs.declared.Keys.{Keys}
use Rattle.settings.specs.declared.Settings.{Settings}
use Rattle.standing.specs.Parts.{log_broken, chain_broken}
use Rattle.standing.proofs.Parts.{joined}
use Rattle.standing.specs.Laws as rules-laws
use Rattle.rows.specs.State.{State, log_pending}
use Rattle.card.specs.View.{view}
use Rattle.card.specs.Events.{issued}
use Rattle.demands.specs.History.{Event, plays, said, along}
use Rattle.demands.specs.Demands.{Taken}
use Rattle.demands.specs.Former.{FormerCard, viewed, moved, was_broken, Answer, moved_into, answer, former_next, former_said, former_issued}
use Rattle.demands.specs.Ring.{EqualForms}
use Rattle.demands.proofs.Laws.Sound.{Sound}
use Rattle.demands.proofs.Laws.Steps.{moves, moves_sound, sound_view, along_views}
use Rattle.demands.proofs.Laws.Issued.{issued_kept}
use Rattle.demands.proofs.Proofs.Demand3.{said_on, said_view}

viewed_moved : (c : FormerCard) (s : State) → Sound s → viewed (moved c s) ≡ s
unfolding viewed moved
viewed_moved c s h =
    ap (λ (j : Journal). record { core = record { settings = s.core.settings; keys = s.core.keys; purse = s.core.purse; journal = j; channel = s.core.channel }; files = s.files })
    (former-laws.viewed_moved c.log s.core.journal h.journal)

moved_unbroken : (c : FormerCard) (s : State) → Sound s → was_broken (moved c s) ≡ false
unfolding was_broken moved former.moved log_broken log_pending chain_broken
moved_unbroken c s h =
    joined _ _ _ _ _
    (h.rights, (h.limits, (h.above, (h.twice, (not_no _ h.channel.known, (or_none _ _ (or_none _ _ (le-ltb 4 (length s.core.journal.entries) h.journal.few) refl) h.apart, (rules-laws.unbroken h.figures, (or_none _ _ (not_no _ h.channel.chain) h.channel.free, tt))))))))

record Was (c : FormerCard) : Type 0 where
  pub rules : was_broken c ≡ false
  pub sound : Sound (viewed c)

answer_plays : (c : FormerCard) → Was c → (e : Event) → answer c e ≡ moved_into c (plays (viewed c) e)
unfolding answer
answer_plays c h e = passed _ _ h.rules

next_viewed : (c : FormerCard) → Was c → (e : Event) → viewed (former_next c e) ≡ moves (viewed c) e
next_viewed c h e = ap (λ (a : Answer). viewed a.card) (answer_plays c h e) ∙ viewed_moved c (moves (viewed c) e) (moves_sound (viewed c) e h.sound)

next_was : (c : FormerCard) → Was c → (e : Event) → Was (former_next c e)
next_was c h e =
    let s = moves_sound (viewed c) e h.sound in
    record { rules = ap (λ (a : Answer). was_broken a.card) (answer_plays c h e) ∙ moved_unbroken c (moves (viewed c) e) s; sound = rw (next_viewed c h e) s }

said_viewed : (c : FormerCard) → Was c → (e : Event) → former_said c e ≡ said_on (viewed c) e
said_viewed c h e = ap (λ (a : Answer). record { refusal = a.refusal; bytes = a.out; len = length a.out }) (answer_plays c h e)

former_along : (c : FormerCard) → Was c → (es : List Event) → along former_next former_said c es ≡ along moves said_on (viewed c) es
unfolding along
former_along c h [] = refl
former_along c h (e ∷ es) =
    let rest = former_along (former_next c e) (next_was c h e) es in
    rw (said_viewed c h e, rest, next_viewed c h e)

module _ (s : Settings) (ks : Keys) (v : ℤ) where
  issued_alike : viewed (former_issued s ks v) ≡ view (issued s ks v)
  unfolding viewed former_issued view issued former.viewed former.cut log.view log.empty ring.ringed
  issued_alike = refl

  issued_was : Taken s v → Was (former_issued s ks v)
  unfolding issued former_issued log.empty was_broken
  issued_was t = record { rules = (issued_kept s ks v t).rules; sound = rw issued_alike (sound_view (issued s ks v) (issued_kept s ks v t)) }

pub equal_forms : EqualForms
equal_forms s ks v t es =
    former_along (former_issued s ks v) (issued_was s ks v t) es
    ∙ ap (λ (x : State). along moves said_on x es) (issued_alike s ks v)
    ∙ sym (along_views said said_on said_view (issued s ks v) (issued_kept s ks v t) es)
