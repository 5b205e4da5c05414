-- What an end behind any frame of a chain leaves.
use Rattle.std.specs.Prelude.{ℕ, ◌+◌, ◌-◌, ◌≤◌, true, ◌≡◌, length, take}
use mathlib.Core.List.{List, [], ◌∷◌, append-nil}
use Rattle.std.proofs.Math.Path.{refl, sym, ap, subst}
use Rattle.std.proofs.Common.{◌∙◌, take-append-drop}
use native.Mathlib.Omega.{arith}
use Rattle.wire.specs.Bytes.{laid, laid_in}
use Rattle.wire.proofs.Laws.{laid_room}
use Rattle.roles.specs.declared.Role.{Role}
use Rattle.roles.specs.Roles.{is_data, size_of}
use Rattle.datafiles.specs.declared.Files.{Files}
use Rattle.datafiles.specs.Files.{bytes_of, holding, written}
use Rattle.datafiles.specs.Laws.{Sized}
use Rattle.datafiles.proofs.Laws.{held, held_already, held_elsewhere}
use Rattle.chains.specs.Chain.{unchained, announced}
use Rattle.channel.specs.declared.Channel.{Channel}
use Rattle.channel.specs.Channel.{bare, chained}
use Rattle.frames.specs.Frame.{data_of, offset_of, length_of}
use Rattle.modes.specs.Modes.{role_in}
use Rattle.rows.specs.Rows.{ok, status_of, opening_status, bytes_status}
use Rattle.rows.specs.Openings.{Announced, opening_announces}
use Rattle.card.specs.declared.Card.{Card}
use Rattle.card.specs.View.{view, put}
use Rattle.card.specs.Outcome.{Outcome}
use Rattle.card.specs.Events.{ended, Played, refused, judged, played, opening_played, bytes_played, laid_into, with_session, opening, delivered, accepted}
use Rattle.card.proofs.Laws.{judged_refused}
use Rattle.frames.specs.Frame as frame
use Rattle.demands.specs.Strike.{flat}
use Rattle.demands.specs.History.{Event, command, opens, delivers, session, power, next, plays, run, books_of}
use Rattle.demands.specs.Demands.{Kept}
use Rattle.demands.specs.Chains.{FrameSizes, delivery, Ends, Torn, Tears}
use Rattle.demands.proofs.Laws.Steps.{sound_view, view_next, outcome_plays, next_kept, run_kept}
use Rattle.demands.proofs.Laws.Delivery.{chain_on, given, opens_card, runs_given}
use Rattle.demands.proofs.Proofs.Demand1.{ended_untouched}

-- ---- a write, by its file

nothing_laid : (b : List ℕ) (at : ℕ) → at ≤ length b → laid_in b at [] ≡ b
nothing_laid b at h = laid_room b at [] (omega arith) ∙ none
  where
    none : laid b at [] ≡ b
    none = unfold laid in let e : at + 0 ≡ at = omega arith in rw (e, append-nil (take at b)) (take-append-drop at b)

module _ (f : Files) (h : Sized f) (at : ℕ) (r : Role) where
  nothing_written : at ≤ size_of r → written f r at [] ≡ f
  nothing_written z = ap (holding f r) (nothing_laid (bytes_of f r) at (omega (arith, h r))) ∙ held_already f r

  written_there : (x : List ℕ) → is_data r ≡ true → at + length x ≤ size_of r → bytes_of (written f r at x) r ≡ laid (bytes_of f r) at x
  written_there x t z = held f _ r t ∙ laid_room (bytes_of f r) at x (omega (arith, h r))

-- ---- an end

pub record Stays (before after : Card) : Type 0 where
  pub files : after.files ≡ before.files
  pub books : books_of (view after) ≡ books_of (view before)
  pub chain : after.channel.chain ≡ unchained

-- where the card is left as a refusal and a power-up leave it
stays_ended : (c k : Card) → Kept c → k ≡ put c 0 (ended (view c)) → Stays c k
unfolding bare
stays_ended c k h e =
    let u = ended_untouched c h in
    subst (λ (q : Card). Stays c q) (sym e) (record { files = u.files; books = u.books; chain = ap (λ (g : Channel). g.chain) u.no_session })

-- by its status
stays_judged : (c : Card) → Kept c → (e : Event) (s : ℕ) (p : Played) → plays (view c) e ≡ judged s (view c) p → (s ≡ ok → ⊥) → Stays c (next c e)
unfolding laid_into refused
stays_judged c h e s p q n = stays_ended c (next c e) h (ap (λ (o : Outcome). o.card) (outcome_plays c h e ∙ ap (laid_into c) q ∙ sym (judged_refused c s p n)))

stays : (c : Card) → Kept c → (e : Event) → Ends c e → Stays c (next c e)
stays c h (command f u handed) n = stays_judged c h (command f u handed) (status_of (view c).core f) (accepted (view c) u (frame.ins_of f) (data_of f)) (unfold plays played in refl) n
stays c h (opens f) n = stays_judged c h (opens f) (opening_status (view c).core f) (opening (view c) (data_of f)) (unfold plays opening_played in refl) n
stays c h (delivers b) n = stays_judged c h (delivers b) (bytes_status c.channel.chain b) (delivered (view c) b) (unfold plays bytes_played view in refl) n
stays c h (session k known) t =
    let e = ap (λ (o : Outcome). o.card) (outcome_plays c h (session k known)) in
    record {
      files = ap (λ (q : Card). q.files) e ∙ (unfold laid_into plays put with_session view in refl);
      books = ap books_of (view_next c h (session k known)) ∙ (unfold plays with_session in refl);
      chain = ap (λ (q : Card). q.channel.chain) e ∙ (unfold laid_into plays put with_session bare in refl);
    }
stays c h power t = stays_ended c (next c power) h (ap (λ (o : Outcome). o.card) (outcome_plays c h power) ∙ (unfold laid_into plays in refl))

-- ---- the opening and the frames before it

module _ (c : Card) (h : Kept c) (f : List ℕ) (e : opening_status (view c).core f ≡ ok) where
  abbrev d : List ℕ
  d = data_of f

  -- the role of the file that it names
  abbrev r : Role
  r = role_in c.settings d

  known : Announced (view c).core r d
  unfolding view
  known = opening_announces (view c).core f e

  opened : next c (opens f) ≡ chain_on c (announced r d)
  opened = ap (λ (o : Outcome). o.card) (opens_card c h f e)

  -- what has changed by then
  pub record Midway (k : Card) (bs : List (List ℕ)) : Type 0 where
    pub files : k.files ≡ written c.files r (offset_of d) (flat bs)
    pub books : books_of (view k) ≡ books_of (view c)

  opened_midway : Midway (chain_on c (announced r d)) []
  unfolding chain_on flat view
  opened_midway =
      record {
        files = sym (nothing_written c.files (sound_view c h).files (offset_of d) r (omega (arith, known.range)));
        books = refl;
      }

  given_midway : (bs : List (List ℕ)) → Midway (given (chain_on c (announced r d)) (flat bs)) bs
  unfolding given chain_on chained announced view
  given_midway bs =
      let at : offset_of d + (length_of d - length_of d) ≡ offset_of d = omega arith in
      record { files = ap (λ (n : ℕ). written c.files r n (flat bs)) at; books = refl }

  all_left : (chain_on c (announced r d)).channel.chain.left ≡ length_of d
  unfolding chain_on chained announced
  all_left = refl

  midway : (bs : List (List ℕ)) → FrameSizes bs → length (flat bs) ≤ length_of d → Midway (run next c (opens f ∷ delivery bs)) bs
  unfolding run
  midway [] z fits = subst (λ (k : Card). Midway k []) (sym opened) opened_midway
  midway (b ∷ bs) z fits =
      let kept = subst (λ (q : Card). Kept q) opened (next_kept c h (opens f)) in
      let g = runs_given (chain_on c (announced r d)) kept b bs z (omega (arith, all_left, fits)) in
      subst (λ (q : Card). Midway (run next q (delivery (b ∷ bs))) (b ∷ bs)) (sym opened) (subst (λ (q : Card). Midway q (b ∷ bs)) (sym g) (given_midway (b ∷ bs)))

  torn_at : (bs : List (List ℕ)) → FrameSizes bs → length (flat bs) ≤ length_of d → (x : Event) → Ends (run next c (opens f ∷ delivery bs)) x
      → Torn c r d bs (next (run next c (opens f ∷ delivery bs)) x)
  torn_at bs z fits x n =
      let a = known in
      let k = run next c (opens f ∷ delivery bs) in
      let s = stays k (run_kept c h (opens f ∷ delivery bs)) x n in
      let m = midway bs z fits in
      let files : (next k x).files ≡ written c.files r (offset_of d) (flat bs) = s.files ∙ m.files in
      record {
        file = ap (λ (q : Files). bytes_of q r) files ∙ written_there c.files (unfold view in (sound_view c h).files) (offset_of d) r (flat bs) a.file (omega (arith, a.range));
        others = λ i t q. ap (λ (w : Files). bytes_of w i) files ∙ held_elsewhere c.files _ r a.file i t q;
        books = s.books ∙ m.books;
        chain = s.chain;
      }

pub torn : Tears
torn c h f e bs z fits x n = torn_at c h f e bs z fits x n
