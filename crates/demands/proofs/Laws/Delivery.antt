-- Frames of file bytes one behind the other are one delivery of all their bytes.
use Rattle.std.specs.Prelude.{ℕ, ◌+◌, ◌-◌, ◌≤◌, ◌<◌, Bool, true, false, not, ◌≡◌, leb, None}
use mathlib.Core.List.{List, [], ◌∷◌, ◌++◌, append-nil}
use Rattle.std.proofs.Math.Path.{refl, sym, ap}
use Rattle.std.proofs.Common.{◌∙◌, arith, ne_eqb, le-leb, le-ltb, leb-true, leb-false}
use Rattle.std.proofs.lemmas.Bool.{lt-leb}
use Rattle.std.proofs.Math.ListN.{length, length-append}
use Rattle.tables.specs.Choice.{pick, picked, passed, or_none}
use Rattle.tables.specs.Reasons.{none_first}
use Rattle.wire.specs.Bytes.{laid, laid_in, word}
use Rattle.wire.proofs.Laws.{laid_room, laid_further, length_laid}
use Rattle.roles.specs.declared.Role.{Role}
use Rattle.roles.specs.Roles.{is_data, size_of}
use Rattle.datafiles.specs.declared.Files.{Files}
use Rattle.datafiles.specs.Files.{bytes_of, holding, written}
use Rattle.datafiles.specs.Laws.{Sized}
use Rattle.datafiles.proofs.Laws.{held, held_again}
use Rattle.logfile.specs.declared.Log.{Log}
use Rattle.logfile.proofs.Laws as logfile
use Rattle.chains.specs.declared.Chain.{Chain}
use Rattle.chains.specs.Chain.{announced, next_place, completes, shortened, most_bytes, wrong_bytes}
use Rattle.chains.specs.Laws.{Ranged, ranged}
use Rattle.channel.specs.declared.Channel.{Channel}
use Rattle.channel.specs.Channel.{chained, advanced}
use Rattle.frames.specs.Frame.{data_of}
use Rattle.modes.specs.Modes.{role_in}
use Rattle.rows.specs.Rows.{ok, opening_status, bytes_rows, bytes_status}
use Rattle.card.specs.declared.Card.{Card}
use Rattle.card.specs.View.{view, put}
use Rattle.card.specs.Outcome.{Outcome}
use Rattle.card.specs.Events.{laid_into, opening, opening_played, delivered, bytes_played}
use Rattle.card.proofs.Laws.{judged_accepted}
use Rattle.demands.specs.Strike.{flat}
use Rattle.demands.specs.History.{opens, delivers, outcome, next, plays, run, along}
use Rattle.demands.specs.Demands.{Kept}
use Rattle.demands.specs.Chains.{FrameSizes, delivery, heard}
use Rattle.demands.proofs.Laws.Steps.{sound_view, outcome_plays, next_kept}

-- ---- one event on a card

-- the card with the chain k open
unfoldable pub chain_on : Card → Chain → Card
chain_on c k = record { settings = c.settings; keys = c.keys; files = c.files; purse = c.purse; log = c.log; channel = chained c.channel k }

-- the card with the bytes x of its open chain
unfoldable pub given : Card → List ℕ → Card
given c x =
    record {
      settings = c.settings;
      keys = c.keys;
      files = written c.files c.channel.chain.file (next_place c.channel.chain) x;
      purse = c.purse;
      log = c.log;
      channel = advanced c.channel (length x);
    }

module _ (c : Card) (h : Kept c) where
  pub opens_card : (f : List ℕ) → opening_status (view c).core f ≡ ok → outcome c (opens f) ≡ record { card = chain_on c (announced (role_in c.settings (data_of f)) (data_of f)); refusal = None; stored = 0; out = [] }
  opens_card f e = outcome_plays c h (opens f) ∙ taken ∙ laid_in_lem
    where
      taken : laid_into c (plays (view c) (opens f)) ≡ laid_into c (opening (view c) (data_of f))
      taken = unfold plays opening_played in sym (judged_accepted c (opening_status (view c).core f) (opening (view c) (data_of f)) e)

      laid_in_lem : laid_into c (opening (view c) (data_of f)) ≡ record { card = chain_on c (announced (role_in c.settings (data_of f)) (data_of f)); refusal = None; stored = 0; out = [] }
      laid_in_lem = unfold laid_into opening put view chain_on in
          ap (λ (l : Log). record { card = record { settings = c.settings; keys = c.keys; files = c.files; purse = c.purse; log = l; channel = chained c.channel (announced (role_in c.settings (data_of f)) (data_of f)) }; refusal = None; stored = 0; out = [] }) (logfile.put_view c.log)

  pub delivers_card : (b : List ℕ) → bytes_status c.channel.chain b ≡ ok
      → outcome c (delivers b) ≡ record { card = given c b; refusal = None; stored = 0; out = pick (completes c.channel.chain (length b)) (word ok) [] }
  delivers_card b e = outcome_plays c h (delivers b) ∙ taken ∙ laid_in_lem
    where
      taken : laid_into c (plays (view c) (delivers b)) ≡ laid_into c (delivered (view c) b)
      taken = unfold plays bytes_played view in sym (judged_accepted c (bytes_status c.channel.chain b) (delivered (view c) b) e)

      laid_in_lem : laid_into c (delivered (view c) b) ≡ record { card = given c b; refusal = None; stored = 0; out = pick (completes c.channel.chain (length b)) (word ok) [] }
      laid_in_lem = unfold laid_into delivered put view given in
          ap (λ (l : Log). record {
            card = record { settings = c.settings; keys = c.keys; files = written c.files c.channel.chain.file (next_place c.channel.chain) b; purse = c.purse; log = l; channel = advanced c.channel (length b) };
            refusal = None;
            stored = 0;
            out = pick (completes c.channel.chain (length b)) (word ok) [];
          }) (logfile.put_view c.log)

-- a frame that its chain takes
bytes_taken : (k : Chain) (b : List ℕ) → 1 ≤ length b → length b ≤ most_bytes → length b ≤ k.left → bytes_status k b ≡ ok
unfolding bytes_status wrong_bytes
bytes_taken k b some most fits =
    none_first (bytes_rows k b) ok
    (ap not (ap not (ne_eqb k.left 0 (λ z. omega arith))), (or_none _ _ (or_none _ _ (ne_eqb (length b) 0 (λ z. omega arith)) (le-ltb most_bytes (length b) most)) (le-ltb k.left (length b) fits), tt))

-- ---- two deliveries are one

advanced_part : (c : Channel) (n : ℕ) → n < c.chain.left
    → advanced c n ≡ chained c (record { file = c.chain.file; place = c.chain.place; len = c.chain.len; left = c.chain.left - n })
unfolding advanced shortened
advanced_part c n less = let t = lt-leb c.chain.left n less in passed _ _ t ∙ ap (chained c) (passed _ _ t)

same_test : (left m n : ℕ) → leb (left - m) n ≡ leb left (m + n)
same_test left m n = by (leb left (m + n)) refl
  where
    by : (b : Bool) → leb left (m + n) ≡ b → leb (left - m) n ≡ b
    by true e = le-leb (left - m) n (omega (arith, leb-true left (m + n) e))
    by false e = lt-leb (left - m) n (omega (arith, leb-false left (m + n) e))

advanced_on : (c : Channel) (m n : ℕ)
    → advanced (chained c (record { file = c.chain.file; place = c.chain.place; len = c.chain.len; left = c.chain.left - m })) n ≡ advanced c (m + n)
unfolding advanced shortened chained
advanced_on c m n =
    let e = same_test c.chain.left m n in
    let d : c.chain.left - m - n ≡ c.chain.left - (m + n) = omega arith in
    rw (e, d) refl

advanced_twice : (c : Channel) (m n : ℕ) → m < c.chain.left → advanced (advanced c m) n ≡ advanced c (m + n)
advanced_twice c m n less = ap (λ (k : Channel). advanced k n) (advanced_part c m less) ∙ advanced_on c m n

laid_again : (b : List ℕ) (at : ℕ) (x y : List ℕ) → at + (length x + length y) ≤ length b → laid_in (laid_in b at x) (at + length x) y ≡ laid_in b at (x ++ y)
laid_again b at x y r =
    let l = length-append x y in
    let e : laid_in b at x ≡ laid b at x = laid_room b at x (omega arith) in
    let n = length_laid b at x (omega arith) in
    ap (λ (z : List ℕ). laid_in z (at + length x) y) e ∙ laid_room (laid b at x) (at + length x) y (omega arith) ∙ laid_further b at x y ∙ sym (laid_room b at (x ++ y) (omega arith))

written_again : (f : Files) → Sized f → (at : ℕ) (x y : List ℕ) (r : Role) → is_data r ≡ true → at + (length x + length y) ≤ size_of r
    → written (written f r at x) r (at + length x) y ≡ written f r at (x ++ y)
written_again f h at x y r t z =
    ap (λ (b : List ℕ). holding (written f r at x) r (laid_in b (at + length x) y)) (held f _ r t)
    ∙ held_again f _ _ r
    ∙ ap (holding f r) (laid_again (bytes_of f r) at x y (omega (arith, h r)))

-- what the standing rules say of an open chain on a card
pub chain_ranged : (c : Card) → Kept c → 1 ≤ c.channel.chain.left → Ranged c.channel.chain
unfolding view
chain_ranged c h some = ranged c.channel.chain (sound_view c h).channel.chain (ap not (ne_eqb c.channel.chain.left 0 (λ z. omega arith)))

module _ (c : Card) (h : Kept c) (x y : List ℕ) (less : length x < c.channel.chain.left) (fits : length x + length y ≤ c.channel.chain.left) where
  range : Ranged c.channel.chain
  range = chain_ranged c h (omega arith)

  files_twice : written (written c.files c.channel.chain.file (next_place c.channel.chain) x) c.channel.chain.file
      (c.channel.chain.place + (c.channel.chain.len - (c.channel.chain.left - length x))) y
      ≡ written c.files c.channel.chain.file (next_place c.channel.chain) (x ++ y)
  unfolding view
  files_twice =
      let k = c.channel.chain in
      let r = range in
      let p : k.place + (k.len - (k.left - length x)) ≡ next_place k + length x = omega (arith, r.left) in
      rw p (written_again c.files (sound_view c h).files (next_place k) x y k.file r.file (omega (arith, r.left, r.range)))

  given_twice : given (given c x) y ≡ given c (x ++ y)
  unfolding given
  given_twice =
      let part : (advanced c.channel (length x)).chain ≡ record { file = c.channel.chain.file; place = c.channel.chain.place; len = c.channel.chain.len; left = c.channel.chain.left - length x } = ap (λ (k : Channel). k.chain) (advanced_part c.channel (length x) less) ∙ unfold chained in refl in
      let f : written (written c.files c.channel.chain.file (next_place c.channel.chain) x) (advanced c.channel (length x)).chain.file (next_place (advanced c.channel (length x)).chain) y
      ≡ written c.files c.channel.chain.file (next_place c.channel.chain) (x ++ y) = rw part (files_twice) in
      let g : advanced (advanced c.channel (length x)) (length y) ≡ advanced c.channel (length (x ++ y)) = advanced_twice c.channel (length x) (length y) less ∙ ap (advanced c.channel) (sym (length-append x y)) in
      λ i. record { settings = c.settings; keys = c.keys; files = f i; purse = c.purse; log = c.log; channel = g i }

  pub left_then : (given c x).channel.chain.left ≡ c.channel.chain.left - length x
  unfolding given chained
  left_then = ap (λ (k : Channel). k.chain.left) (advanced_part c.channel (length x) less)

-- ---- frames

module _ (c : Card) (h : Kept c) (b : List ℕ) (some : 1 ≤ length b) (most : length b ≤ most_bytes) (fits : length b ≤ c.channel.chain.left) where
  frame_card : next c (delivers b) ≡ given c b
  frame_card = ap (λ (o : Outcome). o.card) (delivers_card c h b (bytes_taken c.channel.chain b some most fits))

  frame_out : (outcome c (delivers b)).out ≡ pick (completes c.channel.chain (length b)) (word ok) []
  frame_out = ap (λ (o : Outcome). o.out) (delivers_card c h b (bytes_taken c.channel.chain b some most fits))

-- what is left for the frames behind the first
module _ (c : Card) (h : Kept c) (b d : List ℕ) (bs : List (List ℕ)) (z : FrameSizes (b ∷ d ∷ bs)) (fits : length (flat (b ∷ d ∷ bs)) ≤ c.channel.chain.left) where
  parts : length (flat (b ∷ d ∷ bs)) ≡ length b + length (flat (d ∷ bs))
  unfolding flat
  parts = length-append b (flat (d ∷ bs))

  behind : 1 ≤ length (flat (d ∷ bs))
  unfolding flat
  behind = let l = length-append d (flat bs) in omega (arith, z.2.0)

  first_less : length b < c.channel.chain.left
  first_less = omega (arith, parts, behind, fits)

  first_fits : length b ≤ c.channel.chain.left
  first_fits = omega (arith, first_less)

  rest_left : (next c (delivers b)).channel.chain.left ≡ c.channel.chain.left - length b
  rest_left = ap (λ (k : Card). k.channel.chain.left) (frame_card c h b z.0 z.1 first_fits) ∙ left_then c h b (flat (d ∷ bs)) first_less (omega (arith, parts, fits))

  rest_fits : length (flat (d ∷ bs)) ≤ (next c (delivers b)).channel.chain.left
  rest_fits = omega (arith, rest_left, parts, fits)

  rest_all : length (flat (b ∷ d ∷ bs)) ≡ c.channel.chain.left → length (flat (d ∷ bs)) ≡ (next c (delivers b)).channel.chain.left
  rest_all e = omega (arith, rest_left, parts, e)

pub runs_given : (c : Card) → Kept c → (b : List ℕ) (bs : List (List ℕ)) → FrameSizes (b ∷ bs) → length (flat (b ∷ bs)) ≤ c.channel.chain.left
    → run next c (delivery (b ∷ bs)) ≡ given c (flat (b ∷ bs))
unfolding run
runs_given c h b [] z fits =
    let e : flat (b ∷ []) ≡ b = unfold flat in append-nil b in
    let l : length b ≤ c.channel.chain.left = rw e at fits in
    frame_card c h b z.0 z.1 l ∙ ap (given c) (sym e)
runs_given c h b (d ∷ bs) z fits =
    let k = next c (delivers b) in
    let e = frame_card c h b z.0 z.1 (first_fits c h b d bs z fits) in
    let j : flat (b ∷ d ∷ bs) ≡ b ++ flat (d ∷ bs) = unfold flat in refl in
    runs_given k (next_kept c h (delivers b)) d bs z.2 (rest_fits c h b d bs z fits)
    ∙ ap (λ (q : Card). given q (flat (d ∷ bs))) e
    ∙ given_twice c h b (flat (d ∷ bs)) (first_less c h b d bs z fits) (omega (arith, parts c h b d bs z fits, fits))
    ∙ ap (given c) (sym j)

-- what is heard of them, where they are all that is left
pub frames_heard : (c : Card) → Kept c → (b : List ℕ) (bs : List (List ℕ)) → FrameSizes (b ∷ bs) → length (flat (b ∷ bs)) ≡ c.channel.chain.left
    → along next (λ k e. (outcome k e).out) c (delivery (b ∷ bs)) ≡ heard bs (word ok)
unfolding along
frames_heard c h b [] z all =
    let e : flat (b ∷ []) ≡ b = unfold flat in append-nil b in
    let l : length b ≡ c.channel.chain.left = rw e at all in
    ap (λ (o : List ℕ). o ∷ []) (frame_out c h b z.0 z.1 (omega arith) ∙ picked _ _ (le-leb c.channel.chain.left (length b) (omega arith)))
frames_heard c h b (d ∷ bs) z all =
    let fits : length (flat (b ∷ d ∷ bs)) ≤ c.channel.chain.left = omega (arith, all) in
    let quiet = frame_out c h b z.0 z.1 (first_fits c h b d bs z fits) ∙ passed _ _ (lt-leb c.channel.chain.left (length b) (first_less c h b d bs z fits)) in
    let rest = frames_heard (next c (delivers b)) (next_kept c h (delivers b)) d bs z.2 (rest_all c h b d bs z fits all) in
    λ i. quiet i ∷ rest i
