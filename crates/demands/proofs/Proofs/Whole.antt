-- A chain that is delivered whole leaves and replies what a WriteData of the same bytes does.
use Rattle.std.specs.Prelude.{ℕ, ◌+◌, ◌-◌, ◌≤◌, ◌<◌, ◌&&◌, List, [], ◌∷◌, ◌++◌, ◌≡◌, get_or, take, None}
use Rattle.std.proofs.Math.Bool.{true, false, not}
use Rattle.std.proofs.Math.Path.{refl, sym, ap}
use Rattle.std.proofs.Common.{subst, ◌∙◌, arith, length-take-le, get_or-take}
use borrow.Author.Tests.{eq-eqb, ne_eqb, eqb-true, eqb-false, not-false, le-leb}
use Rattle.std.proofs.Math.Dec.{eqb}
use Rattle.std.proofs.Math.ListN.{length}
use Rattle.tables.specs.Choice.{pick, picked, none, or_no, or_none, and_yes}
use Rattle.tables.specs.Reasons.{none_first}
use Rattle.wire.specs.Bytes.{le3, word}
use Rattle.wire.proofs.Laws.{length_part}
use Rattle.roles.specs.declared.Role.{Role}
use Rattle.roles.specs.Roles.{is_file}
use Rattle.roles.specs.Laws.{no_file}
use Rattle.datafiles.specs.Files.{written}
use Rattle.logfile.proofs.Laws as logfile
use Rattle.chains.specs.declared.Chain.{Chain}
use Rattle.chains.specs.Chain.{unchained, is_open, announced, completes, shortened, chain_sound}
use Rattle.channel.specs.declared.Channel.{Channel}
use Rattle.channel.specs.declared.Inputs.{Inputs}
use Rattle.channel.specs.Channel.{counted, chained, advanced}
use Rattle.frames.specs.Frame.{ins_of, data_of, offset_of, length_of, bytes_in}
use Rattle.columns.specs.Table.{write_data}
use Rattle.settings.specs.declared.Settings.{Settings}
use Rattle.modes.specs.Modes.{role_in, access_for, plain_of}
use Rattle.modes.specs.Laws.{role_first}
use Rattle.rows.specs.State.{Core}
use Rattle.rows.specs.Rows.{unknown_command, sent_of, length_cases, wrong_length, lacks_mac, unknown_file, other_kind_or_never, not_granted, part_fails, forged, used_up, parameter_cases, bad_parameter, ranged, room_of, outside, long_read, rows_for, ok, status_for, maced_in, status_of, opening_status, command_status}
use Rattle.rows.specs.Laws.{command_ok, command_clear, no_chain}
use Rattle.rows.specs.Inside.{write_long}
use Rattle.effects.specs.Effects.{purse_after, journal_after, stored_after, files_after}
use Rattle.replies.specs.Replies.{shown_of}
use Rattle.card.specs.declared.Card.{Card}
use Rattle.card.specs.View.{view, put}
use Rattle.card.specs.Outcome.{Outcome}
use Rattle.card.specs.Events.{channel_after, changed, shown, mac_behind, accepted_status, accepted_plain, accepted, laid_into, reply_room}
use Rattle.card.proofs.Laws.{command_plays, plays_accepted}
use Rattle.demands.specs.Strike.{flat}
use Rattle.demands.specs.History.{opens, outcome, next, run, along}
use Rattle.demands.specs.Demands.{Kept}
use Rattle.demands.specs.Sessions.{sends}
use Rattle.demands.specs.Chains.{FrameSizes, delivery, opening_of, heard, Whole, Wholes}
use Rattle.demands.proofs.Laws.Steps.{sound_view, next_kept}
use Rattle.demands.proofs.Laws.Delivery.{chain_on, given, opens_card, runs_given, frames_heard}
use Rattle.demands.proofs.Proofs.LetIn.{Sent, framed_sent}

-- ---- the opening of an accepted WriteData in plain mode is accepted

-- the first seven bytes of a data field
module _ (d : List ℕ) (long : 7 ≤ length d) where
  abbrev seven : List ℕ
  seven = take 7 d

  seven_long : length seven ≡ 7
  seven_long = length-take-le 7 d long

  byte : (n : ℕ) → n < 7 → get_or seven n 0 ≡ get_or d n 0
  byte n h = get_or-take 7 d n 0 h

  same_role : (s : Settings) → role_in s seven ≡ role_in s d
  same_role s = role_first s seven d (omega (arith, seven_long)) (omega arith) (byte 0 (omega arith))

  same_offset : offset_of seven ≡ offset_of d
  unfolding le3
  same_offset = rw (byte 1 (omega arith), byte 2 (omega arith), byte 3 (omega arith)) refl

  same_length : length_of seven ≡ length_of d
  unfolding le3
  same_length = rw (byte 4 (omega arith), byte 5 (omega arith), byte 6 (omega arith)) refl

  same_mode : (c : Core) → maced_in c write_data seven ≡ maced_in c write_data d
  same_mode c = rw (same_role c.settings) refl

module _ (c : Core) (d : List ℕ) (plain : maced_in c write_data d ≡ false) (e : command_status false c write_data d ≡ ok) where
  long_field : (length d ≡ length_of d + 7) × (length_of d ≡ 0 → ⊥)
  unfolding rows_for plain_of pick parameter_cases
  long_field =
      let n = command_clear false c write_data d e in
      let q = rw plain at n.1.1.0 in
      let p = rw plain at n.1.1.1.1.1.1.1.1.1.0 in
      (write_long d (or_no _ _ q).0, eqb-false _ _ (none (parameter_cases write_data d) p).1.0)

  abbrev s : List ℕ
  s = take 7 d

  at_least : 7 ≤ length d
  at_least = omega (arith, long_field.0)

  abbrev role : Role
  role = role_in c.settings s

  file_there : (unknown_file write_data role ≡ false) × (other_kind_or_never write_data role (access_for c.settings c.channel.stage write_data s) ≡ false)
      × (not_granted write_data (access_for c.settings c.channel.stage write_data s) ≡ false)
  unfolding rows_for
  file_there =
      let n = command_clear false c write_data d e in
      rw (same_role d at_least c.settings) (n.1.1.1.0, n.1.1.1.1.0, (or_no (not_granted write_data (access_for c.settings c.channel.stage write_data d)) _ n.1.1.1.1.1.0).0)

  counter_left : used_up c.channel.stage write_data ≡ false
  unfolding rows_for
  counter_left = (or_no (forged c.channel (maced_in c write_data d) write_data d) _ (command_clear false c write_data d e).1.1.1.1.1.1.1.0).1

  length_there : wrong_length true write_data s ≡ false
  unfolding length_cases sent_of
  length_there = rw (ap not (eq-eqb (length s) 7 (seven_long d at_least))) refl

  parameter_there : bad_parameter write_data s ≡ false
  unfolding parameter_cases
  parameter_there = let z : eqb (length_of s) 0 ≡ false = ne_eqb _ 0 (λ q. long_field.1 (sym (same_length d at_least) ∙ q)) in rw z refl

  range_there : outside c.settings.limits c.purse (length c.journal.entries) write_data role s ≡ false
  unfolding rows_for plain_of outside ranged room_of pick
  range_there =
      let n = (command_clear false c write_data d e).1.1.1.1.1.1.1.1.1.1.0 in
      let q = rw plain at n in
      rw (same_role d at_least c.settings, same_offset d at_least, same_length d at_least) (or_no _ _ q).0

  opening_ok : (g : List ℕ) → Sent g write_data s → opening_status c g ≡ ok
  unfolding status_for rows_for unknown_command lacks_mac part_fails forged long_read plain_of pick
  opening_ok g sent =
      let n = command_clear false c write_data d e in
      let f = file_there in
      none_first (rows_for true c g (ins_of g) (data_of g)) ok (
        sent.size,
        (
          sent.class,
          (
            sent.parameters,
            (
              sent.frame,
              rw (sent.ins, sent.field)
                  (refl, (n.1.0, (or_none _ _ length_there refl, (f.0, (f.1, (or_none _ _ f.2 refl, (same_mode d at_least c ∙ plain, (or_none _ _ refl counter_left, (n.1.1.1.1.1.1.1.1.0, (parameter_there, (or_none _ _ range_there refl, (n.1.1.1.1.1.1.1.1.1.1.1.0, tt)))))))))))),
            ),
          ),
        ),
      )

-- ---- on a card

-- no chain is open: it names no file, and its figures are zero
ended_chain : (k : Chain) → chain_sound k ≡ true → is_open k ≡ false → k ≡ unchained
unfolding chain_sound unchained
ended_chain k s o =
    let z : eqb k.left 0 ≡ true = not-false _ o in
    let (a, l) = and_yes (not (is_file k.file) && eqb k.place 0) _ (sym (picked _ _ z) ∙ s) in
    let (f, p) = and_yes (not (is_file k.file)) _ a in
    λ i. record { file = no_file k.file f i; place = eqb-true k.place 0 p i; len = eqb-true k.len 0 l i; left = eqb-true k.left 0 z i }

-- the last bytes of a chain leave the channel that one command leaves
advanced_all : (g : Channel) (k : Chain) (n : ℕ) → g.chain ≡ unchained → k.left ≡ n → advanced (chained g k) n ≡ counted g
unfolding advanced chained shortened
advanced_all g k n e l =
    let t : completes k n ≡ true = le-leb k.left n (omega arith) in
    picked _ _ t ∙ rw (picked {b = completes k n} unchained (record { file = k.file; place = k.place; len = k.len; left = k.left - n }) t) (unfold counted in rw (sym e) refl)

module _ (c : Card) (h : Kept c) (f : List ℕ) (ei : ins_of f ≡ write_data) (plain : maced_in (view c).core write_data (data_of f) ≡ false) (e : status_of (view c).core f ≡ ok) where
  abbrev d : List ℕ
  d = data_of f

  ok_write : command_status false (view c).core write_data d ≡ ok
  ok_write = subst (λ (i : ℕ). command_status false (view c).core i d ≡ ok) ei (command_ok false (view c).core f e)

  field_long : (length d ≡ length_of d + 7) × (length_of d ≡ 0 → ⊥)
  field_long = long_field (view c).core d plain ok_write

  abbrev g : List ℕ
  g = opening_of f

  opening_sent : Sent g write_data (take 7 d)
  opening_sent =
      let l = seven_long d (omega (arith, field_long.0)) in
      framed_sent write_data (take 7 d) g (ap (λ (n : ℕ). 0x90 ∷ 0x8D ∷ 0x00 ∷ 0x00 ∷ n ∷ take 7 d ++ 0x00 ∷ []) (sym l)) (omega (arith, l)) (omega (arith, l))

  opening_accepted : opening_status (view c).core g ≡ ok
  opening_accepted = opening_ok (view c).core d plain ok_write g opening_sent

  -- the role of the file that it names, and the chain that it announces
  abbrev r : Role
  r = role_in c.settings d

  abbrev k : Chain
  k = record { file = r; place = offset_of d; len = length_of d; left = length_of d }

  announces : announced (role_in c.settings (data_of g)) (data_of g) ≡ k
  unfolding announced
  announces =
      let s = at_least (view c).core d plain ok_write in
      let q = opening_sent.field in
      rw (q, same_role d s c.settings, same_offset d s, same_length d s) refl

  opened : outcome c (opens g) ≡ record { card = chain_on c k; refusal = None; stored = 0; out = [] }
  opened = opens_card c h g opening_accepted ∙ ap (λ (x : Chain). record { card = chain_on c x; refusal = None; stored = 0; out = [] }) announces

  opened_card : next c (opens g) ≡ chain_on c k
  opened_card = ap (λ (o : Outcome). o.card) opened

  free : c.channel.chain ≡ unchained
  unfolding view
  free = ended_chain c.channel.chain (sound_view c h).channel.chain (no_chain false (view c).core write_data d ok_write)

  module _ (u : Inputs) where
    -- what the WriteData leaves
    single : sends c f u ≡ record { card = given (chain_on c k) (bytes_in d); refusal = None; stored = 0; out = word ok }
    single = sym (command_plays c f u reply_room (omega arith) h.rules) ∙ sym (plays_accepted c f u e) ∙ ap (laid_into c) as_write ∙ left_behind
      where
        as_write : accepted (view c) u (ins_of f) d ≡ accepted_plain false (view c) u write_data r d
        as_write = unfold accepted plain_of view pick in rw (ei, plain) refl

        at : offset_of d + (length_of d - length_of d) ≡ offset_of d
        at = omega arith

        whole_long : length_of d ≡ length (bytes_in d)
        whole_long = let l = length_part d 7 (length d) (omega arith) in omega (arith, l, field_long.0)

        left_behind : laid_into c (accepted_plain false (view c) u write_data r d) ≡ record { card = given (chain_on c k) (bytes_in d); refusal = None; stored = 0; out = word ok }
        left_behind = unfold laid_into accepted_plain mac_behind shown shown_of accepted_status changed channel_after purse_after journal_after stored_after files_after put view given chain_on chained pick in
            λ i. record {
              card = record {
                settings = c.settings;
                keys = c.keys;
                files = written c.files r (sym at i) (bytes_in d);
                purse = c.purse;
                log = logfile.put_view c.log i;
                channel = sym (advanced_all c.channel k (length (bytes_in d)) free whole_long) i;
              };
              refusal = None;
              stored = 0;
              out = word ok;
            }

    kept : Kept (chain_on c k)
    kept = subst (λ (q : Card). Kept q) opened_card (next_kept c h (opens g))

    all_left : (bs : List (List ℕ)) → flat bs ≡ bytes_in d → length (flat bs) ≡ (chain_on c k).channel.chain.left
    unfolding chain_on chained
    all_left bs q = let l = length_part d 7 (length d) (omega arith) in ap length q ∙ omega (arith, l, field_long.0)

    whole_at : (bs : List (List ℕ)) → FrameSizes bs → flat bs ≡ bytes_in d → Whole c f u bs
    whole_at [] z q =
        let l = length_part d 7 (length d) (omega arith) in
        let n : 0 ≡ length (bytes_in d) = unfold flat in ap length q in
        absurd (field_long.1 (omega (arith, l, n, field_long.0)))
    whole_at (b ∷ bs) z q =
        let all = all_left (b ∷ bs) q in
        record {
          card = unfold run in ap (λ (x : Card). run next x (delivery (b ∷ bs))) opened_card ∙ runs_given (chain_on c k) kept b bs z (omega (arith, all)) ∙ ap (given (chain_on c k)) q ∙ sym (ap (λ (o : Outcome). o.card) single);
          replies = replied;
        }
      where
        frames : along next (λ x y. (outcome x y).out) (next c (opens g)) (delivery (b ∷ bs)) ≡ heard bs (word ok)
        frames = ap (λ (x : Card). along next (λ x y. (outcome x y).out) x (delivery (b ∷ bs))) opened_card ∙ frames_heard (chain_on c k) kept b bs z (all_left (b ∷ bs) q)

        replied : along next (λ x y. (outcome x y).out) c (opens g ∷ delivery (b ∷ bs)) ≡ heard (b ∷ bs) (sends c f u).out
        replied = unfold along in λ i. ap (λ (o : Outcome). o.out) opened i ∷ (frames ∙ ap (heard bs) (sym (ap (λ (o : Outcome). o.out) single))) i

pub whole : Wholes
whole c h f ei plain e u bs z q = whole_at c h f ei plain e u bs z q
