-- What a MACed command does is what the same command does plain.
use Rattle.std.specs.Prelude.{ℕ, ◌+◌, ◌%◌, Bool, ◌&&◌, ◌||◌, ◌↔◌, ◌≡◌}
use Rattle.std.proofs.Math.Bool.{true, false, true≢false}
use mathlib.Core.List.{List, [], ◌∷◌, ◌++◌}
use Rattle.std.proofs.Math.Path.{refl, sym, ap, subst}
use Rattle.std.proofs.Common.{◌∙◌, arith}
use borrow.Author.Tests.{eqb-true, eq-eqb, ne_eqb, le-ltb, not-false}
use Rattle.std.proofs.Math.Dec.{eqb}
use Rattle.std.proofs.Math.ListN.{length, length-append}
use Rattle.tables.specs.Choice.{pick, none, or_no, or_none, and_left, and_right, and_both}
use Rattle.tables.specs.Reasons.{NoReason, none_first}
use Rattle.wire.specs.Bytes.{word, le3}
use Rattle.roles.specs.declared.Role.{Role}
use Rattle.datafiles.specs.declared.Files.{Files}
use Rattle.access.specs.declared.Access.{Access}
use Rattle.chains.specs.declared.Chain.{Chain}
use Rattle.chains.specs.Chain.{is_open}
use Rattle.channel.specs.declared.Inputs.{Inputs}
use Rattle.channel.specs.declared.Stage.{Stage}
use Rattle.channel.specs.declared.Stage.TheVariants.{Bench, Real}
use Rattle.channel.specs.Channel.{is_real, counter_of, counted_up, counted, bare, chained}
use Rattle.sealing.specs.Sealing.{seal_of}
use Rattle.frames.specs.Frame.{ins_of, data_of, framed}
use Rattle.columns.specs.Table.{read_data, write_data, get_value, credit, debit, limited_credit, read_records, write_record, clear_record_file, get_file_settings, authenticate_first, authenticate_second, on_data, on_value, on_log, on_file, names_file, is_base}
use Rattle.rows.specs.State.{Core, log_pending}
use Rattle.modes.specs.Modes.{role_in, access_for, maced_under, plain_of}
use Rattle.modes.specs.Laws.{role_first, plain_sealed}
use Rattle.rows.specs.Rows.{unknown_command, interrupts, sent_of, length_cases, wrong_length, lacks_mac, unknown_file, other_kind_or_never, not_granted, part_fails, forged, used_up, switched_off, bad_parameter, ranged, outside, long_read, nothing_pending, maced_in, rows_under, rows_for, ok, status_for, status_of}
use Rattle.rows.specs.Laws.{clear, right_mac}
use Rattle.rows.specs.Inside.{or_false_false}
use Rattle.effects.specs.Effects.{stored_after, files_after}
use Rattle.replies.specs.Replies.{shown_of}
use Rattle.card.specs.declared.Card.{Card}
use Rattle.card.specs.View.{view, put, broken, on_channel}
use Rattle.card.specs.Outcome.{Outcome}
use Rattle.card.specs.Events.{changed, shown, mac_behind, accepted_plain, accepted, laid_into, reply_room}
use Rattle.card.specs.Accepted.{base_shown, base_accepted}
use Rattle.card.proofs.Laws.{command_plays, plays_accepted}
use Rattle.standing.specs.Rules.{broken_by}
use Rattle.settings.specs.declared.Settings.{Settings}
use Rattle.settings.specs.Settings.{mac_file}
use Rattle.keys.specs.declared.Keys.{Keys}
use Rattle.limits.specs.declared.Limits.{Limits}
use Rattle.purse.specs.declared.Purse.{Purse}
use Rattle.logfile.specs.Journal.{Journal}
use Rattle.logfile.specs.View as log
use Rattle.till.specs.Till.{sealed}
use Rattle.frames.specs.Laws.{length_data}
use Rattle.frames.specs.Framed.{header}
use Rattle.sealing.specs.Laws.{length_seal}
use Rattle.till.specs.Laws.{sealable_yes}
use Rattle.demands.specs.Demands.{Kept}
use Rattle.demands.specs.Sessions.{sends, maced_frame, on_bench, Sealable, AsPlain}
use Rattle.demands.proofs.Proofs.LetIn.{Sent, framed_sent}

-- ---- a command in MAC mode

-- it is a base command
maced_base : (a : Access) (x : Bool) (g : Stage) (i j : ℕ) → maced_under a x g i ≡ true → maced_under a x g j ≡ false → eqb i j ≡ false
maced_base a x g i j m n = by (eqb i j) refl
  where
    by : (b : Bool) → eqb i j ≡ b → b ≡ false
    by false e = refl
    by true e = absurd (true≢false (sym m ∙ ap (λ (l : ℕ). maced_under a x g l) (eqb-true i j e) ∙ n))

first_none : (a : Access) (x : Bool) (g : Stage) → maced_under a x g authenticate_first ≡ false
unfolding maced_under on_file
first_none a x g = and_right (is_real g) false refl

second_none : (a : Access) (x : Bool) (g : Stage) → maced_under a x g authenticate_second ≡ false
unfolding maced_under on_file
second_none a x g = and_right (is_real g) false refl

-- without a data field it names no file
and_true : (b : Bool) → (b && true) ≡ false → b ≡ false
and_true false e = refl
and_true true e = e

names_none : (i : ℕ) → wrong_length false i [] ≡ false → names_file i ≡ false
unfolding length_cases sent_of le3 names_file on_file
names_none i e =
    let (a, (b, (c, (d, (f, (g, (h, (j, (k, (l, (m, (n, o)))))))))))) = none (length_cases false i []) e in
    simp (and_true (eqb i read_data) a, and_true (eqb i write_data) b, and_true (eqb i get_value) c, and_true (eqb i credit) d, and_true (eqb i debit) f, and_true (eqb i limited_credit) g, and_true (eqb i read_records) h, and_true (eqb i write_record) j, and_true (eqb i clear_record_file) k, and_true (eqb i get_file_settings) n)

-- and none of its tests by a file applies
record Unnamed (i : ℕ) : Type 0 where
  names : names_file i ≡ false
  file : on_file i ≡ false
  read : eqb i read_data ≡ false
  write : eqb i write_data ≡ false
  range : ranged i ≡ false
  settings : eqb i get_file_settings ≡ false

unnamed : (i : ℕ) → names_file i ≡ false → Unnamed i
unfolding names_file on_file ranged
unnamed i n =
    let (file, told) = or_no (on_file i) _ n in
    let (both, log) = or_no (on_data i || on_value i) (on_log i) file in
    let (read, write) = or_no (eqb i read_data) (eqb i write_data) (or_no (on_data i) (on_value i) both).0 in
    let (records, entry) = or_no (eqb i read_records) (eqb i write_record) (or_no (eqb i read_records || eqb i write_record) _ log).0 in
    record { names = n; file = file; read = read; write = write; range = or_none (on_data i || eqb i read_records) _ (or_none (on_data i) _ (or_none (eqb i read_data) _ read write) records) entry; settings = told }

-- no row and no effect sees what stands behind the data field
module _ (s : Settings) (i : ℕ) (t : List ℕ) where
  same_role : (a : ℕ) (d : List ℕ) → role_in s (a ∷ d ++ t) ≡ role_in s (a ∷ d)
  same_role a d = role_first s (a ∷ d ++ t) (a ∷ d) (omega arith) (omega arith) refl

  file_rows : (g : Stage) (l : Limits) (p : Purse) (n : ℕ) (d : List ℕ) → wrong_length false i d ≡ false
      → (unknown_file i (role_in s (d ++ t)) ≡ unknown_file i (role_in s d))
      × (other_kind_or_never i (role_in s (d ++ t)) (access_for s g i (d ++ t)) ≡ other_kind_or_never i (role_in s d) (access_for s g i d))
      × (not_granted i (access_for s g i (d ++ t)) ≡ not_granted i (access_for s g i d))
      × (outside l p n i (role_in s (d ++ t)) d ≡ outside l p n i (role_in s d) d)
      × (long_read true i (role_in s (d ++ t)) d ≡ long_read true i (role_in s d) d)
  unfolding unknown_file other_kind_or_never not_granted outside long_read pick
  file_rows g l p n [] w =
      let u = unnamed i (names_none i w) in
      (rw u.names refl, rw u.file refl, rw u.file refl, rw u.range refl, rw u.read refl)
  file_rows g l p n (a ∷ d) w = let e = same_role a d in (rw e refl, rw e refl, rw e refl, rw e refl, rw e refl)

  file_effects : (f : Files) (p : Purse) (j : Journal) (d : List ℕ) → wrong_length false i d ≡ false
      → (files_after i (role_in s (d ++ t)) d f ≡ files_after i (role_in s d) d f) × (shown_of s f p j i (role_in s (d ++ t)) d ≡ shown_of s f p j i (role_in s d) d)
  unfolding files_after shown_of pick
  file_effects f p j [] w = let u = unnamed i (names_none i w) in (rw u.write refl, rw (u.read, u.settings) refl)
  file_effects f p j (a ∷ d) w = let e = same_role a d in (rw e refl, rw e refl)

-- ---- the rows on both cards

module _ (s : Settings) (ks : Keys) (p : Purse) (j : Journal) (secret ti caps : List ℕ) (kk : Chain) (k n : ℕ) where
  -- under the real session, and under the bench's
  abbrev real : Core
  real = record { settings = s; keys = ks; purse = p; journal = j; channel = record { stage = Real k n; secret = secret; ti = ti; caps = caps; chain = kk } }

  abbrev benched : Core
  benched = record { settings = s; keys = ks; purse = p; journal = j; channel = chained (bare (Bench k)) kk }

  module _ (f g : List ℕ) (i : ℕ) (d : List ℕ) (sf : Sent f i d) (sg : Sent g i (d ++ seal_of secret i n ti d)) (m : maced_in real i (d ++ seal_of secret i n ti d) ≡ true) where
    abbrev t : List ℕ
    t = seal_of secret i n ti d

    abbrev x : List ℕ
    x = d ++ t

    plain : plain_of true x ≡ d
    plain = plain_sealed d t (length_seal secret i n ti d)

    no_first : eqb i authenticate_first ≡ false
    no_first = maced_base _ (mac_file s (role_in s x)) (Real k n) i authenticate_first m (first_none _ (mac_file s (role_in s x)) (Real k n))

    no_second : eqb i authenticate_second ≡ false
    no_second = maced_base _ (mac_file s (role_in s x)) (Real k n) i authenticate_second m (second_none _ (mac_file s (role_in s x)) (Real k n))

    real_rows : rows_for false real g (ins_of g) (data_of g) ≡ rows_under false (role_in s x) (access_for s (Real k n) i x) true real g i x d
    unfolding rows_for
    real_rows = rw (sg.ins, sg.field, m, plain) refl

    bench_rows : rows_for false benched f (ins_of f) (data_of f) ≡ rows_under false (role_in s d) (access_for s (Bench k) i d) false benched f i d d
    unfolding rows_for maced_under plain_of pick bare chained
    bench_rows = rw (sf.ins, sf.field) refl

    -- what both sides ask of the plain data field
    abbrev Shared : Type 0
    Shared = (unknown_command false (Bench k) i ≡ false) × (wrong_length false i d ≡ false) × (unknown_file i (role_in s d) ≡ false)
        × (other_kind_or_never i (role_in s d) (access_for s (Bench k) i d) ≡ false) × (not_granted i (access_for s (Bench k) i d) ≡ false)
        × (switched_off i s.limited j.clears ≡ false) × (bad_parameter i d ≡ false)
        × (outside s.limits p (length j.entries) i (role_in s d) d ≡ false) × (nothing_pending i p.moved (log_pending j) ≡ false) × (is_open kk ≡ false)

    bench_ok : Shared → status_of benched f ≡ ok
    unfolding status_for interrupts lacks_mac part_fails forged used_up long_read bare chained
    bench_ok h =
        none_first (rows_for false benched f (ins_of f) (data_of f)) ok
        (subst NoReason (sym bench_rows)
        (sf.size, (sf.class, (sf.parameters, (sf.frame, (h.0, (h.9, (or_none (wrong_length false i d) _ h.1 refl, (h.2, (h.3, (or_none (not_granted i (access_for s (Bench k) i d)) _ h.4 (and_left (eqb i authenticate_second) _ no_second), (refl, (and_right (is_base i) false refl, (h.5, (h.6, (or_none (outside s.limits p (length j.entries) i (role_in s d) d) _ h.7 (and_right (eqb i read_data) _ refl), (h.8, tt)))))))))))))))))

    bench_shared : status_of benched f ≡ ok → Shared
    unfolding bare chained interrupts
    bench_shared e =
        let (a1, (a2, (a3, (a4, (a5, (a6, (a7, (a8, (a9, (a10, (a11, (a12, (a13, (a14, (a15, (a16, z)))))))))))))))) = subst NoReason bench_rows (clear false benched f e) in
        (a5, (or_no (wrong_length false i d) _ a7).0, a8, a9, (or_no (not_granted i (access_for s (Bench k) i d)) _ a10).0, a13, a14, (or_no (outside s.limits p (length j.entries) i (role_in s d) d) _ a15).0, a16, a6)

    mac_right : forged real.channel true i x ≡ false
    mac_right = right_mac real.channel i d

    real_ok : Shared → (n ≡ 0xFFFF → ⊥) → long_read true i (role_in s d) d ≡ false → status_of real g ≡ ok
    unfolding status_for unknown_command interrupts lacks_mac part_fails used_up
    real_ok h few short =
        let q = file_rows s i t (Real k n) s.limits p (length j.entries) d h.1 in
        let lx = length-append d t in
        let lt = length_seal secret i n ti d in
        none_first (rows_for false real g (ins_of g) (data_of g)) ok
        (subst NoReason (sym real_rows)
        (sg.size, (sg.class, (sg.parameters, (sg.frame, (h.0, (h.9, (or_none (wrong_length false i d) _ h.1 (le-ltb (length x) 8 (omega arith)), (q.0 ∙ h.2, (q.1 ∙ h.3, (or_none (not_granted i (access_for s (Real k n) i x)) _ (q.2 ∙ h.4) (and_left (eqb i authenticate_second) _ no_second), (refl, (or_none (forged real.channel true i x) _ mac_right (and_right (is_base i) _ (ne_eqb n 0xFFFF few)), (h.5, (h.6, (or_none (outside s.limits p (length j.entries) i (role_in s x) d) _ (q.3 ∙ h.7) (q.4 ∙ short), (h.8, tt)))))))))))))))))

    not_used : unknown_command false (Real k n) i ≡ false → used_up (Real k n) i ≡ false → n ≡ 0xFFFF → ⊥
    unfolding unknown_command used_up
    not_used known used e =
        let q : (is_base i || eqb i authenticate_first || (eqb i authenticate_second && false)) ≡ true = not-false _ known in
        let b : is_base i ≡ true = or_false_false (is_base i) (rw (no_first, no_second) at q) in
        true≢false (sym (and_both (is_base i) (eqb n 0xFFFF) b (eq-eqb n 0xFFFF e)) ∙ used)

    real_shared : status_of real g ≡ ok → Shared × (n ≡ 0xFFFF → ⊥) × (long_read true i (role_in s d) d ≡ false)
    unfolding unknown_command interrupts
    real_shared e =
        let (a1, (a2, (a3, (a4, (a5, (a6, (a7, (a8, (a9, (a10, (a11, (a12, (a13, (a14, (a15, (a16, z)))))))))))))))) = subst NoReason real_rows (clear false real g e) in
        let l = (or_no (wrong_length false i d) _ a7).0 in
        let q = file_rows s i t (Real k n) s.limits p (length j.entries) d l in
        let inside = or_no (outside s.limits p (length j.entries) i (role_in s x) d) _ a15 in
        ((a5, l, sym q.0 ∙ a8, sym q.1 ∙ a9, sym q.2 ∙ (or_no (not_granted i (access_for s (Real k n) i x)) _ a10).0, a13, a14, sym q.3 ∙ inside.0, a16, a6), not_used a5 (or_no (forged real.channel true i x) _ a12).1, sym q.4 ∙ inside.1)

    pub same_status : (status_of real g ≡ ok) ↔ ((status_of benched f ≡ ok) × (n ≡ 0xFFFF → ⊥) × (long_read true i (role_in s d) d ≡ false))
    same_status = (λ e. let h = real_shared e in (bench_ok h.0, h.1, h.2), λ h. real_ok (bench_shared h.0) h.1 h.2)

-- ---- on a card

module _ (c : Card) (k n : ℕ) (h : Kept c) (eg : c.channel.stage ≡ Real k n) (f : List ℕ) (sealing : Sealable c f) where
  abbrev ins : ℕ
  ins = ins_of f

  abbrev field : List ℕ
  field = data_of f

  -- the role of the file that it names, with the MAC or without it
  abbrev role : Role
  role = role_in c.settings field

  abbrev seal_bytes : List ℕ
  seal_bytes = seal_of c.channel.secret ins n c.channel.ti field

  abbrev frame : List ℕ
  frame = maced_frame c f

  core_real : (view c).core ≡ real c.settings c.keys c.purse (log.view c.log) c.channel.secret c.channel.ti c.channel.caps c.channel.chain k n
  unfolding view
  core_real = λ i. record { settings = c.settings; keys = c.keys; purse = c.purse; journal = log.view c.log; channel = record { stage = eg i; secret = c.channel.secret; ti = c.channel.ti; caps = c.channel.caps; chain = c.channel.chain } }

  plain_sent : Sent f ins field
  unfolding rows_for
  plain_sent = let r = sealing.framed in record { size = r.0; class = r.1.0; parameters = r.1.1.0; frame = r.1.1.1.0; ins = refl; field = refl }

  -- the frame with its MAC, part by part
  maced_framed : frame ≡ framed ins (field ++ seal_bytes)
  unfolding sealed
  maced_framed =
      let s = plain_sent in
      let l : length field + 8 ≡ length (field ++ seal_bytes) = sym (length-append field seal_bytes ∙ ap (λ (z : ℕ). length field + z) (length_seal _ ins n c.channel.ti field)) in
      rw (eg, header f s.size s.class s.parameters, l) refl

  maced_sent : Sent frame ins (field ++ seal_bytes)
  maced_sent =
      let l = length-append field seal_bytes in
      let z = length_seal c.channel.secret ins n c.channel.ti field in
      let t = sealable_yes f sealing.takes in
      let d = length_data f in
      framed_sent ins (field ++ seal_bytes) frame maced_framed (omega arith) (omega arith)

  in_mode : maced_in (view c).core ins (field ++ seal_bytes) ≡ true
  in_mode = ap (maced_in (view c).core ins) (sym maced_sent.field) ∙ sealing.mode

  mode : maced_in (real c.settings c.keys c.purse (log.view c.log) c.channel.secret c.channel.ti c.channel.caps c.channel.chain k n) ins (field ++ seal_bytes) ≡ true
  mode = subst (λ (x : Core). maced_in x ins (field ++ seal_bytes) ≡ true) core_real in_mode

  abbrev Status : Core → Core → Type 0
  Status x y = (status_of x frame ≡ ok) ↔ ((status_of y f ≡ ok) × (n ≡ 0xFFFF → ⊥) × (long_read true ins role field ≡ false))

  accepted_alike : Status (view c).core (view (on_bench c k)).core
  accepted_alike =
      subst (λ (x : Core). Status x (view (on_bench c k)).core) (sym core_real)
      (unfold view on_channel in same_status c.settings c.keys c.purse (log.view c.log) c.channel.secret c.channel.ti c.channel.caps c.channel.chain k n f frame ins field plain_sent maced_sent mode)

  bench_kept : broken (on_bench c k) ≡ false
  unfolding on_channel broken_by bare chained
  bench_kept = subst (λ (g : Stage). broken_by c.settings c.purse c.log g c.channel.chain ≡ false) eg h.rules

  first_not : eqb ins authenticate_first ≡ false
  first_not = no_first c.settings c.keys c.purse (log.view c.log) c.channel.secret c.channel.ti c.channel.caps c.channel.chain k n f frame ins field plain_sent maced_sent mode

  second_not : eqb ins authenticate_second ≡ false
  second_not = no_second c.settings c.keys c.purse (log.view c.log) c.channel.secret c.channel.ti c.channel.caps c.channel.chain k n f frame ins field plain_sent maced_sent mode

  module _ (u : Inputs) (e : status_of (view c).core frame ≡ ok) where
    abbrev shown_data : List ℕ
    shown_data = base_shown (view c) ins role field

    long : wrong_length false ins field ≡ false
    long =
        let x = subst (λ (q : Core). status_of q frame ≡ ok) core_real e in
        (real_shared c.settings c.keys c.purse (log.view c.log) c.channel.secret c.channel.ti c.channel.caps c.channel.chain k n f frame ins field plain_sent maced_sent mode x).0.1

    by_role : accepted_plain true (view c) u ins (role_in c.settings (field ++ seal_bytes)) field ≡ accepted_plain true (view c) u ins role field
    unfolding accepted_plain changed shown view
    by_role = let q = file_effects c.settings ins seal_bytes c.files c.purse (log.view c.log) field long in rw (q.0, q.1) refl

    maced_sends : sends c frame u ≡ laid_into c (record { state = changed (view c) u ins role field; stored = stored_after ins (view c).core.journal; out = shown_data ++ (mac_behind true (counted c.channel) shown_data ++ word ok) })
    maced_sends =
        let plays : accepted (view c) u (ins_of frame) (data_of frame) ≡ accepted_plain true (view c) u ins (role_in c.settings (field ++ seal_bytes)) field = unfold accepted view in rw (maced_sent.ins, maced_sent.field, in_mode, plain c.settings c.keys c.purse (log.view c.log) c.channel.secret c.channel.ti c.channel.caps c.channel.chain k n f frame ins field plain_sent maced_sent mode) refl in
        sym (command_plays c frame u reply_room (omega arith) h.rules) ∙ sym (plays_accepted c frame u e)
        ∙ ap (laid_into c) (plays ∙ by_role ∙ sym (unfold view in base_accepted ins first_not second_not true (view c) u role field refl))

    bench_plain : maced_in (view (on_bench c k)).core ins field ≡ false
    unfolding view on_channel bare chained maced_under
    bench_plain = refl

    bench_plays : accepted_plain false (view (on_bench c k)) u ins role field ≡ accepted (view (on_bench c k)) u ins field
    unfolding accepted plain_of view on_channel pick
    bench_plays = rw bench_plain refl

    bench_out : record { state = changed (view (on_bench c k)) u ins role field; stored = stored_after ins (view (on_bench c k)).core.journal; out = base_shown (view (on_bench c k)) ins role field ++ word ok } ≡ accepted_plain false (view (on_bench c k)) u ins role field
    unfolding mac_behind pick
    bench_out = base_accepted ins first_not second_not false (view (on_bench c k)) u role field refl

    plain_sends : sends (on_bench c k) f u ≡ laid_into (on_bench c k) (record { state = changed (view (on_bench c k)) u ins role field; stored = stored_after ins (view (on_bench c k)).core.journal; out = base_shown (view (on_bench c k)) ins role field ++ word ok })
    plain_sends =
        sym (command_plays (on_bench c k) f u reply_room (omega arith) bench_kept) ∙ sym (plays_accepted (on_bench c k) f u (accepted_alike.0 e).0) ∙ ap (laid_into (on_bench c k)) (sym (bench_out ∙ bench_plays))

    same_files : (sends c frame u).card.files ≡ (sends (on_bench c k) f u).card.files
    unfolding laid_into put changed view on_channel
    same_files = ap (λ (o : Outcome). o.card.files) maced_sends ∙ sym (ap (λ (o : Outcome). o.card.files) plain_sends)

    same_purse : (sends c frame u).card.purse ≡ (sends (on_bench c k) f u).card.purse
    unfolding laid_into put changed view on_channel
    same_purse = ap (λ (o : Outcome). o.card.purse) maced_sends ∙ sym (ap (λ (o : Outcome). o.card.purse) plain_sends)

    same_log : (sends c frame u).card.log ≡ (sends (on_bench c k) f u).card.log
    unfolding laid_into put changed view on_channel
    same_log = ap (λ (o : Outcome). o.card.log) maced_sends ∙ sym (ap (λ (o : Outcome). o.card.log) plain_sends)

    plain_out : (sends (on_bench c k) f u).out ≡ shown_data ++ word ok
    unfolding laid_into view on_channel
    plain_out = ap (λ (o : Outcome). o.out) plain_sends

    maced_out : (sends c frame u).out ≡ shown_data ++ (seal_of c.channel.secret 0x00 ((n + 1) % 65536) c.channel.ti shown_data ++ word ok)
    unfolding laid_into mac_behind counted pick
    maced_out = ap (λ (o : Outcome). o.out) maced_sends ∙ ap (λ (g : Stage). shown_data ++ (seal_of c.channel.secret 0x00 (counter_of (counted_up g)) c.channel.ti shown_data ++ word ok)) eg

pub sealed_as_plain : AsPlain
sealed_as_plain c k n h eg f sealing u =
    record {
      accepted = accepted_alike c k n h eg f sealing;
      files = same_files c k n h eg f sealing u;
      purse = same_purse c k n h eg f sealing u;
      log = same_log c k n h eg f sealing u;
      reply = λ e. (base_shown (view c) (ins_of f) (role_in c.settings (data_of f)) (data_of f), plain_out c k n h eg f sealing u e, maced_out c k n h eg f sealing u e);
    }
