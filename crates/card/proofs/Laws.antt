-- Laws of the card's parts and events, as the code goes through them.
use Rattle.std.specs.Prelude.{ℕ, ◌+◌, ◌≤◌, Bool, not, ◌≡◌, eqb, ℤ, Option, Some, None, is_none}
use Rattle.std.proofs.Math.Bool.{true, false}
use mathlib.Core.List.{List, [], ◌++◌}
use Rattle.std.proofs.Math.Path.{refl, sym, ap}
use Rattle.std.proofs.Common.{◌∙◌, ltb-false, le-ltb, eq-eqb, ne_eqb, arith}
use Rattle.std.proofs.lemmas.Bool.{false≢true}
use Rattle.std.proofs.Math.Dec.{ltb}
use Rattle.std.proofs.Math.ListN.{length}
use Rattle.tables.specs.Choice.{pick, picked, passed}
use Rattle.wire.specs.Bytes.{laid_in, word, Shows}
use Rattle.wire.proofs.Laws.{laid_none, laid_room, length_word, shows_none, shows_whole, shows_length, shows_then}
use Rattle.logfile.specs.declared.Log.{Log}
use Rattle.logfile.specs.View as log
use Rattle.logfile.proofs.Laws as logfile
use Rattle.logfile.proofs.FitLaws.{fit_view}
use Rattle.refusals.specs.declared.Refusal.{Refusal}
use Rattle.refusals.specs.declared.Refusal.TheVariants.{UnknownKey, ShortBuffer, BrokenRule}
use Rattle.purse.specs.declared.Purse.{Purse}
use Rattle.roles.specs.declared.Role.{Role}
use Rattle.datafiles.specs.declared.Files.{Files}
use Rattle.datafiles.specs.Files as files
use Rattle.access.specs.Rights.{session_sound}
use Rattle.keys.specs.declared.Keys.{Keys}
use Rattle.chains.specs.declared.Chain.{Chain}
use Rattle.chains.specs.Chain.{announced, next_place, completes}
use Rattle.channel.specs.declared.Channel.{Channel}
use Rattle.channel.specs.declared.Inputs.{Inputs}
use Rattle.channel.specs.Channel.{stage_of, counted, bare, chained, advanced}
use Rattle.authentication.specs.Authentication.{begun}
use Rattle.authentication.specs.Guarded.{opened_in, opens_whole}
use Rattle.columns.specs.Table.{write_data, authenticate_first, authenticate_second, shows}
use Rattle.frames.specs.Frame.{ins_of, data_of}
use Rattle.settings.specs.declared.Settings.{Settings}
use Rattle.rows.specs.State.{State}
use Rattle.modes.specs.Modes.{role_in, mac_size, plain_of}
use Rattle.rows.specs.Rows.{wrong_length, outside, ok, maced_in, status_of, command_status, opening_status, bytes_status}
use Rattle.rows.specs.Laws.{command_ok, inside, long_enough, first_plain, second_plain, second_length}
use Rattle.effects.specs.Effects.{purse_after, journal_after, stored_after, files_after}
use Rattle.effects.specs.Guarded.{purse_in}
use Rattle.replies.specs.Guarded.{shown_in}
use Rattle.card.specs.declared.Card.{Card}
use Rattle.card.specs.declared.Reply.{Reply}
use Rattle.card.specs.View.{view, put, broken, on_channel}
use Rattle.standing.specs.Parts.{log_broken}
use Rattle.standing.proofs.Parts.{log_few, parted}
use Rattle.card.specs.Outcome.{Outcome, reply_of, Answered, bench}
use Rattle.standing.specs.Rules.{order_refusal}
use Rattle.card.specs.Events.{channel_after, changed, shown, mac_behind, accepted_status, ended, Played, refused, accepted_plain, accepted, judged, played, laid_into, reply_room, data_room, bench_refusal, benched, commanded, opening, opening_played, chain_opened, delivered, bytes_played, bytes_sent, with_session, session_changed, powered_up, issued, blank, personalised}
use Rattle.card.specs.Accepted.{Granted, base_shown, purse_inside, shown_accepted, shown_small, base_channel, base_accepted, shows_changes_nothing, quiet_shows_nothing}
use Rattle.card.specs.Sealing.{Sealed, sealed_shows}
use Rattle.card.specs.Laws.{reply, reply_storing}

-- a card is the state that it stands for, laid into it
pub put_view : (c : Card) → put c 0 (view c) ≡ c
unfolding put view
put_view c = ap (λ (l : Log). record { settings = c.settings; keys = c.keys; files = c.files; purse = c.purse; log = l; channel = c.channel }) (logfile.put_view c.log)

-- a card that breaks no rule has a log that breaks none
pub log_unbroken : (c : Card) → broken c ≡ false → log_broken c.log ≡ false
log_unbroken c e = (parted c.settings c.purse c.log c.channel.stage c.channel.chain e).1.1.1.1.1.0

-- ---- replies

some_none : {r : Refusal} → Some r ≡ None → ⊥
some_none e = false≢true (ap is_none e)

pub bench_reply : (c : Card) (n : Option Refusal) → reply c n 0 ≡ reply_of (bench c n)
unfolding bench reply_of
bench_reply c n = refl

pub bench_answers : (c : Card) (n : Option Refusal) (b : List ℕ) → Answered (bench c n) b b (reply c n 0)
unfolding bench reply_of
bench_answers c n b = (refl, laid_none b)

pub answered_by : (o : Outcome) (b b₂ : List ℕ) {r r' : Reply} → r ≡ r' → Answered o b b₂ r' → Answered o b b₂ r
answered_by o b b₂ e a = (e ∙ a.0, a.1)

pub answered_as : (o o' : Outcome) (b b₂ : List ℕ) (r : Reply) → o ≡ o' → Answered o b b₂ r → Answered o' b b₂ r
answered_as o o' b b₂ r e a = (cc, cc)

-- the card k with the state s, with t slot bytes stored, and a buffer that shows x
pub shows_answers : (c : Card) {k : Card} {t : ℕ} (s : State) (x b : List ℕ) {b₂ : List ℕ} {n : ℕ} → k ≡ put c t s → Shows x b b₂ n
    → Answered (laid_into c (record { state = s; stored = t; out = x })) b b₂ (reply_storing t k None n)
unfolding laid_into reply_of
shows_answers c {t = t} s x b ek (e, l) = ((λ i. reply_storing t (ek i) None (l i)), e)

-- what an accepted command lays at the front is its data, with room for the MAC and the status
pub accepted_shows : (c : Card) (m : Bool) (i : ℕ) (r : Role) (d b b₁ : List ℕ) (n : ℕ) → Granted (view c).core m i r d → broken c ≡ false → reply_room ≤ length b
    → length c.log.slots ≡ 64 → length c.log.entry ≡ 16 → Shows (shown_in (length b) c.settings c.files c.purse c.log i r d) b b₁ n
    → Shows (base_shown (view c) i r d) b b₁ n × (n + pick m mac_size 0 ≤ data_room)
unfolding view
accepted_shows c m i r d b b₁ n g sound room ls le s =
    let u = log_unbroken c sound in
    let q = shown_accepted (length b) (view c) c.log r d refl (omega arith) u i g.0 in
    let z = shown_small m (view c) i r d (fit_view c.log (log_few c.log u) ls le) g in
    let t : n ≡ length (base_shown (view c) i r d) = s.1 ∙ ap length q in
    ((cc, t), rw (sym t) at z)

-- ---- the card that an accepted command leaves

-- another channel alone
pub on_channel_lem : (c : Card) (s : State) (k : Channel) → s ≡ record { core = record { settings = c.settings; keys = c.keys; purse = c.purse; journal = log.view c.log; channel = k }; files = c.files }
    → on_channel c k ≡ put c 0 s
unfolding on_channel put
on_channel_lem c s k e = rw (e, logfile.put_view c.log) refl

pub on_counted : (c : Card) (u : Inputs) (i : ℕ) (r : Role) (d : List ℕ) → shows i ≡ true → on_channel c (counted c.channel) ≡ put c 0 (changed (view c) u i r d)
on_counted c u i r d t =
    let h = shows_changes_nothing (view c) r d i t in
    on_channel_lem c _ _ (unfold changed view in rw (h.0, h.1, h.2, base_channel i h.3 h.4 c.keys u d c.channel) refl)

pub on_begun : (c : Card) (u : Inputs) (r : Role) (d : List ℕ) → on_channel c (begun u d) ≡ put c 0 (changed (view c) u authenticate_first r d)
on_begun c u r d = on_channel_lem c _ _ (unfold changed view purse_after journal_after files_after channel_after pick in refl)

pub on_opened : (c : Card) (u : Inputs) (r : Role) (d : List ℕ) → length d ≡ 32 → on_channel c (opened_in c.keys c.channel d) ≡ put c 0 (changed (view c) u authenticate_second r d)
on_opened c u r d e = on_channel_lem c _ _ (unfold changed view purse_after journal_after files_after channel_after pick in rw (opens_whole c.keys c.channel d e) refl)

-- a command on the value file or the log
pub moved : (c : Card) (u : Inputs) (i : ℕ) (r : Role) (d : List ℕ) (p : Purse) (l : Log) {k : Channel} {n : ℕ}
    → outside (view c).core.settings.limits (view c).core.purse (length (view c).core.journal.entries) i r d ≡ false
    → eqb i authenticate_first ≡ false → eqb i authenticate_second ≡ false → eqb i write_data ≡ false
    → p ≡ purse_in c.settings.limits i d c.purse → l ≡ log.put c.log (stored_after i (log.view c.log)) (journal_after i d (log.view c.log)) → n ≡ stored_after i (log.view c.log)
    → k ≡ counted c.channel → record { settings = c.settings; keys = c.keys; files = c.files; purse = p; log = l; channel = k } ≡ put c n (changed (view c) u i r d)
unfolding put view changed
moved c u i r d p l o n₁ n₂ w ep el en ek =
    let q = ep ∙ purse_inside c.settings.limits c.purse _ r d i o in
    let f : files_after i r d c.files ≡ c.files = unfold files_after in passed _ _ w in
    rw (q, el, f, en, ek, base_channel i n₁ n₂ c.keys u d c.channel) refl

-- WriteData
pub wrote : (c : Card) (u : Inputs) (i : ℕ) (r : Role) (d : List ℕ) (f : Files) {k : Channel} → i ≡ write_data → f ≡ files_after write_data r d c.files
    → k ≡ counted c.channel → record { settings = c.settings; keys = c.keys; files = f; purse = c.purse; log = c.log; channel = k } ≡ put c 0 (changed (view c) u i r d)
unfolding put view changed purse_after journal_after channel_after pick
wrote c u i r d f ei e ek = rw (ei, e, ek, logfile.put_view c.log) refl

pub write_stores_none : (c : Card) {i : ℕ} → i ≡ write_data → 0 ≡ stored_after i (view c).core.journal
unfolding stored_after pick
write_stores_none c e = rw e refl

-- a part of an authentication: the n bytes x of its reply, and its status w behind them
pub part_answers : (c : Card) {k : Card} (u : Inputs) (i : ℕ) (r : Role) (d x b : List ℕ) {b₁ b₂ : List ℕ} {z : ℕ} (n w : ℕ) → k ≡ put c 0 (changed (view c) u i r d) → 0 ≡ stored_after i (view c).core.journal
    → x ≡ shown (view c) u i r d → w ≡ accepted_status i → length x ≡ n → n + 2 ≤ length b → b₁ ≡ laid_in b 0 x → b₂ ≡ laid_in b₁ n (word w) → z ≡ n + 2
    → Answered (laid_into c (accepted_plain false (view c) u i r d)) b b₂ (reply k None z)
part_answers c u i r d x b {b₁} {z = z} n w ek et ex ew lx room e₁ e₂ er =
    let s = shows_whole x b b₁ n lx (omega arith) e₁ in
    let lw = length_word w in
    let lb = shows_length x b b₁ n s (omega arith) in
    let v = shows_then x (word w) b s (e₂ ∙ laid_room b₁ n (word w) (omega arith)) in
    let y : record { state = changed (view c) u i r d; stored = 0; out = x ++ word w } ≡ accepted_plain false (view c) u i r d = unfold accepted_plain mac_behind pick in rw (ex, ew, ← et) refl in
    let l : z ≡ length (x ++ word w) = er ∙ ap (λ (j : ℕ). n + j) (sym (length_word w)) ∙ v.1 in
    answered_as _ _ _ _ _ (ap (laid_into c) y) (shows_answers c (changed (view c) u i r d) (x ++ word w) b ek (v.0, l))

-- a base command that shows something
pub shown_answers : (c : Card) {k : Card} (m : Bool) (u : Inputs) (i : ℕ) (r : Role) (d b : List ℕ) {b₁ b₂ : List ℕ} {n l : ℕ} → shows i ≡ true
    → k ≡ on_channel c (counted c.channel) → Shows (base_shown (view c) i r d) b b₁ n → Sealed (counted c.channel) m n b₁ b₂ l
    → Answered (laid_into c (accepted_plain m (view c) u i r d)) b b₂ (reply k None l)
unfolding view
shown_answers c m u i r d b t ek s z =
    let h = shows_changes_nothing (view c) r d i t in
    let v = sealed_shows (counted c.channel) m (base_shown (view c) i r d) b s z in
    answered_as _ _ _ _ _ (ap (laid_into c) (base_accepted i h.3 h.4 m (view c) u r d h.5)) (shows_answers c (changed (view c) u i r d) _ b (ek ∙ on_counted c u i r d t) v)

-- ---- an event with a reply buffer, which plays p where there is no bench refusal

module _ (c : Card) (room : ℕ) where
  pub refused_bench : (p : Played) {r : Refusal} → Some r ≡ bench_refusal (broken c) room → bench c (Some r) ≡ benched c room p
  refused_bench p e = rw e (sym (passed _ _ (ap is_none (sym e))))

  pub no_bench : None ≡ bench_refusal (broken c) room → (reply_room ≤ room) × (broken c ≡ false)
  unfolding bench_refusal
  no_bench e = by (ltb room reply_room) refl (broken c) refl (sym e)
    where
      by : (s : Bool) → ltb room reply_room ≡ s → (b : Bool) → broken c ≡ b → pick s (Some ShortBuffer) (pick b (Some BrokenRule) None) ≡ None → (reply_room ≤ room) × (broken c ≡ false)
      by true es b eb q = unfold pick in absurd (some_none q)
      by false es true eb q = unfold pick in absurd (some_none q)
      by false es false eb q = (ltb-false _ _ es, eb)

module _ (c : Card) (room : ℕ) (p : Played) (h : reply_room ≤ room) (b : broken c ≡ false) where
  unrefused : bench_refusal (broken c) room ≡ None
  unfolding bench_refusal
  unrefused = passed _ _ (le-ltb _ _ h) ∙ passed _ _ b

  pub bench_plays : laid_into c p ≡ benched c room p
  bench_plays = sym (picked _ _ (ap is_none unrefused))

-- refused or not by its status
module _ (c : Card) (s : ℕ) (p : Played) where
  pub judged_refused : (s ≡ ok → ⊥) → laid_into c (refused (view c) s) ≡ laid_into c (judged s (view c) p)
  judged_refused n = ap (laid_into c) (sym (passed _ _ (ne_eqb _ _ n)))

  pub judged_accepted : s ≡ ok → laid_into c p ≡ laid_into c (judged s (view c) p)
  judged_accepted e = ap (laid_into c) (sym (picked _ _ (eq-eqb _ _ e)))

-- a refusal, laid into the card k, with room for a reply
pub refused_answers : (c : Card) {k : Card} (s : ℕ) (b : List ℕ) {b₂ : List ℕ} {n : ℕ} → reply_room ≤ length b → k ≡ put c 0 (ended (view c))
    → b₂ ≡ laid_in b 0 (word s) → n ≡ 0 + 2 → Answered (laid_into c (refused (view c) s)) b b₂ (reply k None n)
unfolding refused
refused_answers c s b h ek e q = shows_answers c (ended (view c)) (word s) b ek ((shows_whole (word s) b _ 2 (length_word s) (omega arith) e).0, q ∙ sym (length_word s))

-- ---- a command

module _ (c : Card) (f : List ℕ) (u : Inputs) where
  pub plays_refused : (s : ℕ) → s ≡ status_of (view c).core f → (s ≡ ok → ⊥) → laid_into c (refused (view c) s) ≡ laid_into c (played (view c) u f)
  unfolding played
  plays_refused s e n = rw e (judged_refused c (status_of (view c).core f) _ (λ q. n (e ∙ q)))

  pub plays_accepted : status_of (view c).core f ≡ ok → laid_into c (accepted (view c) u (ins_of f) (data_of f)) ≡ laid_into c (played (view c) u f)
  unfolding played
  plays_accepted e = judged_accepted c _ _ e

  pub command_bench : (room : ℕ) {r : Refusal} → Some r ≡ bench_refusal (broken c) room → bench c (Some r) ≡ commanded c f u room
  unfolding commanded
  command_bench room e = refused_bench c room _ e

  pub command_plays : (room : ℕ) → reply_room ≤ room → broken c ≡ false → laid_into c (played (view c) u f) ≡ commanded c f u room
  unfolding commanded
  command_plays room h b = bench_plays c room _ h b

  -- with room for a reply, on a card that breaks no rule; k is the card after
  module _ (b : List ℕ) (h : reply_room ≤ length b) (w : broken c ≡ false) where
    pub command_refused : {b₂ : List ℕ} {r : Reply} (s : ℕ) → s ≡ status_of (view c).core f → (s ≡ ok → ⊥) → Answered (laid_into c (refused (view c) s)) b b₂ r
        → Answered (commanded c f u (length b)) b b₂ r
    command_refused s es n y = answered_as _ _ _ _ _ (plays_refused s es n ∙ command_plays _ h w) y

    -- m, r, i and d are whether it has a MAC, the role of the file, its command and its data field without the MAC, as the code has them
    module _ (s : status_of (view c).core f ≡ ok) {m : Bool} {r : Role} {i : ℕ} {x d : List ℕ} (em : m ≡ maced_in (view c).core (ins_of f) (data_of f))
        (er : r ≡ role_in (view c).core.settings (data_of f)) (ei : i ≡ ins_of f) (ex : x ≡ data_of f) (ed : d ≡ plain_of m x) where
      taken : command_status false (view c).core (ins_of f) (data_of f) ≡ ok
      taken = command_ok false (view c).core f s

      pub command_granted : Granted (view c).core m i r d
      command_granted = rw (ed, ex, ei, er, em) (inside false (view c).core (ins_of f) (data_of f) taken)

      pub command_accepts : {b₂ : List ℕ} {y : Reply} → Answered (laid_into c (accepted_plain m (view c) u i r d)) b b₂ y → Answered (commanded c f u (length b)) b b₂ y
      unfolding accepted
      command_accepts y =
          let q : accepted_plain m (view c) u i r d ≡ accepted (view c) u (ins_of f) (data_of f) = rw (ed, ex, ei, er, em) refl in
          answered_as _ _ _ _ _ (ap (laid_into c) q ∙ plays_accepted s ∙ command_plays _ h w) y

      -- a part of an authentication has no MAC, and a second one its 32 bytes
      pub begins_plain : i ≡ authenticate_first → m ≡ false
      begins_plain q = em ∙ ap (λ (j : ℕ). maced_in (view c).core j (data_of f)) (sym ei ∙ q) ∙ first_plain (view c).core (data_of f)

      pub opens_plain : i ≡ authenticate_second → m ≡ false
      opens_plain q = em ∙ ap (λ (j : ℕ). maced_in (view c).core j (data_of f)) (sym ei ∙ q) ∙ second_plain (view c).core (data_of f)

      pub opens_long : i ≡ authenticate_second → length d ≡ 32
      opens_long q =
          let l : wrong_length false i d ≡ false = rw (ed, ex, ei, em) (long_enough false (view c).core (ins_of f) (data_of f) taken).0 in
          second_length false d (rw q at l)

      pub command_part : {b₂ : List ℕ} {y : Reply} {j : ℕ} → i ≡ j → m ≡ false → Answered (laid_into c (accepted_plain false (view c) u j r d)) b b₂ y → Answered (commanded c f u (length b)) b b₂ y
      command_part ej e y = command_accepts (rw (e, ej) y)

      -- a base command that shows nothing; g is its channel after, and t the slot bytes that it stored
      pub command_quiet : {b₂ : List ℕ} {k : Card} {n t : ℕ} {g : Channel} → eqb i authenticate_first ≡ false → eqb i authenticate_second ≡ false → shows i ≡ false
          → t ≡ stored_after i (view c).core.journal → k ≡ put c t (changed (view c) u i r d) → g ≡ counted c.channel → Sealed g m 0 b b₂ n
          → Answered (commanded c f u (length b)) b b₂ (reply_storing t k None n)
      unfolding view
      command_quiet n₁ n₂ s et ek eg z₀ =
          let z : Sealed (counted c.channel) m 0 b _ _ = rw eg at z₀ in
          let y = quiet_shows_nothing (view c) r d i s in
          let q = base_accepted i n₁ n₂ m (view c) u r d et in
          let v = sealed_shows (counted c.channel) m [] b (shows_none b) z in
          command_accepts (answered_as _ _ _ _ _ (ap (laid_into c) q) (shows_answers c _ _ b ek (rw y v)))

-- ---- a chain

pub opening_bench : (c : Card) (f : List ℕ) (room : ℕ) {r : Refusal} → Some r ≡ bench_refusal (broken c) room → bench c (Some r) ≡ chain_opened c f room
unfolding chain_opened
opening_bench c f room e = refused_bench c room _ e

pub bytes_bench : (c : Card) (x : List ℕ) (room : ℕ) {r : Refusal} → Some r ≡ bench_refusal (broken c) room → bench c (Some r) ≡ bytes_sent c x room
unfolding bytes_sent
bytes_bench c x room e = refused_bench c room _ e

-- an opening f; x is its data field, r the role of the file that it names, and g the channel after it
module _ (c : Card) (f : List ℕ) (b : List ℕ) (h : reply_room ≤ length b) (w : broken c ≡ false) where
  pub opening_refused : {b₂ : List ℕ} {r : Reply} (s : ℕ) → s ≡ opening_status (view c).core f → (s ≡ ok → ⊥) → Answered (laid_into c (refused (view c) s)) b b₂ r
      → Answered (chain_opened c f (length b)) b b₂ r
  unfolding chain_opened opening_played
  opening_refused s e n y = answered_as _ _ _ _ _ (rw e (judged_refused c (opening_status (view c).core f) _ (λ q. n (e ∙ q))) ∙ bench_plays c (length b) _ h w) y

  pub opening_taken : {x : List ℕ} {r : Role} {k : Card} {n : Chain} {g : Channel} → opening_status (view c).core f ≡ ok → r ≡ role_in (view c).core.settings (data_of f)
      → x ≡ data_of f → n ≡ announced r x → g ≡ chained c.channel n
      → k ≡ on_channel c g → Answered (chain_opened c f (length b)) b b (reply k None 0)
  unfolding chain_opened opening_played opening
  opening_taken s er ex en eg ek =
      let q = on_channel_lem c (opening (view c) (data_of f)).state (chained c.channel (announced (role_in (view c).core.settings (data_of f)) (data_of f))) (unfold opening view in refl) in
      answered_as _ _ _ _ _ (judged_accepted c _ (opening (view c) (data_of f)) s ∙ bench_plays c (length b) _ h w)
      (shows_answers c (opening (view c) (data_of f)).state [] b (ek ∙ rw (eg, en, er, ex) q) (shows_none b))

-- a frame x of file bytes
module _ (c : Card) (x : List ℕ) (b : List ℕ) (h : reply_room ≤ length b) (w : broken c ≡ false) where
  pub bytes_answered : {b₂ : List ℕ} {r : Reply} → bytes_status c.channel.chain x ≡ ok → Answered (laid_into c (delivered (view c) x)) b b₂ r
      → Answered (bytes_sent c x (length b)) b b₂ r
  unfolding bytes_sent bytes_played view
  bytes_answered s y = answered_as _ _ _ _ _ (judged_accepted c _ _ s ∙ bench_plays c (length b) _ h w) y

  pub bytes_refused : {b₂ : List ℕ} {r : Reply} (s : ℕ) → s ≡ bytes_status c.channel.chain x → (s ≡ ok → ⊥) → Answered (laid_into c (refused (view c) s)) b b₂ r
      → Answered (bytes_sent c x (length b)) b b₂ r
  unfolding bytes_sent bytes_played view
  bytes_refused s e n y = answered_as _ _ _ _ _ (rw e (judged_refused c (bytes_status c.channel.chain x) _ (λ q. n (e ∙ q))) ∙ bench_plays c (length b) _ h w) y

-- what is laid behind its last bytes, and behind others
pub closes : {last : Bool} (b : List ℕ) {b₂ : List ℕ} {n : ℕ} → reply_room ≤ length b → last ≡ true → b₂ ≡ laid_in b 0 (word ok) → n ≡ 0 + 2 → Shows (pick last (word ok) []) b b₂ n
unfolding pick
closes b h t e q = rw t ((shows_whole (word ok) b _ 2 (length_word ok) (omega arith) e).0, q ∙ sym (length_word ok))

pub closes_not : {last : Bool} (b : List ℕ) → last ≡ false → Shows (pick last (word ok) []) b b 0
unfolding pick
closes_not b t = rw t (shows_none b)

-- its bytes are in the file f, and g is the channel after it
pub delivers : (c : Card) (x b : List ℕ) {b₂ : List ℕ} {n at : ℕ} {f : Files} {g : Channel} {last : Bool} → at ≡ next_place c.channel.chain
    → f ≡ files.written c.files c.channel.chain.file at x → g ≡ advanced c.channel (length x) → last ≡ completes c.channel.chain (length x)
    → Shows (pick last (word ok) []) b b₂ n
    → Answered (laid_into c (delivered (view c) x)) b b₂ (reply (record { settings = c.settings; keys = c.keys; files = f; purse = c.purse; log = c.log; channel = g }) None n)
unfolding delivered
delivers c x b ea ef eg el s =
    shows_answers c (delivered (view c) x).state _ b (unfold put delivered view in rw (ef, ea, eg, logfile.put_view c.log) refl) (unfold view in rw el at s)

-- ---- the other events

module _ (c : Card) (k : Option ℕ) where
  pub session_unknown : not (session_sound k) ≡ true → reply c (Some UnknownKey) 0 ≡ reply_of (session_changed c k)
  unfolding session_changed
  session_unknown e = bench_reply c (Some UnknownKey) ∙ ap reply_of (sym (picked _ _ e))

  pub session_broken : not (session_sound k) ≡ false → broken c ≡ true → reply c (Some BrokenRule) 0 ≡ reply_of (session_changed c k)
  unfolding session_changed
  session_broken e b = bench_reply c (Some BrokenRule) ∙ ap reply_of (sym (passed _ _ e ∙ picked _ _ b))

  pub session_changes : not (session_sound k) ≡ false → broken c ≡ false
      → {n : Card} → n ≡ on_channel c (bare (stage_of k)) → reply n None 0 ≡ reply_of (session_changed c k)
  unfolding session_changed
  session_changes e b q = ap (λ (x : Card). reply x None 0) (q ∙ on_channel_lem c (with_session (view c) k) (bare (stage_of k)) (unfold with_session view in refl)) ∙ silent ∙ ap reply_of (sym (passed _ _ e ∙ passed _ _ b))
    where
      silent : reply (put c 0 (with_session (view c) k)) None 0 ≡ reply_of (laid_into c (record { state = with_session (view c) k; stored = 0; out = [] }))
      silent = unfold reply_of laid_into in refl

pub power_broken : (c : Card) → broken c ≡ true → reply c (Some BrokenRule) 0 ≡ reply_of (powered_up c)
unfolding powered_up
power_broken c b = bench_reply c (Some BrokenRule) ∙ ap reply_of (sym (picked _ _ b))

pub power_ends : (c k : Card) → k ≡ put c 0 (ended (view c)) → broken c ≡ false → reply k None 0 ≡ reply_of (powered_up c)
unfolding powered_up
power_ends c k e b = made ∙ ap reply_of (sym (passed _ _ b))
  where
    made : reply k None 0 ≡ reply_of (laid_into c (record { state = ended (view c); stored = 0; out = [] }))
    made = unfold reply_of laid_into in ap (λ (x : Card). reply x None 0) e

module _ (s : Settings) (ks : Keys) (v : ℤ) (c : Card) where
  pub order_refused : {r : Refusal} → Some r ≡ order_refusal s v → c ≡ blank → reply c (Some r) 0 ≡ reply_of (personalised s ks v)
  unfolding personalised
  order_refused e k = rw (k, e) (bench_reply blank (order_refusal s v) ∙ ap (λ (x : Card). reply_of (bench x (order_refusal s v))) (sym (passed _ _ (ap is_none (sym e)))))

  pub order_taken : None ≡ order_refusal s v → c ≡ issued s ks v → reply c None 0 ≡ reply_of (personalised s ks v)
  unfolding personalised pick
  order_taken e k = rw (k, sym e) (bench_reply (issued s ks v) None)
