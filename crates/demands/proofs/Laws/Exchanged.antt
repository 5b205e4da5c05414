-- Two states alike but for the files' numbers, and a frame for each that names the same role: the same rows apply, and they do the same.
use Rattle.std.specs.Prelude.{ℕ, ◌-◌, ◌<◌, min, Bool, ◌&&◌, ◌||◌, ◌≡◌, eqb, length, get_or, drop}
use Rattle.std.proofs.Math.Bool.{true, false}
use Rattle.std.proofs.Common.{true≢false, sym, ◌∙◌, arith, eqb-true, length-take, get_or-take}
use mathlib.Core.List.{List, [], ◌∷◌, ◌++◌}
use Rattle.std.proofs.Math.Path.{refl, ap}
use Rattle.tables.specs.Choice.{pick}
use Rattle.tables.specs.Reasons.{Reason, ◌when◌, first}
use Rattle.wire.specs.Bytes.{word, le3, le4}
use Rattle.wire.proofs.Laws.{length_part}
use Rattle.roles.specs.declared.Role.{Role}
use Rattle.channel.specs.declared.Inputs.{Inputs}
use Rattle.channel.specs.declared.Stage.{Stage}
use Rattle.chains.specs.declared.Chain.{Chain}
use Rattle.chains.specs.Chain.{announced}
use Rattle.channel.specs.Channel.{chained}
use Rattle.frames.specs.Frame.{ins_of, data_of, wrong_size, wrong_class, wrong_parameters, wrong_frame}
use Rattle.columns.specs.Table.{commit_transaction, authenticate_first, authenticate_second, names_file, on_file}
use Rattle.settings.specs.declared.Settings.{Settings}
use Rattle.settings.specs.Settings.{access_to}
use Rattle.description.specs.Description.{option_of, switches_of, described}
use Rattle.rows.specs.State.{Core, State, log_pending}
use Rattle.modes.specs.Modes.{role_in, access_for, maced_under, maced, mac_size, plain_of}
use Rattle.rows.specs.Rows.{unknown_command, interrupts, sent_of, length_cases, wrong_length, lacks_mac, unknown_file, other_kind_or_never, not_granted, part_fails, used_up, switched_off, parameter_cases, bad_parameter, outside, long_read, nothing_pending, maced_in, carries, carries_mac, rows_for, ok, status_for}
use Rattle.effects.specs.Effects.{purse_after, journal_after, stored_after, files_after}
use Rattle.replies.specs.Replies.{shown_of}
use Rattle.card.specs.Events.{channel_after, changed, shown, mac_behind, accepted_status, Played, accepted_plain, accepted, with_channel, opening}
use Rattle.demands.specs.Numbers.{ButNumbers, field_on, Exchanged}

-- ---- what does not see the first byte of a data field

-- a command that names a file is none that names none
named_not : (i j : ℕ) → names_file i ≡ true → names_file j ≡ false → eqb i j ≡ false
named_not i j n m = by (eqb i j) refl
  where
    by : (b : Bool) → eqb i j ≡ b → b ≡ false
    by false e = refl
    by true e = absurd (true≢false (sym n ∙ ap names_file (eqb-true i j e) ∙ m))

-- two data fields that are the same behind their first bytes, and altogether where the command names no file
module _ (i : ℕ) (d e : List ℕ) (long : length d ≡ length e) (behind : drop 1 d ≡ drop 1 e) (unnamed : names_file i ≡ false → d ≡ e) where
  pub blind : {A : Type 0} (F : List ℕ → A) → (names_file i ≡ true → (a b : ℕ) (t : List ℕ) → F (a ∷ t) ≡ F (b ∷ t)) → F d ≡ F e
  blind F same = by (names_file i) refl d e long behind unnamed
    where
      by : (n : Bool) → names_file i ≡ n → (d e : List ℕ) → length d ≡ length e → drop 1 d ≡ drop 1 e → (names_file i ≡ false → d ≡ e) → F d ≡ F e
      by false q d e l b u = ap F (u q)
      by true q [] [] l b u = refl
      by true q [] (x ∷ e) l b u = absurd (omega (arith, l))
      by true q (x ∷ d) [] l b u = absurd (omega (arith, l))
      by true q (x ∷ d) (y ∷ e) l b u = same q x y d ∙ ap (λ (t : List ℕ). F (y ∷ t)) b

wrong_behind : (o : Bool) (i a b : ℕ) (t : List ℕ) → wrong_length o i (a ∷ t) ≡ wrong_length o i (b ∷ t)
unfolding length_cases sent_of le3
wrong_behind true i a b t = refl
wrong_behind false i a b t = refl

bad_behind : (i a b : ℕ) (t : List ℕ) → names_file i ≡ true → bad_parameter i (a ∷ t) ≡ bad_parameter i (b ∷ t)
unfolding parameter_cases le3 le4
bad_behind i a b t n = rw (named_not i commit_transaction n (unfold names_file on_file in refl), named_not i authenticate_first n (unfold names_file on_file in refl)) refl

second_not : (i : ℕ) → names_file i ≡ true → eqb i authenticate_second ≡ false
unfolding names_file on_file
second_not i n = named_not i authenticate_second n refl

first_not : (i : ℕ) → names_file i ≡ true → eqb i authenticate_first ≡ false
unfolding names_file on_file
first_not i n = named_not i authenticate_first n refl

-- ---- access and mode

module _ (s t : Settings) (k : ButNumbers s t) (g : Stage) (i : ℕ) (x y : List ℕ) (role : role_in s x ≡ role_in t y) where
  pub access_alike : access_for s g i x ≡ access_for t g i y
  unfolding access_to
  access_alike = rw (role, k.rights (role_in t y), k.free) refl

  pub mode_alike : maced s g i x ≡ maced t g i y
  unfolding maced_under
  mode_alike = rw (access_alike, role, k.modes (role_in t y)) refl

-- ---- the rows

plain_length : (m : Bool) (x y : List ℕ) → length x ≡ length y → length (plain_of m x) ≡ length (plain_of m y)
unfolding plain_of pick
plain_length true x y e = length-take (length x - mac_size) x ∙ ap (λ (n : ℕ). min (n - mac_size) n) e ∙ sym (length-take (length y - mac_size) y)
plain_length false x y e = e

module _ (o : Bool) (s : State) (t : Settings) (k : ButNumbers s.core.settings t) (f g : List ℕ) where
  -- the same state with the other settings
  abbrev other : Core
  other = record { settings = t; keys = s.core.keys; purse = s.core.purse; journal = s.core.journal; channel = s.core.channel }

  abbrev x : List ℕ
  x = data_of f

  abbrev y : List ℕ
  y = data_of g

  module _ (e : Exchanged o s.core other f g) where
    byte : (n : ℕ) → n < 5 → get_or f n 0 ≡ get_or g n 0
    byte n h = sym (get_or-take 5 f n 0 h) ∙ ap (λ (l : List ℕ). get_or l n 0) e.header ∙ get_or-take 5 g n 0 h

    pub same_ins : ins_of f ≡ ins_of g
    same_ins = byte 1 (omega arith)

    same_size : length x ≡ length y
    same_size = length_part f 5 (length f - 1) (omega arith) ∙ ap (λ (n : ℕ). n - 1 - 5) e.size ∙ sym (length_part g 5 (length g - 1) (omega arith))

    same_access : access_for s.core.settings s.core.channel.stage (ins_of f) x ≡ access_for t s.core.channel.stage (ins_of g) y
    same_access = rw same_ins (access_alike s.core.settings t k s.core.channel.stage (ins_of g) x y e.role)

    same_mode : maced_in s.core (ins_of f) x ≡ maced_in other (ins_of g) y
    same_mode = rw same_ins (mode_alike s.core.settings t k s.core.channel.stage (ins_of g) x y e.role)

    pub same_mac : carries_mac o s.core (ins_of f) x ≡ carries_mac o other (ins_of g) y
    same_mac = ap (carries o) same_mode

    same_length : length (field_on o s.core f) ≡ length (field_on o other g)
    same_length = ap (λ (m : Bool). length (plain_of m x)) same_mac ∙ plain_length (carries_mac o other (ins_of g) y) x y same_size

    -- what does not see the number
    unseen : {A : Type 0} (F : List ℕ → A) → (names_file (ins_of g) ≡ true → (a b : ℕ) (l : List ℕ) → F (a ∷ l) ≡ F (b ∷ l)) → F (field_on o s.core f) ≡ F (field_on o other g)
    unseen = blind (ins_of g) _ _ same_length e.behind (λ n. e.unnamed (ap names_file same_ins ∙ n))

    same_rows : rows_for o s.core f (ins_of f) x ≡ rows_for o other g (ins_of g) y
    unfolding rows_for
    same_rows =
        let c = s.core in
        let i = ins_of g in
        let d = field_on o c f in
        let h = field_on o other g in
        let size : wrong_size f ≡ wrong_size g = unfold wrong_size in rw e.size refl in
        let class : wrong_class f ≡ wrong_class g = unfold wrong_class in rw (byte 0 (omega arith)) refl in
        let parameters : wrong_parameters f ≡ wrong_parameters g = unfold wrong_parameters in rw (byte 2 (omega arith), byte 3 (omega arith)) refl in
        let frame : wrong_frame f ≡ wrong_frame g = unfold wrong_frame in rw (byte 4 (omega arith), e.le, e.size) refl in
        let command : unknown_command o c.channel.stage (ins_of f) ≡ unknown_command o c.channel.stage i = ap (unknown_command o c.channel.stage) same_ins in
        let waits : interrupts c.channel.stage c.channel.chain (ins_of f) ≡ interrupts c.channel.stage c.channel.chain i = ap (interrupts c.channel.stage c.channel.chain) same_ins in
        let long : wrong_length o (ins_of f) d ≡ wrong_length o i h = ap (λ (j : ℕ). wrong_length o j d) same_ins ∙ unseen (wrong_length o i) (λ n a b l. wrong_behind o i a b l) in
        let lacks : lacks_mac (carries_mac o c (ins_of f) x) x ≡ lacks_mac (carries_mac o other i y) y = unfold lacks_mac in rw (same_mac, same_size) refl in
        let file : unknown_file (ins_of f) (role_in c.settings x) ≡ unknown_file i (role_in t y) = rw (e.role, same_ins) refl in
        let kind : other_kind_or_never (ins_of f) (role_in c.settings x) (access_for c.settings c.channel.stage (ins_of f) x) ≡ other_kind_or_never i (role_in t y) (access_for t c.channel.stage i y) = rw (same_access, e.role, same_ins) refl in
        let grant : not_granted (ins_of f) (access_for c.settings c.channel.stage (ins_of f) x) ≡ not_granted i (access_for t c.channel.stage i y) = rw (same_access, same_ins) refl in
        let part : part_fails c.keys c.channel (ins_of f) d ≡ part_fails c.keys c.channel i h = ap (λ (j : ℕ). part_fails c.keys c.channel j d) same_ins ∙ unseen (part_fails c.keys c.channel i) (λ n a b l. unfold part_fails in rw (second_not i n) refl) in
        let chain = same_mode in
        let used : used_up c.channel.stage (ins_of f) ≡ used_up c.channel.stage i = ap (used_up c.channel.stage) same_ins in
        let off : switched_off (ins_of f) c.settings.limited c.journal.clears ≡ switched_off i t.limited c.journal.clears = rw (k.limited, same_ins) refl in
        let value : bad_parameter (ins_of f) d ≡ bad_parameter i h = ap (λ (j : ℕ). bad_parameter j d) same_ins ∙ unseen (bad_parameter i) (λ n a b l. bad_behind i a b l n) in
        let range : outside c.settings.limits c.purse (length c.journal.entries) (ins_of f) (role_in c.settings x) d ≡ outside t.limits c.purse (length c.journal.entries) i (role_in t y) h =
        (λ j. outside (k.limits j) c.purse (length c.journal.entries) (same_ins j) (e.role j) d) ∙ unseen (outside t.limits c.purse (length c.journal.entries) i (role_in t y)) (λ n a b l. unfold outside le3 le4 in refl) in
        let read : long_read (carries_mac o c (ins_of f) x) (ins_of f) (role_in c.settings x) d ≡ long_read (carries_mac o other i y) i (role_in t y) h =
        (λ j. long_read (same_mac j) (same_ins j) (e.role j) d) ∙ unseen (long_read (carries_mac o other i y) i (role_in t y)) (λ n a b l. unfold long_read le3 in refl) in
        let nothing : nothing_pending (ins_of f) c.purse.moved (log_pending c.journal) ≡ nothing_pending i c.purse.moved (log_pending c.journal) = ap (λ (j : ℕ). nothing_pending j c.purse.moved (log_pending c.journal)) same_ins in
        λ j.
        (0x6700 when size j)
        ∷ (0x6E00 when class j)
        ∷ (0x6A86 when parameters j)
        ∷ (0x6700 when frame j)
        ∷ (0x911C when command j)
        ∷ (0x91CA when waits j)
        ∷ (0x917E when long j || lacks j)
        ∷ (0x91F0 when file j)
        ∷ (0x919D when kind j)
        ∷ (0x91AE when grant j || part j)
        ∷ (0x919D when o && chain j)
        ∷ (0x911E when e.mac j || used j)
        ∷ (0x919D when off j)
        ∷ (0x919E when value j)
        ∷ (0x91BE when range j || read j)
        ∷ (0x910C when nothing j)
        ∷ []

    pub same_status : status_for o s.core f ≡ status_for o other g
    unfolding status_for
    same_status = ap (λ (rows : List Reason). first rows ok) same_rows

    -- ---- what is accepted

    module _ (u : Inputs) where
      abbrev m : Bool
      m = carries_mac o other (ins_of g) y

      abbrev r : Role
      r = role_in t y

      abbrev d : List ℕ
      d = field_on o other g

      same_purse : purse_after (ins_of f) (field_on o s.core f) s.core.purse ≡ purse_after (ins_of g) d s.core.purse
      same_purse = ap (λ (j : ℕ). purse_after j (field_on o s.core f) s.core.purse) same_ins ∙ unseen (λ l. purse_after (ins_of g) l s.core.purse) (λ n a b l. unfold purse_after le3 le4 in refl)

      same_journal : journal_after (ins_of f) (field_on o s.core f) s.core.journal ≡ journal_after (ins_of g) d s.core.journal
      same_journal = ap (λ (j : ℕ). journal_after j (field_on o s.core f) s.core.journal) same_ins ∙ unseen (λ l. journal_after (ins_of g) l s.core.journal) (λ n a b l. unfold journal_after le3 in refl)

      same_channel : channel_after s.core.keys u (ins_of f) (field_on o s.core f) s.core.channel ≡ channel_after s.core.keys u (ins_of g) d s.core.channel
      same_channel =
          ap (λ (j : ℕ). channel_after s.core.keys u j (field_on o s.core f) s.core.channel) same_ins
          ∙ unseen (λ l. channel_after s.core.keys u (ins_of g) l s.core.channel) (λ n a b l. unfold channel_after pick in rw (first_not (ins_of g) n, second_not (ins_of g) n) refl)

      same_files : files_after (ins_of f) (role_in s.core.settings x) (field_on o s.core f) s.files ≡ files_after (ins_of g) r d s.files
      same_files =
          (λ j. files_after (same_ins j) (e.role j) (field_on o s.core f) s.files)
          ∙ unseen (λ l. files_after (ins_of g) r l s.files) (λ n a b l. unfold files_after le3 in refl)

      -- GetFileSettings tells no number
      same_described : (allowance entries : ℕ) (q : Role) → described s.core.settings allowance entries q ≡ described t allowance entries q
      unfolding described option_of switches_of
      same_described allowance entries q = rw (k.rights q, k.modes q, k.limits, k.limited, k.free) refl

      same_shown : shown s u (ins_of f) (role_in s.core.settings x) (field_on o s.core f) ≡ shown (record { core = other; files = s.files }) u (ins_of g) r d
      unfolding shown
      same_shown =
          (λ j. shown s u (same_ins j) (e.role j) (field_on o s.core f))
          ∙ unseen (shown s u (ins_of g) r) (λ n a b l. unfold shown shown_of pick le3 in rw (first_not (ins_of g) n, second_not (ins_of g) n) refl)
          ∙ (unfold shown_of in rw (same_described s.core.purse.allowance (length s.core.journal.entries) r) refl)

-- ---- what is played, with the other settings

abbrev pub on_settings : State → Settings → State
on_settings s t = record { core = record { settings = t; keys = s.core.keys; purse = s.core.purse; journal = s.core.journal; channel = s.core.channel }; files = s.files }

abbrev pub played_on : Played → Settings → Played
played_on p t = record { state = on_settings p.state t; stored = p.stored; out = p.out }

module _ (s : State) (t : Settings) (k : ButNumbers s.core.settings t) (f g : List ℕ) where
  pub same_accepted : (u : Inputs) → Exchanged false s.core (on_settings s t).core f g → played_on (accepted s u (ins_of f) (data_of f)) t ≡ accepted (on_settings s t) u (ins_of g) (data_of g)
  unfolding accepted accepted_plain changed stored_after
  same_accepted u e =
      let channel = same_channel false s t k f g e u in
      let data-shown = same_shown false s t k f g e u in
      λ j. record {
        state = record {
          core = record { settings = t; keys = s.core.keys; purse = same_purse false s t k f g e u j; journal = same_journal false s t k f g e u j; channel = channel j };
          files = same_files false s t k f g e u j;
        };
        stored = stored_after (same_ins false s t k f g e j) s.core.journal;
        out = data-shown j ++ (mac_behind (same_mac false s t k f g e j) (channel j) (data-shown j) ++ word (accepted_status (same_ins false s t k f g e j)));
      }

  pub same_opening : Exchanged true s.core (on_settings s t).core f g → played_on (opening s (data_of f)) t ≡ opening (on_settings s t) (data_of g)
  unfolding opening plain_of pick
  same_opening e =
      let chain : announced (role_in s.core.settings (data_of f)) (data_of f) ≡ announced (role_in t (data_of g)) (data_of g) =
      (λ j. announced (e.role j) (data_of f)) ∙ unseen true s t k f g e (announced (role_in t (data_of g))) (λ n a b l. unfold announced le3 in refl) in
      ap (λ (z : Chain). record { state = with_channel (on_settings s t) (chained s.core.channel z); stored = 0; out = [] }) chain
