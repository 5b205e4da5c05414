-- A terminal that knows the key and follows the protocol is let in.
use Rattle.std.specs.Prelude.{ℕ, ◌+◌, ◌*◌, ◌/◌, ◌≤◌, true, ◌≡◌, eqb}
use Rattle.std.proofs.Math.Bool.{false, not}
use mathlib.Core.List.{List, [], ◌∷◌, ◌++◌}
use Rattle.std.proofs.Math.Path.{refl, ap}
use Rattle.std.proofs.Common.{sym, subst, ◌∙◌, arith, eq-eqb, ne_eqb, le-ltb}
use Rattle.std.proofs.Math.ListN.{length, replicate, length-append}
use Rattle.tables.specs.Choice.{pick, or_none, and_left, and_right, no_any}
use Rattle.tables.specs.Reasons.{none_first}
use Rattle.wire.specs.Bytes.{word}
use Rattle.wire.specs.Listed.{filled, length_filled}
use Rattle.field.specs.Bytes.{Bytes, Block, Sized, zeros}
use Rattle.field.proofs.Laws.{append_bytes, take_bytes, zeros_block}
use Rattle.keys.specs.declared.Keys.{Keys}
use Rattle.keys.specs.Keys.{key_at}
use Rattle.chains.specs.Chain.{unchained, is_open}
use Rattle.channel.specs.declared.Channel.{Channel}
use Rattle.channel.specs.declared.Inputs.{Inputs}
use Rattle.channel.specs.declared.Stage.TheVariants.{Real}
use Rattle.channel.specs.Channel.{is_waiting, stage_key}
use Rattle.cbc.specs.Laws.{length_encrypted}
use Rattle.derivation.specs.Derivation.{mac_key}
use Rattle.handshake.specs.Handshake.{rotated, caps_of, first_reply, brought_a, fails, second_reply}
use Rattle.authentication.specs.Authentication.{begun, first_shown, opened, second_shown}
use Rattle.frames.specs.Framed.{framed_data, framed_size, framed_class, framed_parameters, framed_frame}
use Rattle.frames.specs.Frame.{ins_of, data_of, framed, lrp_in, wrong_size, wrong_class, wrong_parameters, wrong_frame}
use Rattle.columns.specs.Table.{authenticate_first, authenticate_second, on_file, names_file}
use Rattle.rows.specs.State.{Core, State}
use Rattle.modes.specs.Modes.{role_in, plain_of}
use Rattle.rows.specs.Rows.{unknown_command, interrupts, length_cases, wrong_length, lacks_mac, unknown_file, other_kind_or_never, not_granted, part_fails, forged, used_up, switched_off, parameter_cases, bad_parameter, ranged, amount_cases, outside, long_read, nothing_pending, maced_in, rows_for, ok, status_for, status_of}
use Rattle.rows.specs.Laws.{first_plain, second_plain}
use Rattle.effects.specs.Effects.{stored_after}
use Rattle.card.specs.declared.Card.{Card}
use Rattle.card.specs.View.{view, put}
use Rattle.card.specs.Outcome.{Outcome}
use Rattle.card.specs.Events.{channel_after, changed, shown, mac_behind, accepted_status, accepted_plain, accepted, laid_into, reply_room}
use Rattle.card.proofs.Laws.{command_plays, plays_accepted}
use Rattle.till.specs.Till.{first_frame, learnt_b, second_part, second_frame, replied_ti}
use Rattle.till.specs.Meets.{learns, brings, passes, tells, knows}
use Rattle.demands.specs.History.{command, outcome}
use Rattle.demands.specs.Demands.{Kept}
use Rattle.demands.specs.Sessions.{sends, LetIn, Terminals}
use Rattle.demands.proofs.Laws.Room.{rotated_length}
use Rattle.demands.proofs.Laws.Steps.{next_kept}

-- ---- a part that is accepted

-- places 1 to 4 pass, and INS and data field are i and d
pub record Sent (f : List ℕ) (i : ℕ) (d : List ℕ) : Type 0 where
  pub size : wrong_size f ≡ false
  pub class : wrong_class f ≡ false
  pub parameters : wrong_parameters f ≡ false
  pub frame : wrong_frame f ≡ false
  pub ins : ins_of f ≡ i
  pub field : data_of f ≡ d

pub framed_sent : (i : ℕ) (d f : List ℕ) → f ≡ framed i d → 1 ≤ length d → length d ≤ 255 → Sent f i d
framed_sent i d f e h k =
    subst (λ (g : List ℕ). Sent g i d) (sym e)
    (record { size = framed_size i d h k; class = framed_class i d h k; parameters = framed_parameters i d h k; frame = framed_frame i d h k; ins = refl; field = framed_data i d })

module _ (c : Core) (f d : List ℕ) where
  first_clear : Sent f authenticate_first d → is_waiting c.channel.stage ≡ false → is_open c.channel.chain ≡ false → wrong_length false authenticate_first d ≡ false → bad_parameter authenticate_first d ≡ false
      → status_of c f ≡ ok
  unfolding status_for rows_for unknown_command interrupts lacks_mac unknown_file other_kind_or_never not_granted part_fails forged used_up switched_off outside ranged amount_cases long_read nothing_pending plain_of pick on_file names_file
  first_clear s w z l p =
      none_first (rows_for false c f (ins_of f) (data_of f)) ok
      (s.size, (s.class, (s.parameters, (s.frame, rw (s.ins, s.field, first_plain c d) (refl, (or_none _ _ (and_left (is_waiting c.channel.stage) _ w) z, (or_none _ _ l refl, (refl, (refl, (refl, (refl, (refl, (refl, (p, (refl, (refl, tt))))))))))))))))

  second_clear : Sent f authenticate_second d → is_waiting c.channel.stage ≡ true → is_open c.channel.chain ≡ false → length d ≡ 32 → fails (key_at c.keys (stage_key c.channel.stage)) c.channel.secret d ≡ false
      → status_of c f ≡ ok
  unfolding status_for rows_for unknown_command interrupts length_cases lacks_mac unknown_file other_kind_or_never not_granted part_fails forged used_up switched_off parameter_cases outside ranged amount_cases long_read nothing_pending plain_of pick on_file names_file
  second_clear s w z l p =
      none_first (rows_for false c f (ins_of f) (data_of f)) ok
      (s.size, (s.class, (s.parameters, (s.frame, rw (s.ins, s.field, second_plain c d) (ap not w, (or_none _ _ (and_right (is_waiting c.channel.stage) false refl) z, (or_none _ _ (ap not (eq-eqb (length d) 32 l)) refl, (refl, (refl, (and_right (eqb (length d) 32) _ p, (refl, (refl, (refl, (refl, (refl, (refl, tt))))))))))))))))

-- what it leaves, where it carries no MAC
part_plays : (s : State) (u : Inputs) (f : List ℕ) (i : ℕ) (d : List ℕ) → Sent f i d → maced_in s.core i d ≡ false
    → accepted s u (ins_of f) (data_of f) ≡ record { state = changed s u i (role_in s.core.settings d) d; stored = stored_after i s.core.journal; out = shown s u i (role_in s.core.settings d) d ++ word (accepted_status i) }
unfolding accepted accepted_plain mac_behind plain_of pick
part_plays s u f i d h m = rw (h.ins, h.field, m) refl

part_sends : (c : Card) → Kept c → (u : Inputs) (f : List ℕ) (i : ℕ) (d : List ℕ) → Sent f i d → maced_in (view c).core i d ≡ false → status_of (view c).core f ≡ ok
    → sends c f u ≡ laid_into c (record { state = changed (view c) u i (role_in (view c).core.settings d) d; stored = stored_after i (view c).core.journal; out = shown (view c) u i (role_in (view c).core.settings d) d ++ word (accepted_status i) })
part_sends c h u f i d s m e = sym (command_plays c f u reply_room (omega arith) h.rules) ∙ sym (plays_accepted c f u e) ∙ ap (laid_into c) (part_plays (view c) u f i d s m)

-- ---- the exchange

module _ (c : Card) (h : Kept c) (w : is_waiting c.channel.stage ≡ false) (z : is_open c.channel.chain ≡ false) (k : ℕ) (small : k ≤ 4) (hk : Block (key_at c.keys k)) (a : List ℕ) (ha : Block a)
    (caps : List ℕ) (hc : Bytes caps) (few : length caps ≤ 253) (standard : lrp_in (k ∷ length caps ∷ caps) ≡ 1 → ⊥)
    (u u' : Inputs) (hr : Block u.random) (ht : Sized 4 u.ti) where
  abbrev key : List ℕ
  key = key_at c.keys k

  abbrev d₁ : List ℕ
  d₁ = k ∷ length caps ∷ caps

  sent₁ : Sent (first_frame k caps) authenticate_first d₁
  sent₁ = framed_sent authenticate_first d₁ (first_frame k caps) (unfold first_frame in ap (λ (n : ℕ). 0x90 ∷ 0x71 ∷ 0x00 ∷ 0x00 ∷ n ∷ k ∷ length caps ∷ caps ++ 0x00 ∷ []) (omega arith)) (omega arith) (omega arith)

  long₁ : wrong_length false authenticate_first d₁ ≡ false
  unfolding length_cases
  long₁ =
      no_any (length_cases false authenticate_first d₁)
      (refl, (refl, (refl, (refl, (refl, (refl, (refl, (refl, (refl, (refl, (refl, (refl, (or_none _ _ (le-ltb (length d₁) 2 (omega arith)) (ap not (eq-eqb (length d₁) (length caps + 2) (omega arith))), (refl, tt))))))))))))))

  bad₁ : bad_parameter authenticate_first d₁ ≡ false
  unfolding parameter_cases
  bad₁ = no_any (parameter_cases authenticate_first d₁) (refl, (refl, (refl, (or_none _ _ (le-ltb 4 k small) (ne_eqb _ 1 standard), tt))))

  ok₁ : status_of (view c).core (first_frame k caps) ≡ ok
  ok₁ = first_clear (view c).core (first_frame k caps) d₁ sent₁ (unfold view in w) (unfold view in z) long₁ bad₁

  o₁ : sends c (first_frame k caps) u ≡ laid_into c (record { state = changed (view c) u authenticate_first (role_in (view c).core.settings d₁) d₁; stored = stored_after authenticate_first (view c).core.journal; out = shown (view c) u authenticate_first (role_in (view c).core.settings d₁) d₁ ++ word (accepted_status authenticate_first) })
  o₁ = part_sends c h u (first_frame k caps) authenticate_first d₁ sent₁ (first_plain (view c).core d₁) ok₁

  abbrev c₁ : Card
  c₁ = (sends c (first_frame k caps) u).card

  kept₁ : Kept c₁
  kept₁ = unfold outcome in next_kept c h (command (first_frame k caps) u (record { random = hr.long; ti = ht.long }))

  channel₁ : c₁.channel ≡ begun u d₁
  unfolding laid_into put changed channel_after pick
  channel₁ = ap (λ (o : Outcome). o.card.channel) o₁

  keys₁ : c₁.keys ≡ c.keys
  unfolding laid_into put changed view
  keys₁ = ap (λ (o : Outcome). o.card.keys) o₁

  abbrev e : List ℕ
  e = first_reply key u.random

  first_accepted : (sends c (first_frame k caps) u).out ≡ e ++ word 0x91AF
  unfolding laid_into shown first_shown accepted_status pick view
  first_accepted = ap (λ (o : Outcome). o.out) o₁

  random : learnt_b key e ≡ u.random
  random = learns key a u.random hk ha hr

  abbrev d₂ : List ℕ
  d₂ = second_part key a (learnt_b key e)

  second_sent : d₂ ≡ second_part key a u.random
  second_sent = ap (second_part key a) random

  part_long : length (second_part key a u.random) ≡ 32
  unfolding second_part
  part_long =
      let l : length (a ++ rotated u.random) ≡ 32 = simp length-append (omega (arith, ha.long, hr.long, rotated_length u.random)) in
      length_encrypted key (a ++ rotated u.random) ∙ ap (λ (n : ℕ). 16 * (n / 16)) l

  long₂ : length d₂ ≡ 32
  long₂ = ap length second_sent ∙ part_long

  sent₂ : Sent (second_frame d₂) authenticate_second d₂
  sent₂ = framed_sent authenticate_second d₂ (second_frame d₂) (unfold second_frame in ap (λ (n : ℕ). 0x90 ∷ 0xAF ∷ 0x00 ∷ 0x00 ∷ n ∷ d₂ ++ 0x00 ∷ []) (sym long₂)) (omega (arith, long₂)) (omega (arith, long₂))

  abbrev r : List ℕ
  r = second_reply key u.ti (caps_of d₁) a

  -- what the card computes of keys, channel and second part, where these are the exchange's
  module _ (ks : Keys) (g : Channel) (d : List ℕ) (ek : ks ≡ c.keys) (eg : g ≡ begun u d₁) (ed : d ≡ second_part key a u.random) where
    not_failed : fails (key_at ks (stage_key g.stage)) g.secret d ≡ false
    not_failed = rw (ek, eg, ed) (unfold begun in passes key a u.random hk ha hr)

    brought : brought_a key d ≡ a
    brought = ap (brought_a key) ed ∙ brings key a u.random hk ha hr

    second_reply_lem : second_shown ks g d ≡ r
    second_reply_lem = rw (ek, eg) (unfold second_shown begun in ap (second_reply key u.ti (caps_of d₁)) brought)

    second_channel : opened ks g d ≡ record { stage = Real k 0; secret = mac_key key a u.random; ti = u.ti; caps = replicate 6 0; chain = unchained }
    second_channel = rw (ek, eg) (unfold opened begun in ap (λ (x : List ℕ). record { stage = Real k 0; secret = mac_key key x u.random; ti = u.ti; caps = replicate 6 0; chain = unchained }) brought)

  unchained₁ : is_open c₁.channel.chain ≡ false
  unfolding begun unchained
  unchained₁ = ap (λ (g : Channel). is_open g.chain) channel₁

  waits : is_waiting c₁.channel.stage ≡ true
  unfolding begun
  waits = ap (λ (g : Channel). is_waiting g.stage) channel₁

  ok₂ : status_of (view c₁).core (second_frame d₂) ≡ ok
  ok₂ = second_clear (view c₁).core (second_frame d₂) d₂ sent₂ (unfold view in waits) (unfold view in unchained₁) long₂ (unfold view in not_failed c₁.keys c₁.channel d₂ keys₁ channel₁ second_sent)

  o₂ : sends c₁ (second_frame d₂) u' ≡ laid_into c₁ (record { state = changed (view c₁) u' authenticate_second (role_in (view c₁).core.settings d₂) d₂; stored = stored_after authenticate_second (view c₁).core.journal; out = shown (view c₁) u' authenticate_second (role_in (view c₁).core.settings d₂) d₂ ++ word (accepted_status authenticate_second) })
  o₂ = part_sends c₁ kept₁ u' (second_frame d₂) authenticate_second d₂ sent₂ (second_plain (view c₁).core d₂) ok₂

  second_accepted : (sends c₁ (second_frame d₂) u').out ≡ r ++ word 0x9100
  unfolding laid_into shown accepted_status pick view
  second_accepted = ap (λ (o : Outcome). o.out) o₂ ∙ ap (λ (x : List ℕ). x ++ word 0x9100) (second_reply_lem c₁.keys c₁.channel d₂ keys₁ channel₁ second_sent)

  channel₂ : (sends c₁ (second_frame d₂) u').card.channel ≡ record { stage = Real k 0; secret = mac_key key a u.random; ti = u.ti; caps = replicate 6 0; chain = unchained }
  unfolding laid_into put changed channel_after pick view
  channel₂ = ap (λ (o : Outcome). o.card.channel) o₂ ∙ second_channel c₁.keys c₁.channel d₂ keys₁ channel₁ second_sent

  caps_sized : Sized 6 (caps_of d₁)
  unfolding caps_of filled
  caps_sized = record { long = length_filled 6 caps; bytes = take_bytes 6 (caps ++ replicate 6 0) (append_bytes caps (replicate 6 0) hc (take_bytes 6 zeros zeros_block.bytes)) }

  identifier : replied_ti key r ≡ u.ti
  identifier = tells key a u.ti (caps_of d₁) hk ha ht caps_sized

  exchanged : LetIn c k a caps u u'
  exchanged =
      record {
        e = e;
        r = r;
        first_accepted = first_accepted;
        second_accepted = second_accepted;
        opened = ap (λ (g : Channel). g.stage) channel₂;
        same_key = ap (λ (g : Channel). g.secret) channel₂ ∙ ap (mac_key key a) (sym random);
        same_ti = ap (λ (g : Channel). g.ti) channel₂ ∙ sym identifier;
        random = random;
        identifier = identifier;
        proved = knows key a u.ti (caps_of d₁) hk ha ht caps_sized;
      }

pub let_in : Terminals
let_in = exchanged
