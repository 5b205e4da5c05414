-- A till that writes its card's numbers sends frames that fit together.
use Rattle.std.specs.Prelude.{ℕ, ◌+◌, Bool, ◌≡◌, length, drop}
use Rattle.std.proofs.Math.Bool.{true, false}
use Rattle.std.proofs.Common.{true≢false, ◌∙◌, arith, ne_eqb, length-append}
use mathlib.Core.List.{List, [], ◌∷◌, ◌++◌}
use Rattle.std.proofs.Math.Path.{refl, sym, ap, subst}
use Rattle.tables.specs.Choice.{pick, passed}
use Rattle.roles.specs.declared.Role.{Role}
use Rattle.channel.specs.declared.Channel.{Channel}
use Rattle.channel.specs.Channel.{counter_of}
use Rattle.sealing.specs.Sealing.{seal_of}
use Rattle.till.specs.Till.{sealed}
use Rattle.sealing.specs.Laws.{length_seal}
use Rattle.frames.specs.Frame.{data_of, framed}
use Rattle.frames.specs.Framed.{framed_length, framed_data, last}
use Rattle.columns.specs.Table.{names_file}
use Rattle.settings.specs.Settings.{file_at}
use Rattle.settings.specs.Laws.{named_by_lem}
use Rattle.rows.specs.State.{Core}
use Rattle.modes.specs.Modes.{role_in, maced, plain_of}
use Rattle.modes.specs.Laws.{plain_sealed}
use Rattle.rows.specs.Rows.{forged, maced_in}
use Rattle.rows.specs.Laws.{right_mac}
use Rattle.card.specs.declared.Card.{Card}
use Rattle.card.specs.View.{view}
use Rattle.standing.proofs.Parts.{parted}
use Rattle.demands.specs.Demands.{Kept}
use Rattle.demands.specs.Sessions.{maced_frame, Sealable}
use Rattle.demands.specs.Numbers.{Alike, Exchanged, Addresses}
use Rattle.demands.proofs.Laws.Exchanged.{mode_alike}

-- the role that a data field with the card's own number names
own_role : (c : Card) → Kept c → (r : Role) (t : List ℕ) → role_in c.settings ((file_at c.settings r).number ∷ t) ≡ r
unfolding role_in
own_role c h r t =
    let n = parted c.settings c.purse c.log c.channel.stage c.channel.chain h.rules in
    passed _ _ (ne_eqb (length ((file_at c.settings r).number ∷ t)) 0 (λ z. omega (arith, z))) ∙ named_by_lem c.settings n.1.1.0 n.1.1.1.0 r

-- two frames of the same INS, whose data fields are x and y, and a and b without the MAC that m says they have
module _ (c d : Core) (i : ℕ) (x y : List ℕ) (l : length x ≡ length y) (r : role_in c.settings x ≡ role_in d.settings y) where
  fits : (m : Bool) (a b : List ℕ) → names_file i ≡ true → maced_in c i x ≡ m → maced_in d i y ≡ m → plain_of m x ≡ a → plain_of m y ≡ b → drop 1 a ≡ drop 1 b
      → forged c.channel m i x ≡ forged d.channel m i y → Exchanged false c d (framed i x) (framed i y)
  fits m a b n mc md pa pb t w =
      let fc = framed_data i x in
      let fd = framed_data i y in
      record {
        header = ap (λ (z : ℕ). 0x90 ∷ i ∷ 0x00 ∷ 0x00 ∷ z ∷ []) l;
        size = framed_length i x ∙ ap (λ (z : ℕ). z + 6) l ∙ sym (framed_length i y);
        le = last i x ∙ sym (last i y);
        role = ap (role_in c.settings) fc ∙ r ∙ sym (ap (role_in d.settings) fd);
        behind = rw (fc, fd, mc, md, pa, pb) t;
        unnamed = λ q. absurd (true≢false (sym n ∙ q));
        mac = rw (fc, fd, mc, md) w;
      }

-- a frame with the MAC of the card's session
maced_framed : (c : Card) (i : ℕ) (x : List ℕ) → maced_frame c (framed i x) ≡ framed i (x ++ seal_of c.channel.secret i (counter_of c.channel.stage) c.channel.ti x)
unfolding sealed
maced_framed c i x =
    let t = seal_of c.channel.secret i (counter_of c.channel.stage) c.channel.ti x in
    let l : length x + 8 ≡ length (x ++ t) = sym (length-append x t ∙ ap (λ (z : ℕ). length x + z) (length_seal c.channel.secret i (counter_of c.channel.stage) c.channel.ti x)) in
    rw (framed_data i x, l) refl

-- ---- on two cards alike

module _ (c d : Card) (h : Kept c) (k : Kept d) (a : Alike c d) (r : Role) (i : ℕ) (n : names_file i ≡ true) (t : List ℕ) where
  abbrev x : List ℕ
  x = (file_at c.settings r).number ∷ t

  abbrev y : List ℕ
  y = (file_at d.settings r).number ∷ t

  -- role and mode are the same, whatever stands behind the numbers
  same_role : (p q : List ℕ) → role_in c.settings ((file_at c.settings r).number ∷ p) ≡ role_in d.settings ((file_at d.settings r).number ∷ q)
  same_role p q = own_role c h r p ∙ sym (own_role d k r q)

  same_mode : (p q : List ℕ) → maced_in (view c).core i ((file_at c.settings r).number ∷ p) ≡ maced_in (view d).core i ((file_at d.settings r).number ∷ q)
  unfolding view
  same_mode p q = mode_alike c.settings d.settings a.settings c.channel.stage i _ _ (same_role p q) ∙ ap (λ (g : Channel). maced d.settings g.stage i ((file_at d.settings r).number ∷ q)) a.channel

  sent_plain : maced_in (view c).core i (data_of (framed i x)) ≡ false → Exchanged false (view c).core (view d).core (framed i x) (framed i y)
  unfolding forged plain_of pick
  sent_plain e =
      let m : maced_in (view c).core i x ≡ false = ap (maced_in (view c).core i) (sym (framed_data i x)) ∙ e in
      fits (view c).core (view d).core i x y refl (unfold view in same_role t t) false x y n m (sym (same_mode t t) ∙ m) refl refl refl refl

  -- the MACs
  abbrev u : List ℕ
  u = seal_of c.channel.secret i (counter_of c.channel.stage) c.channel.ti x

  abbrev v : List ℕ
  v = seal_of d.channel.secret i (counter_of d.channel.stage) d.channel.ti y

  sent_sealed : Sealable c (framed i x) → Exchanged false (view c).core (view d).core (maced_frame c (framed i x)) (maced_frame d (framed i y))
  sent_sealed s =
      let lu = length_seal c.channel.secret i (counter_of c.channel.stage) c.channel.ti x in
      let lv = length_seal d.channel.secret i (counter_of d.channel.stage) d.channel.ti y in
      let long : length (x ++ u) ≡ length (y ++ v) = length-append x u ∙ ap (λ (z : ℕ). length x + z) (lu ∙ sym lv) ∙ sym (length-append y v) in
      let m : maced_in (view c).core i (x ++ u) ≡ true = ap (maced_in (view c).core i) (sym (ap data_of (maced_framed c i x) ∙ framed_data i (x ++ u))) ∙ s.mode in
      let w : forged (view c).core.channel true i (x ++ u) ≡ forged (view d).core.channel true i (y ++ v) = unfold view in right_mac c.channel i x ∙ sym (right_mac d.channel i y) in
      let e : Exchanged false (view c).core (view d).core (framed i (x ++ u)) (framed i (y ++ v)) =
      fits (view c).core (view d).core i (x ++ u) (y ++ v) long (unfold view in same_role (t ++ u) (t ++ v)) true x y n m (sym (same_mode (t ++ u) (t ++ v)) ∙ m) (plain_sealed x u lu) (plain_sealed y v lv) refl w in
      subst (λ (f : List ℕ). Exchanged false (view c).core (view d).core f (maced_frame d (framed i y))) (sym (maced_framed c i x))
      (subst (λ (g : List ℕ). Exchanged false (view c).core (view d).core (framed i (x ++ u)) g) (sym (maced_framed d i y)) e)

pub addressed : Addresses
addressed c d h k a r i n t = record { plain = sent_plain c d h k a r i n t; sealed = sent_sealed c d h k a r i n t }
