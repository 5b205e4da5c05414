-- A wrong MAC changes nothing but the session.
use Rattle.std.specs.Prelude.{ℕ, Bool, true, ◌||◌, List, ◌≡◌, take, drop}
use Rattle.std.proofs.Math.Bool.{false, not, true≢false}
use Rattle.std.proofs.Math.Path.{refl, ap, subst}
use Rattle.std.proofs.Common.{sym, ◌∙◌, arith}
use Rattle.tables.specs.Choice.{or_left}
use Rattle.tables.specs.Reasons.{Reason, first, no_reason, first_refuses}
use Rattle.wire.specs.Bytes.{same}
use Rattle.wire.specs.Same.{same_true}
use Rattle.channel.specs.declared.Inputs.{Inputs}
use Rattle.channel.specs.Channel.{counter_of}
use Rattle.sealing.specs.Sealing.{seal_of}
use Rattle.frames.specs.Frame.{ins_of, data_of}
use Rattle.modes.specs.Modes.{plain_of, mac_of}
use Rattle.rows.specs.Rows.{forged, used_up, maced_in, rows_for, ok, status_for, status_of}
use Rattle.card.specs.declared.Card.{Card}
use Rattle.card.specs.View.{view, put}
use Rattle.card.specs.Outcome.{Outcome}
use Rattle.card.specs.Events.{ended, refused, laid_into, reply_room}
use Rattle.card.proofs.Laws.{command_plays, plays_refused}
use Rattle.demands.specs.Demands.{Kept, Untouched, rows_on}
use Rattle.demands.specs.Sessions.{sends, WrongMac, WrongMacs}
use Rattle.demands.proofs.Laws.FirstRow.{first_found}
use Rattle.demands.proofs.Proofs.Demand1.{ended_untouched}

unlike : (x y : List ℕ) → (x ≡ y → ⊥) → same x y ≡ false
unlike x y n = by (same x y) refl
  where
    by : (b : Bool) → same x y ≡ b → b ≡ false
    by false e = refl
    by true e = absurd (n (same_true x y e))

module _ (c : Card) (h : Kept c) (g : List ℕ) (m : maced_in (view c).core (ins_of g) (data_of g) ≡ true)
    (n : mac_of (data_of g) ≡ seal_of c.channel.secret (ins_of g) (counter_of c.channel.stage) c.channel.ti (plain_of true (data_of g)) → ⊥) where
  mac_forged : forged c.channel (maced_in (view c).core (ins_of g) (data_of g)) (ins_of g) (data_of g) ≡ true
  unfolding forged
  mac_forged = rw m (ap not (unlike _ _ n))

  -- the row of 911E applies
  seen : (forged (view c).core.channel (maced_in (view c).core (ins_of g) (data_of g)) (ins_of g) (data_of g) || used_up (view c).core.channel.stage (ins_of g)) ≡ true
  seen = or_left (forged (view c).core.channel (maced_in (view c).core (ins_of g) (data_of g)) (ins_of g) (data_of g)) _ (unfold view in mac_forged)

  abbrev above : List Reason
  above = take 12 (rows_on false c g)

  refused_there : first above ok ≡ ok → ⊥
  unfolding rows_for
  refused_there e = let r = no_reason above ok refl e in true≢false (sym seen ∙ r.1.1.1.1.1.1.1.1.1.1.1.0)

  status_there : first above ok ≡ status_of (view c).core g
  unfolding status_for rows_for
  status_there = first_refuses above (drop 12 (rows_on false c g)) ok refused_there

  module _ (u : Inputs) where
    refuses : sends c g u ≡ laid_into c (refused (view c) (first above ok))
    refuses = sym (command_plays c g u reply_room (omega arith) h.rules) ∙ sym (plays_refused c g u (first above ok) status_there refused_there)

    leaves : (sends c g u).card ≡ put c 0 (ended (view c))
    unfolding laid_into refused
    leaves = ap (λ (o : Outcome). o.card) refuses

    wrong : WrongMac c g u
    wrong =
        record {
          status = first above ok;
          row = first_found above ok (first above ok) refl refused_there;
          reply = unfold laid_into refused in ap (λ (o : Outcome). o.out) refuses;
          untouched = subst (λ (k : Card). Untouched c k) (sym leaves) (ended_untouched c h);
        }

pub wrong_mac_lem : WrongMacs
wrong_mac_lem = wrong
