use Rattle.logfile.specs.View.{put_stored}
use Rattle.logfile.specs.declared.Stored.{Stored}
use Rattle.card.specs.declared.Card.{Card}
use Rattle.card.specs.Events.{reply_room}
use Rattle.card.specs.Accepted.{Granted}
use Rattle.card.proofs.Laws.{bench_answers, answered_by, answered_as, no_bench, command_bench, command_refused, command_granted, command_accepts, command_part, command_quiet, begins_plain, opens_plain, opens_long, moved, wrote, write_stores_none}
use Rattle.card.specs.Sealing.{Sealed, sealed_plain}
use Rattle.checks.specs.declared.Admitted.{Admitted}
use Rattle.checks.proofs.Order.{word_not_ok}
use Rattle.card.specs.View.{view, broken}
use Rattle.channel.specs.declared.Inputs.{Inputs}
use Rattle.rows.specs.Rows.{ok, maced_in, status_of}
use Rattle.modes.specs.Modes.{role_in}
use Rattle.frames.specs.Frame.{ins_of, data_of}
use Rattle.tables.specs.Choice.{pick_both}
use borrow.Author.Tests.{ne_eqb}
use lib.ListN.{length}
use Prim.Native.Nat.{ℕ, ◌+◌, ◌≤◌}
use mathlib.Core.Bool.{false}
use mathlib.Core.List.{List}
use mathlib.Core.Path.{◌≡◌, sym, ap, ◌∙◌}
use native.Mathlib.Omega.{arith}
use Rattle.card.proofs.Card.command.Goals as goal
use Rattle.card.proofs.Card.command.Goals.{After-plain-d, Joined-maced, then-maced, else-maced}

-- what the code knows where there is no bench refusal, and no reason of the table applies
module _ (p : After-plain-d) where
  abbrev card : Card
  card = p.args.self

  abbrev frame : List ℕ
  frame = p.args.frame.now

  abbrev inputs : Inputs
  inputs = p.args.inputs

  abbrev buffer : List ℕ
  buffer = p.args.reply.now

  unrefused : (reply_room ≤ length buffer) × (broken card ≡ false)
  unrefused = no_bench card (length buffer) p.in_default.ensures

  room : reply_room ≤ length buffer
  room = unrefused.0

  sound : broken card ≡ false
  sound = unrefused.1

  taken : status_of (view card).core frame ≡ ok
  unfolding view
  taken = sym p.in-Ok.ensures.status

  maced : p.in-Ok.admitted.maced ≡ maced_in (view card).core (ins_of frame) (data_of frame)
  unfolding view
  maced = ap (λ (a : Admitted). a.maced) p.in-Ok.ensures.admitted

  role : p.in-Ok.admitted.role ≡ role_in (view card).core.settings (data_of frame)
  unfolding view
  role = ap (λ (a : Admitted). a.role) p.in-Ok.ensures.admitted

  granted : Granted (view card).core p.in-Ok.admitted.maced p.byte_at-ins.result p.in-Ok.admitted.role p.plain-d.result.now
  granted = command_granted card frame inputs buffer room sound taken maced role p.byte_at-ins.ensures p.data.ensures p.plain-d.ensures

-- what is laid behind no data
module _ (j : Joined-maced) where
  space : reply_room ≤ length j.args.reply.now
  space = (no_bench j.args.self _ j.in_default.ensures).0

  sealed : Sealed j.counted-next.result j.in-Ok.admitted.maced 0 j.args.reply.now j.if-maced.reply j.if-maced.len
  sealed =
      elim j.if-maced.branch [
        | then-maced w ↦ (w.reply-is ∙ w.seal-len.ensures.0, w.len-is ∙ w.seal-len.ensures.1)
        | else-maced w ↦ sealed_plain _ 0 _ space w.if-maced.false (omega arith) (w.reply-is ∙ w.close-len.ensures.0) (w.len-is ∙ w.close-len.ensures.1)
      ]

  as_long : length j.if-maced.reply ≡ length j.args.reply.now
  as_long =
      elim j.if-maced.branch [
        | then-maced w ↦ ap length w.reply-is ∙ w.seal-len.auto.reply
        | else-maced w ↦ ap length w.reply-is ∙ w.close-len.auto.reply
      ]

pub returns-in-Some : goal.returns-in-Some
returns-in-Some c =
    let a = c.args in
    answered_by _ _ _ c.refused.ensures (answered_as _ _ _ _ _ (command_bench a.self a.frame.now a.inputs _ c.in-Some.ensures) (bench_answers a.self _ a.reply.now))

pub refuse-requires : goal.refuse-requires
refuse-requires c = (no_bench c.args.self _ c.in_default.ensures).0

pub returns-in-Err : goal.returns-in-Err
unfolding view
returns-in-Err c =
    let a = c.args in
    let u = no_bench a.self _ c.in_default.ensures in
    command_refused a.self a.frame.now a.inputs a.reply.now u.0 u.1 _ c.in-Err.ensures.status (word_not_ok _) c.refuse.ensures

pub begun-requires : goal.begun-requires
begun-requires c = room (goal.at.begun-requires c).After-plain-d

pub returns-then-ins-eq-AUTHENTICATE_FIRST : goal.returns-then-ins-eq-AUTHENTICATE_FIRST
returns-then-ins-eq-AUTHENTICATE_FIRST c =
    let p = (goal.at.returns-then-ins-eq-AUTHENTICATE_FIRST c).After-plain-d in
    command_part (card p) (frame p) (inputs p) (buffer p) (room p) (sound p) (taken p) (maced p) (role p) c.byte_at-ins.ensures c.data.ensures c.plain-d.ensures c.if-ins-eq-AUTHENTICATE_FIRST.true
    (begins_plain (card p) (frame p) (inputs p) (buffer p) (room p) (sound p) (taken p) (maced p) (role p) c.byte_at-ins.ensures c.data.ensures c.plain-d.ensures c.if-ins-eq-AUTHENTICATE_FIRST.true)
    c.begun.ensures

pub opened-requires : goal.opened-requires
opened-requires c =
    let p = (goal.at.opened-requires c).After-plain-d in
    (room p, opens_long (card p) (frame p) (inputs p) (buffer p) (room p) (sound p) (taken p) (maced p) (role p) c.byte_at-ins.ensures c.data.ensures c.plain-d.ensures c.if-ins.true)

pub returns-then-ins : goal.returns-then-ins
returns-then-ins c =
    let p = (goal.at.returns-then-ins c).After-plain-d in
    command_part (card p) (frame p) (inputs p) (buffer p) (room p) (sound p) (taken p) (maced p) (role p) c.byte_at-ins.ensures c.data.ensures c.plain-d.ensures c.if-ins.true
    (opens_plain (card p) (frame p) (inputs p) (buffer p) (room p) (sound p) (taken p) (maced p) (role p) c.byte_at-ins.ensures c.data.ensures c.plain-d.ensures c.if-ins.true)
    c.opened.ensures

pub shown-requires : goal.shown-requires
shown-requires c =
    let p = (goal.at.shown-requires c).After-plain-d in
    (sym c.shows.ensures ∙ c.if-shows.true, granted p, sound p, room p)

pub returns-then-shows : goal.returns-then-shows
returns-then-shows c =
    let p = (goal.at.returns-then-shows c).After-plain-d in
    command_accepts (card p) (frame p) (inputs p) (buffer p) (room p) (sound p) (taken p) (maced p) (role p) c.byte_at-ins.ensures c.data.ensures c.plain-d.ensures c.shown.ensures

pub seal-len-requires : goal.seal-len-requires
seal-len-requires c = (pick_both (λ n. 0 + n ≤ 256) _ 8 0 (omega arith) (omega arith), room (goal.at.seal-len-requires c).After-plain-d)

pub returns-then-ins-2 : goal.returns-then-ins-2
returns-then-ins-2 c =
    let p = (goal.at.returns-then-ins-2 c).After-plain-d in
    let w = wrote (card p) (inputs p) _ _ c.plain-d.result.now _ c.if-ins-2.true c.next_files.ensures c.counted-next.ensures in
    answered_by _ _ _ c.sent.ensures
    (command_quiet (card p) (frame p) (inputs p) (buffer p) (room p) (sound p) (taken p) (maced p) (role p) c.byte_at-ins.ensures c.data.ensures c.plain-d.ensures (ne_eqb _ _ c.if-ins-eq-AUTHENTICATE_FIRST.false) (ne_eqb _ _ c.if-ins.false) (sym c.shows.ensures ∙ c.if-shows.false) (write_stores_none (card p) c.if-ins-2.true) w c.counted-next.ensures (sealed (goal.at.returns-then-ins-2 c).Joined-maced))

pub returns : goal.returns
unfolding put_stored view
returns c =
    let p = (goal.at.returns c).After-plain-d in
    let l = c.next_log-after.ensures in
    let n = ap (λ (r : Stored). r.stored) l in
    let n₁ = ne_eqb _ _ c.if-ins-eq-AUTHENTICATE_FIRST.false in
    let n₂ = ne_eqb _ _ c.if-ins.false in
    let w = moved (card p) (inputs p) _ _ _ _ _ (granted p).0 n₁ n₂ (ne_eqb _ _ c.if-ins-2.false) c.next_purse.ensures (ap (λ (r : Stored). r.log) l) n c.counted-next.ensures in
    command_quiet (card p) (frame p) (inputs p) (buffer p) (room p) (sound p) (taken p) (maced p) (role p) c.byte_at-ins.ensures c.data.ensures c.plain-d.ensures n₁ n₂ (sym c.shows.ensures ∙ c.if-shows.false) n w c.counted-next.ensures (sealed (goal.at.returns c).Joined-maced)
