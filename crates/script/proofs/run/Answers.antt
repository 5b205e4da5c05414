use Rattle.script.specs.Lines.{commanded_on, line_said}
use Rattle.script.proofs.Steps.{none_found, own_state, written, line, played_full, played_next, ends, told_full, told_next}
use Rattle.lines.proofs.Sofar.{sofar_start, sofar_end, sofar_part, sofar_as}
use Rattle.desk.specs.After.{after_event}
use Rattle.told.specs.Laws.{Plays, plays_lent, reply_bytes}
use Rattle.desk.specs.Laws.{lent_most}
use Rattle.card.specs.Events.{commanded}
use Rattle.desk.specs.declared.Desk.{Desk}
use Rattle.card.specs.declared.Reply.{Reply}
use Rattle.wire.specs.Bytes.{part}
use Rattle.lines.specs.Frames.{frame_in}
use Rattle.wire.proofs.Laws.{length_part}
use borrow.Author.Rules.{rules}
use lib.ListN.{length, drop}
use lib.Seq.{length_front}
use native.Mathlib.Omega.{arith}
use Prim.Native.Nat.{ℕ, ◌+◌, ◌-◌, ◌*◌, ◌≤◌, ◌<◌}
use mathlib.Core.List.{List, [], ◌++◌}
use mathlib.Core.Path.{◌≡◌, ◌∙◌}
use Rattle.script.proofs.run.Goals as goal
use Rattle.script.proofs.run.Goals.{After-command-played, After-line_end-e, In-Some, then-out-n-lt-MOST_ANSWER, else-out-n-lt-MOST_ANSWER}

-- ---- what the places of a turn know
-- the desk with the card of the last reply
abbrev here : Desk → Reply → Desk
here d p = after_event d p.card p.stored

-- the frame at its place is spelt, and there is one
inside : (k : In-Some) → (k.in-Some.size ≤ 512) × (k.loop-at.at + 2 * k.in-Some.size < length k.args.text.now)
inside k =
    let found = k.in-Some.ensures.frame in
    let l = line _ _ _ _ _ _ _ k.loop-at.invariant.1 _ found.0 found.1 in
    (l.4, l.1)

-- and the card has replied to it, into the front of its buffer
module _ (k : After-command-played) where
  abbrev buffer : List ℕ
  buffer = k.command-played.new.reply ++ drop (k.lent_room-lent.result - 0) k.loop-at.reply

  buffer_length : length buffer ≡ 512
  buffer_length = length_front k.loop-at.reply k.command-played.new.reply (k.lent_room-lent.result - 0) k.command-played.auto.reply ∙ k.loop-at.invariant.0

  plays : Plays (commanded_on (here k.loop-at.desk k.loop-at.played) (part k.spell_frame.new.bytes 0 k.in-Some.size)) buffer k.command-played.result
  unfolding after_event
  plays =
      plays_lent (commanded k.loop-at.played.card _ k.loop-at.desk.inputs) k.loop-at.reply _ k.loop-at.desk.room _ _ k.lent_room-lent.ensures (omega (arith, k.loop-at.invariant.0)) k.command-played.auto.reply k.command-played.ensures

  abbrev replied : List ℕ
  replied = part buffer 0 k.command-played.result.len

  replied_most : length replied ≤ 512
  replied_most = let n = (reply_bytes _ _ _ plays).1 in omega (arith, n, length_part buffer 0 k.command-played.result.len (omega (arith, n, buffer_length)))

-- there is none
none : (k : After-line_end-e) → frame_in (drop k.loop-at.at k.args.text.now) ≡ []
none k = none_found _ _ _ k.in_default.not-Some k.spell_frame.ensures.frame

-- and the line goes up to the next LF
end : (k : After-line_end-e) → (k.loop-at.at ≤ k.line_end-e.result) × (k.line_end-e.result ≤ length k.args.text.now)
end k = let l = ends _ _ _ _ _ _ _ k.loop-at.invariant.1 (none k) _ k.line_end-e.ensures in (l.1, l.2)

-- ---- the needs
pub loop-at-init : goal.loop-at-init
loop-at-init c = (search rules, sofar_as line_said _ _ _ _ _ _ _ _ (own_state _) (sofar_start line_said _ _ _))

pub slice_bounds-reply-end : goal.slice_bounds-reply-end
slice_bounds-reply-end c =
    let v = c.loop-at in
    omega (arith, lent_most v.desk.room, c.lent_room-lent.ensures, v.invariant.0)

pub slice_bounds-put_line-end : goal.slice_bounds-put_line-end
slice_bounds-put_line-end c =
    let p = (goal.at.slice_bounds-put_line-end c).After-command-played in
    omega (arith, (reply_bytes _ _ _ (plays p)).1, buffer_length p)

-- for want of room the desk has had its card before; else there was room
pub returns-then-put-n : goal.returns-then-put-n
unfolding after_event
returns-then-put-n c =
    let p = (goal.at.returns-then-put-n c).After-command-played in
    let v = c.loop-at in
    let a = c.args in
    elim c.if-out-n-lt-MOST_ANSWER.branch [
      | then-out-n-lt-MOST_ANSWER w ↦ rw w.desk-is (played_full a.desk a.text.now a.out.now (here v.desk v.played) v.at v.n v.out v.invariant.1 _ c.in-Some.ensures.frame.0 c.in-Some.ensures.frame.1 _ c.in-Some.ensures.frame.2 (buffer p) _ (plays p) _ _ c.put_line-put.ensures c.if-put-n.true)
      | else-out-n-lt-MOST_ANSWER w ↦ absurd (written v.out _ v.n _ _ (replied p) c.put_line-put.ensures (replied_most p) w.if-out-n-lt-MOST_ANSWER.false c.if-put-n.true)
    ]

pub loop-at-preserved-in-Some : goal.loop-at-preserved-in-Some
unfolding after_event
loop-at-preserved-in-Some c =
    let p = (goal.at.loop-at-preserved-in-Some c).After-command-played in
    let v = c.loop-at in
    let a = c.args in
    let next = played_next a.desk a.text.now a.out.now (here v.desk v.played) v.at v.n v.out v.invariant.1 _ c.in-Some.ensures.frame.0 c.in-Some.ensures.frame.1 _ c.in-Some.ensures.frame.2 (buffer p) _ (plays p) _ _ c.put_line-put.ensures c.if-put-n.false in
    (buffer_length p, elim c.if-out-n-lt-MOST_ANSWER.branch [ then-out-n-lt-MOST_ANSWER w ↦ rw w.desk-is next | else-out-n-lt-MOST_ANSWER w ↦ rw w.desk-is next ])

pub returns-then-e-text : goal.returns-then-e-text
unfolding after_event
returns-then-e-text c =
    let l = ends _ _ _ _ _ _ _ c.loop-at.invariant.1 (none (goal.at.returns-then-e-text c).After-line_end-e) _ c.line_end-e.ensures in
    sofar_part line_said _ _ _ _ _ _ _ c.loop-at.invariant.1 _ l.0 c.if-e-text.true

pub slice_bounds-say-end : goal.slice_bounds-say-end
slice_bounds-say-end c =
    let p = (goal.at.slice_bounds-say-end c).After-line_end-e in
    omega (arith, (end p).0, (end p).1)

pub returns-then-put-n-2 : goal.returns-then-put-n-2
unfolding after_event
returns-then-put-n-2 c =
    let v = c.loop-at in
    let a = c.args in
    told_full a.desk a.text.now a.out.now (here v.desk v.played) v.at v.n v.out v.invariant.1 (none (goal.at.returns-then-put-n-2 c).After-line_end-e) _ c.line_end-e.ensures (omega (arith, (end (goal.at.returns-then-put-n-2 c).After-line_end-e).1, c.if-e-text.false)) _ c.say-told.ensures _ _ c.put_told-put.ensures c.if-put-n-2.true

pub loop-at-preserved : goal.loop-at-preserved
unfolding after_event
loop-at-preserved c =
    let v = c.loop-at in
    let a = c.args in
    (v.invariant.0, told_next a.desk a.text.now a.out.now (here v.desk v.played) v.at v.n v.out v.invariant.1 (none (goal.at.loop-at-preserved c).After-line_end-e) _ c.line_end-e.ensures (omega (arith, (end (goal.at.loop-at-preserved c).After-line_end-e).1, c.if-e-text.false)) _ c.say-told.ensures _ _ c.put_told-put.ensures c.if-put-n-2.false)

pub returns : goal.returns
unfolding after_event
returns c = sofar_end line_said _ _ _ _ _ _ _ c.loop-at.invariant.1 c.loop-at-test.false
