use Rattle.told.proofs.Steps.{frame_brief, replied_by}
use Rattle.told.specs.Told.{framed}
use Rattle.told.specs.Laws.{Plays, Brief, plays_lent, reply_bytes}
use Rattle.desk.specs.Laws.{lent_most}
use Rattle.card.specs.declared.Reply.{Reply}
use Rattle.card.specs.Outcome.{Outcome, reply_of}
use Rattle.desk.specs.Room.{lent_room}
use lib.ListN.{length, drop, replicate}
use lib.Seq.{length_front}
use native.Mathlib.Omega.{arith}
use Prim.Native.Nat.{ℕ, ◌-◌}
use mathlib.Core.List.{List, ◌++◌}
use mathlib.Core.Path.{◌≡◌, ap}
use Rattle.told.proofs.play.Goals as goal
use Rattle.told.proofs.play.Goals.{After-event-played}

-- the card has replied, into the front of its buffer
module _ (k : After-event-played) where
  abbrev buffer : List ℕ
  buffer = k.event-played.new.reply ++ drop (k.lent_room-lent.result - 0) (replicate 512 0)

  buffer_length : length buffer ≡ 512
  buffer_length = length_front (replicate 512 0) k.event-played.new.reply (k.lent_room-lent.result - 0) k.event-played.auto.reply

  abbrev outcome : Outcome
  outcome = let a = k.args in framed a.frame a.desk.card a.b.now (lent_room a.desk.room)

  plays : Plays outcome buffer k.event-played.result
  plays =
      let a = k.args in
      plays_lent (framed a.frame a.desk.card a.b.now) (replicate 512 0) _ a.desk.room _ _ k.lent_room-lent.ensures (omega arith) k.event-played.auto.reply k.event-played.ensures

  brief : Brief outcome.refusal outcome.out
  brief = let a = k.args in frame_brief a.frame a.desk.card a.b.now (lent_room a.desk.room)

pub slice_bounds-reply-end : goal.slice_bounds-reply-end
slice_bounds-reply-end c = omega (arith, lent_most c.args.desk.room, c.lent_room-lent.ensures)

pub slice_bounds-answer-end : goal.slice_bounds-answer-end
slice_bounds-answer-end c =
    let p = (goal.at.slice_bounds-answer-end c).After-event-played in
    omega (arith, (reply_bytes _ _ _ (plays p)).1, buffer_length p)

pub answer-requires : goal.answer-requires
unfolding reply_of
answer-requires c =
    let p = (goal.at.answer-requires c).After-event-played in
    let b = (reply_bytes _ _ _ (plays p)).0 in
    let m = ap (λ (x : Reply). x.refusal) (plays p).0 in
    rw (m, b) (brief p)

pub returns : goal.returns
returns c =
    let p = (goal.at.returns c).After-event-played in
    rw c.keep.ensures (replied_by c.args.desk (outcome p) (buffer p) c.event-played.result _ (plays p) c.answer.ensures)
