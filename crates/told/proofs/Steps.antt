-- What is told of a reply.
use Prim.Native.Nat.{ℕ}
use mathlib.Core.List.{List, [], ◌∷◌}
use mathlib.Core.Path.{◌≡◌, refl, sym, ap, ◌∙◌}
use Rattle.std.specs.Prelude.{Option, None, is_none}
use Rattle.refusals.specs.declared.Refusal as bench
use lib.ListN.{length, get_or}
use native.Mathlib.Omega.{arith}
use Rattle.tables.specs.Choice.{picked}
use Rattle.text.specs.Hex.{in_digits}
use Rattle.wire.specs.Bytes.{part}
use Rattle.answers.specs.Answers.{refusal_text, reply_text}
use Rattle.notices.specs.declared.Notice.{Notice}
use Rattle.notices.specs.declared.Notice.TheVariants.{Refusal, Status}
use Rattle.notices.specs.Notices.{notice_text}
use Rattle.card.specs.declared.Card.{Card}
use Rattle.card.specs.declared.Reply.{Reply}
use Rattle.card.specs.Outcome.{Outcome, reply_of}
use Rattle.desk.specs.declared.Desk.{Desk}
use Rattle.desk.specs.After.{after_event}
use Rattle.told.specs.Told.{books_of, said_of, replied, framed}
use Rattle.told.specs.Laws.{Plays, reply_bytes, Brief, Tells, opening_brief, bytes_brief}
use Rattle.told.specs.declared.Frame.{Frame}
use Rattle.told.specs.declared.Frame.TheVariants.{Opening, FileBytes}

-- a reply of nothing and one of two bytes, as they are told
pub tells_none : (r : Option bench.Refusal) (x : List ℕ) → length x ≡ 0 → Tells (Refusal r) r x
unfolding notice_text refusal_text reply_text in_digits
tells_none r [] e k = refl
tells_none r (a ∷ x) e k = absurd (omega arith)

pub tells_two : (r : Option bench.Refusal) (x : List ℕ) → r ≡ None → length x ≡ 2 → Tells (Status (get_or x 0 0) (get_or x 1 0)) r x
unfolding notice_text reply_text
tells_two r [] z e k = absurd (omega arith)
tells_two r (a ∷ []) z e k = absurd (omega arith)
tells_two r (a ∷ b ∷ []) z e k = sym (picked _ _ (ap is_none z))
tells_two r (a ∷ b ∷ c ∷ x) z e k = absurd (omega arith)

-- a frame of a chain is answered by a status word or nothing
pub frame_brief : (w : Frame) (c : Card) (b : List ℕ) (room : ℕ) → let o = framed w c b room in Brief o.refusal o.out
unfolding framed
frame_brief Opening c f room = opening_brief c f room
frame_brief FileBytes c b room = bytes_brief c b room

-- what is told of a reply
pub replied_by : (k : Desk) (o : Outcome) (after : List ℕ) (r : Reply) (n : Notice) → Plays o after r → Tells n r.refusal (part after 0 r.len)
    → said_of (record { desk = after_event k r.card r.stored; notice = n }) ≡ replied k o
unfolding said_of replied reply_of after_event
replied_by k o after r n p t =
    let m : r.refusal ≡ o.refusal = ap (λ (x : Reply). x.refusal) p.0 in
    let q = t (books_of r.card) ∙ (λ i. reply_text (m i) ((reply_bytes o after r p).0 i)) in
    λ i. record { next = after_event k (p.0 i).card (p.0 i).stored; out = q i }
