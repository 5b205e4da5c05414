use Rattle.card.proofs.Laws.{answered_by, accepted_shows, shown_answers}
use Rattle.card.specs.View.{view, on_channel}
use Rattle.card.specs.Accepted.{base_shown}
use Rattle.wire.specs.Bytes.{Shows}
use Rattle.wire.proofs.Laws.{shows_length}
use Rattle.replies.specs.Guarded.{shown_in}
use Rattle.tables.specs.Choice.{pick}
use mathlib.Core.List.{List}
use Prim.Native.Nat.{ℕ, ◌+◌, ◌≤◌}
use lib.ListN.{length}
use mathlib.Core.Path.{◌≡◌, ap, ◌∙◌}
use native.Mathlib.Omega.{arith}
use borrow.Author.Rules.{rules}
use Rattle.card.proofs.Card.shown.Goals as goal
use Rattle.card.proofs.Card.shown.Goals.{Start}

-- what is laid first is the command's data, with room for the rest
laid_first : (s : Start) (after : List ℕ) (n : ℕ)
    → Shows (shown_in (length s.args.reply.now) s.args.self.settings s.args.self.files s.args.self.purse s.args.self.log s.args.ins s.args.role s.args.d.now) s.args.reply.now after n
    → Shows (base_shown (view s.args.self) s.args.ins s.args.role s.args.d.now) s.args.reply.now after n × (n + pick s.args.maced 8 0 ≤ 256) × (258 ≤ length after)
laid_first s after n h =
    let a = s.args in
    let slots : length a.self.log.slots ≡ 64 = search rules in
    let entry : length a.self.log.entry ≡ 16 = search rules in
    let w = accepted_shows a.self a.maced a.ins a.role a.d.now a.reply.now after n s.requires.1 s.requires.2 s.requires.3 slots entry h in
    (w.0, w.1, omega (arith, s.requires.3, w.1, shows_length _ a.reply.now after n w.0 (omega (arith, s.requires.3, w.1))))

pub seal-len-requires : goal.seal-len-requires
seal-len-requires c =
    let l = laid_first (goal.at.seal-len-requires c).Start _ _ c.show-n.ensures in
    (l.1, omega (arith, l.1, l.2))

pub returns : goal.returns
returns c =
    let a = c.args in
    let l = laid_first (goal.at.returns c).Start _ _ c.show-n.ensures in
    answered_by _ _ _ c.sent.ensures (shown_answers a.self a.maced a.inputs a.ins a.role a.d.now a.reply.now c.requires.0 (c.on_channel-card.ensures ∙ ap (on_channel a.self) c.counted-next.ensures) l.0
    (rw c.counted-next.ensures at c.seal-len.ensures))
