use Rattle.logfile.proofs.Settling.{dropped_log, pushed_log}
use Prim.Native.Nat.{min}
use lib.ListN.{length}
use native.Mathlib.Omega.{arith}
use mathlib.Core.Path.{◌≡◌, ◌∙◌}
use borrow.Author.Rules.{rules}
use Rattle.logfile.proofs.Log.push.Goals as goal
use Rattle.logfile.proofs.Log.push.Goals.{Start}

slots_length : (s : Start) → length s.args.self.slots ≡ 64
slots_length s = search rules

entry_length : (s : Start) → length s.args.self.entry ≡ 16
entry_length s = search rules

pub returns : goal.returns
returns c =
    let few : c.min-kept.result ≡ min 3 c.args.self.count = omega (arith, c.min-kept.ensures) in
    c.drop_pending.ensures ∙ dropped_log _ ∙ pushed_log c.args.self _ (slots_length (goal.at.returns c).Start) (entry_length (goal.at.returns c).Start) few _ _ c.next_place-place.ensures c.lay.ensures
