use Rattle.drafts.proofs.Steps.{writes_as, maced_none, maced_zero, maced_size, maced_some}
use borrow.Author.Tests.{not-true, not-false}
use borrow.Author.Rules.{rules}
use mathlib.Core.Path.{◌≡◌}
use Prim.Native.Nat.{◌≤◌}
use lib.ListN.{length}
use native.Mathlib.Omega.{arith}
use Rattle.drafts.proofs.parts.put_maced.Goals as goal

pub returns-then-not-draft : goal.returns-then-not-draft
returns-then-not-draft c = writes_as c.args.text.now _ _ (maced_none c.args.draft c.args.frame.now (not-true _ c.if-not-draft.true)) c.put_unread.ensures

pub returns-then-n-eq0 : goal.returns-then-n-eq0
returns-then-n-eq0 c = writes_as c.args.text.now _ _ (maced_zero c.args.draft c.args.frame.now _ _ _ c.seal_frame-n.ensures c.if-n-eq0.true) c.put_unread-then-n-eq0.ensures

pub slice_bounds-put_digits-end : goal.slice_bounds-put_digits-end
slice_bounds-put_digits-end c = let z = maced_size c.args.draft c.args.frame.now _ _ _ c.seal_frame-n.ensures c.if-n-eq0.false in search rules

pub returns : goal.returns
returns c =
    let k : length c.args.text.now ≡ 1024 = search rules in
    let room : 1024 ≤ length c.args.text.now = omega (arith, k) in maced_some c.args.draft c.args.frame.now _ _ _ c.seal_frame-n.ensures c.if-n-eq0.false _ c.args.text.now _ _ (not-false _ c.if-not-draft.false) c.counted.ensures room c.put_digits-len.ensures
