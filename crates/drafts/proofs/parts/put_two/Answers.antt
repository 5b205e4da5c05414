use Rattle.drafts.proofs.Steps.{first_size, end_size, second_size, two_shown}
use lib.ListN.{length}
use mathlib.Core.Path.{◌≡◌}
use native.Mathlib.Omega.{arith}
use borrow.Author.Rules.{rules}
use Rattle.drafts.proofs.parts.put_two.Goals as goal
use Rattle.drafts.proofs.parts.put_two.Goals.{After-second-1}

eight : (s : After-second-1) → length s.args.first ≡ 8
eight s = search rules

thirty_eight : (s : After-second-1) → length s.args.second ≡ 38
thirty_eight s = search rules

-- the first frame is spelt, and LF stands behind it
sizes : (c : After-second-1) → (c.put_digits-n.result ≡ 16) × (length c.lay.new.dst ≡ length c.args.text.now)
sizes c =
    let w = c.put_digits-n.ensures in
    let a = c.args in
    ((first_size a.first a.second a.text.now (eight c) (thirty_eight c) c.requires _ _ w).0, end_size a.first a.second a.text.now (eight c) (thirty_eight c) c.requires _ _ w _ c.lay.ensures)

pub overflow_add-n : goal.overflow_add-n
overflow_add-n c = omega (arith, (sizes (goal.at.overflow_add-n c).After-second-1).0)

pub slice_bounds-put_digits-count : goal.slice_bounds-put_digits-count
slice_bounds-put_digits-count c =
    let p = (goal.at.slice_bounds-put_digits-count c).After-second-1 in
    omega (arith, (sizes p).0, (sizes p).1, c.requires)

pub slice_bounds-put_digits-start : goal.slice_bounds-put_digits-start
slice_bounds-put_digits-start c =
    let p = (goal.at.slice_bounds-put_digits-start c).After-second-1 in
    omega (arith, (sizes p).0, (sizes p).1, c.requires)

pub overflow_add-result : goal.overflow_add-result
overflow_add-result c = omega (arith, (sizes (goal.at.overflow_add-result c).After-second-1).0)

pub overflow_add-result-2 : goal.overflow_add-result-2
overflow_add-result-2 c =
    let p = (goal.at.overflow_add-result-2 c).After-second-1 in
    let k = second_size c.args.first c.args.second c.args.text.now (eight p) (thirty_eight p) c.requires _ _ c.put_digits-n.ensures _ c.lay.ensures _ _ c.put_digits-m.ensures in omega (arith, (sizes p).0)

pub returns : goal.returns
returns c =
    let p = (goal.at.returns c).After-second-1 in
    two_shown c.args.first c.args.second c.args.text.now (eight p) (thirty_eight p) c.requires _ _ c.put_digits-n.ensures _ c.lay.ensures _ _ c.put_digits-m.ensures
