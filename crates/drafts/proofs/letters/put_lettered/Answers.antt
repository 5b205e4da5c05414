use Rattle.drafts.proofs.Steps.{writes_as}
use Rattle.drafts.proofs.Lettered.{spelt_size, lettered_by_lem}
use Rattle.drafts.specs.Drafts.{lettered_by}
use Rattle.wire.specs.Bytes.{part}
use Rattle.wire.proofs.Laws.{length_part}
use lib.Dec.{eqb}
use lib.ListN.{length, get_or, replicate}
use Prim.Native.Nat.{ℕ, ◌-◌, ◌*◌, ◌≤◌}
use mathlib.Core.Path.{◌≡◌, sym, ap, ◌∙◌}
use native.Mathlib.Omega.{arith}
use borrow.Author.Rules.{rules}
use Rattle.drafts.proofs.letters.put_lettered.Goals as goal
use Rattle.drafts.proofs.letters.put_lettered.Goals.{After-spell-size}

few : (s : After-spell-size) → length (part s.args.line.now 1 (length s.args.line.now)) ≤ 1024
few s = let l = length_part s.args.line.now 1 (length s.args.line.now) (omega arith) in omega (arith, s.requires.1)

behind : (s : After-spell-size) → length s.args.line.now - 1 ≡ length (part s.args.line.now 1 (length s.args.line.now))
behind s = sym (length_part s.args.line.now 1 (length s.args.line.now) (omega arith))

-- what was spelt behind the letter
sizes : (c : After-spell-size) → (c.spell-size.result ≤ 512) × (c.spell-size.result ≡ length (part c.spell-size.new.out 0 c.spell-size.result))
sizes c =
    let l = c.args.line.now in
    spelt_size c.args.draft l 0 (part l 1 (length l)) (replicate 512 0) _ _ (length l - 1) (few c) (omega arith) (behind c) c.spell-size.ensures

pub overflow_mul-digits : goal.overflow_mul-digits
overflow_mul-digits c = omega (arith, (sizes (goal.at.overflow_mul-digits c).After-spell-size).0)

pub slice_bounds-put_spelt-end : goal.slice_bounds-put_spelt-end
slice_bounds-put_spelt-end c = let z = sizes (goal.at.slice_bounds-put_spelt-end c).After-spell-size in let k = c.spell-size.auto.out in search rules

pub returns : goal.returns
returns c =
    let p = (goal.at.returns c).After-spell-size in
    let l = c.args.line.now in writes_as c.args.text.now _ _ (ap (λ (k : ℕ). lettered_by c.args.draft l k (length l - 1) (eqb (2 * c.spell-size.result) (length l - 1)) (part c.spell-size.new.out 0 c.spell-size.result)) c.byte_at.ensures ∙ lettered_by_lem c.args.draft l (get_or l 0 0) (part l 1 (length l)) (replicate 512 0) _ _ (length l - 1) (few p) (omega arith) (behind p) c.spell-size.ensures) c.put_spelt.ensures
