use Rattle.text.specs.Hex.{digit_of, leading}
use Rattle.text.proofs.Steps.{pair, pair_more, pair_stop, room_half, room_stop, filled_more, filled_shows}
use Rattle.tables.specs.Choice.{and_both, and_left, and_right}
use borrow.Author.Tests.{lt-ltb, le-ltb}
use lib.Dec.{ltb}
use lib.ListN.{length, get_or, length-set}
use Prim.Native.Nat.{◌+◌, ◌*◌, ◌≤◌, ◌<◌}
use mathlib.Core.Bool.{true}
use mathlib.Core.Path.{◌≡◌}
use native.Mathlib.Omega.{arith}
use Rattle.text.proofs.spell_by.Goals as goal

pub returns-then-high-ge16 : goal.returns-then-high-ge16
returns-then-high-ge16 c =
    let known = c.requires in
    let a = c.args in
    let s = a.s.now in
    let i = c.loop-i.i in
    let v = c.loop-i.invariant in
    let high : 16 ≤ digit_of (get_or s (2 * i) 0) = omega (arith, c.look-high.ensures digit_of known) in
    let stop = pair_stop s i v.0 (and_left _ _ (le-ltb _ _ high)) in
    rw v.2 (filled_shows a.out.now (leading s) i (length a.out.now) v.0 (room_stop s (length a.out.now) i stop (omega arith)))

pub returns-then-low-ge16 : goal.returns-then-low-ge16
returns-then-low-ge16 c =
    let known = c.requires in
    let a = c.args in
    let s = a.s.now in
    let i = c.loop-i.i in
    let v = c.loop-i.invariant in
    let low : 16 ≤ digit_of (get_or s (2 * i + 1) 0) = omega (arith, c.look-low.ensures digit_of known) in
    let stop = pair_stop s i v.0 (and_right (ltb (digit_of (get_or s (2 * i) 0)) 16) _ (le-ltb _ _ low)) in
    rw v.2 (filled_shows a.out.now (leading s) i (length a.out.now) v.0 (room_stop s (length a.out.now) i stop (omega arith)))

pub loop-i-preserved : goal.loop-i-preserved
loop-i-preserved c =
    let known = c.requires in
    let a = c.args in
    let s = a.s.now in
    let i = c.loop-i.i in
    let v = c.loop-i.invariant in
    let h = c.look-high.ensures digit_of known in
    let k = c.look-low.ensures digit_of known in
    let high : digit_of (get_or s (2 * i) 0) < 16 = omega (arith, h) in
    let low : digit_of (get_or s (2 * i + 1) 0) < 16 = omega (arith, k) in
    let p : pair s i ≡ true = and_both _ _ (lt-ltb _ _ high) (lt-ltb _ _ low) in
    let m = pair_more s i v.0 (omega arith) p in
    let e : 16 * c.look-high.result + c.look-low.result ≡ get_or (leading s) i 0 = omega (arith, h, k, m.1) in (
      omega (arith, m.0),
      simp length-set v.1,
      rw v.2 (filled_more a.out.now (leading s) i _ (omega arith) m.0 e),
    )

pub returns : goal.returns
returns c =
    let a = c.args in
    let s = a.s.now in
    let v = c.loop-i.invariant in
    let e : c.min-most.result ≡ c.loop-i.i = omega arith in
    rw (v.2, e) (filled_shows a.out.now (leading s) c.loop-i.i (length a.out.now) v.0 (room_half s (length a.out.now) c.loop-i.i (omega arith)))
