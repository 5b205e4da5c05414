use Rattle.wire.specs.Bytes.{laid}
use Rattle.blocks.specs.Laws.{rest_counted, length_rest, moved, same_cut}
use lib.ListN.{length}
use Prim.Native.Nat.{◌+◌, ◌-◌, min}
use native.Mathlib.Omega.{arith}
use mathlib.Core.Path.{◌≡◌, ap, ◌∙◌}
use Rattle.blocks.proofs.keep_rest.Goals as goal

pub returns : goal.returns
returns c =
    let a = c.args in
    let b = a.buf.now in
    let from = c.min-from.result in
    let n = c.min-n.result in
    let e : n ≡ min 1025 (min (a.end - a.read) (length b - a.read)) = omega arith in
    let k : from + n - from ≡ n = omega arith in
    record {
      shows = (c.copy_within.ensures.after ∙ rw k (moved b from n (omega arith)) ∙ ap (laid b 0) (same_cut b from a.read n (λ h. omega arith) ∙ rest_counted b a.read a.end n e), length_rest b a.read a.end n e);
      upper_bound = omega arith;
    }
