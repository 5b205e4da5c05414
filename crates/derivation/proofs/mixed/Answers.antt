use borrow.Author.Rules.{rules}
use mathlib.Core.Path.{◌≡◌, ◌∙◌}
use Prim.Native.Nat.{◌+◌}
use lib.Bits.{bit_xor}
use lib.ListN.{length, get_or}
use Rattle.lookup.proofs.Made.{made}
use Rattle.derivation.proofs.Laying.{mixes}
use Rattle.derivation.proofs.mixed.Goals as goal

pub returns : goal.returns
returns c =
    let a = c.args.a in
    let b = c.args.b in
    let la : length a ≡ 16 = search rules in
    let lb : length b ≡ 16 = search rules in
    made _ _ (λ i. bit_xor (get_or a (i + 2) 0) (get_or b i 0)) 6 _ (λ i y f l k. search rules) c.from_fn.ensures.items ∙ mixes a b la lb
