use Rattle.sealing.specs.Sealing.{seal_of}
use Rattle.wire.specs.Listed.{spread}
use Rattle.cmac.specs.Cmac.{cmac, truncated}
use mathlib.Core.Path.{◌≡◌, sym, ap, ◌∙◌}
use mathlib.Core.List.{List, [], ◌∷◌, ◌++◌}
use Prim.Native.Nat.{ℕ, ◌%◌, ◌/◌}
use lib.ListN.{length, get_or}
use native.Mathlib.Omega.{arith}
use borrow.Author.Rules.{rules}
use Rattle.sealing.proofs.seal.Goals as goal

pub returns : goal.returns
unfolding seal_of
returns c =
    let a = c.args in
    let l : length a.ti ≡ 4 = search rules in
    let two : c.to_le_bytes.result ≡ a.counter % 256 ∷ a.counter / 256 ∷ [] = search (rules, arith) in
    c.short_tag.ensures ∙ ap (λ (p : List ℕ). truncated (cmac a.key (a.first ∷ get_or p 0 0 ∷ get_or p 1 0 ∷ get_or a.ti 0 0 ∷ get_or a.ti 1 0 ∷ get_or a.ti 2 0 ∷ get_or a.ti 3 0 ∷ a.x.now))) two
    ∙ ap (λ (t : List ℕ). truncated (cmac a.key (a.first ∷ a.counter % 256 ∷ a.counter / 256 ∷ t ++ a.x.now))) (sym (spread 4 a.ti l))
