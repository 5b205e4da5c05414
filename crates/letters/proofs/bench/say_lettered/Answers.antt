use Rattle.lines.proofs.Laws.{spelt_there}
use Rattle.kinds.specs.declared.Kind.TheVariants.{HandedIn}
use Rattle.kinds.specs.Laws.{Known, known}
use Rattle.letters.proofs.Steps.{lettered_by_lem}
use Rattle.letters.specs.Letters.{lettered_by}
use Rattle.text.specs.Hex.{leading}
use Rattle.text.specs.Laws.{leading_most}
use Rattle.wire.specs.Bytes.{part}
use Rattle.wire.proofs.Laws.{length_part}
use borrow.Author.Tests.{eqb-true}
use lib.Dec.{eqb}
use lib.ListN.{length, replicate}
use Prim.Native.Nat.{ℕ, ◌*◌, ◌≤◌}
use native.Mathlib.Omega.{arith}
use mathlib.Core.List.{List}
use mathlib.Core.Path.{◌≡◌, sym, ap, subst, ◌∙◌}
use Rattle.letters.proofs.bench.say_lettered.Goals as goal
use Rattle.letters.proofs.bench.say_lettered.Goals.{After-spell-n}

-- the bytes behind the letter are spelt
module _ (k : After-spell-n) where
  abbrev rest : List ℕ
  rest = k.args.rest.now

  abbrev bytes : List ℕ
  bytes = part k.spell-n.new.out 0 k.spell-n.result

  there : (bytes ≡ leading rest) × (k.spell-n.result ≡ length (leading rest)) × (k.spell-n.result ≤ length k.spell-n.new.out)
  there = spelt_there rest (replicate 512 0) _ _ (omega (arith, k.requires)) k.spell-n.ensures

pub overflow_mul-digits : goal.overflow_mul-digits
overflow_mul-digits c =
    let p = (goal.at.overflow_mul-digits c).After-spell-n in
    omega (arith, leading_most (rest p), (there p).1)

pub slice_bounds-say_kind-end : goal.slice_bounds-say_kind-end
slice_bounds-say_kind-end c = omega (arith, (there (goal.at.slice_bounds-say_kind-end c).After-spell-n).2)

pub say_kind-requires : goal.say_kind-requires
unfolding Known
say_kind-requires c e =
    let k = (goal.at.say_kind-requires c).After-spell-n in
    let digits = eqb (2 * k.spell-n.result) (length (rest k)) in
    let h : Known (length (rest k)) digits HandedIn = subst (Known (length (rest k)) digits) (sym c.of_line-kind.ensures ∙ e) (known c.args.letter (length (rest k)) digits) in
    omega (arith, h.0, eqb-true (2 * k.spell-n.result) (length (rest k)) h.1, length_part k.spell-n.new.out 0 k.spell-n.result (there k).2)

pub returns : goal.returns
returns c =
    let p = (goal.at.returns c).After-spell-n in
    let desk = c.args.desk in
    c.say_kind.ensures ∙ (ap (λ x. lettered_by desk x (bytes p)) c.of_line-kind.ensures ∙ lettered_by_lem desk c.args.letter (rest p) _ _ (there p).0 (there p).1)
