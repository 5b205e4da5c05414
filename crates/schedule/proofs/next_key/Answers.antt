use borrow.Author.Rules.{rules}
use mathlib.Core.Path.{◌≡◌, refl, sym, ap, ap₂, ◌∙◌}
use mathlib.Core.List.{List, [], ◌∷◌}
use Prim.Native.Nat.{ℕ}
use native.Mathlib.Omega.{arith}
use lib.Bits.{xor_zero_r}
use lib.ListN.{length}
use Rattle.field.specs.Field.{◌⊕◌}
use Rattle.lookup.specs.Tables.{tabled}
use Rattle.field.proofs.Laws.{◌∷≡◌}
use Rattle.fips197.specs.Sbox.{sbox}
use Rattle.fips197.specs.Keys.{joined}
use Rattle.fips197.specs.Schedule.{next_word, next_key}
use Rattle.schedule.proofs.Grown.{begun, carried, whole_key}
use Rattle.schedule.proofs.next_key.Goals as goal

none : ◌≡◌ {A = List ℕ} [] []
none = refl

plain : {a b : ℕ} → a ≡ b → a ≡ b ⊕ 0
plain {a} {b} p = p ∙ sym (xor_zero_r b)

pub returns : goal.returns
unfolding next_key
returns c =
    let k = c.args.k in
    let long : length k ≡ 16 = search rules in
    let first : List ℕ = (c.look.result ⊕ c.args.p) ∷ c.look-2.result ∷ c.look-3.result ∷ c.look-4.result ∷ [] in
    let four : c.loop-i.i ≡ 4 = omega arith in
    let twelve : c.loop-i-2.i ≡ 12 = omega arith in
    c.loop-i-2.invariant
    ∙ ap₂ carried (c.loop-i.invariant ∙ ap (begun k first) four) twelve
    ∙ whole_key k first long
    ∙ ap (λ (t : List ℕ). joined (tabled 4 (next_word t k)))
    (ap (λ (x : ℕ). x ⊕ c.args.p) (c.look.ensures sbox c.requires)
    ∷≡ plain (c.look-2.ensures sbox c.requires) ∷≡ plain (c.look-3.ensures sbox c.requires)
    ∷≡ plain (c.look-4.ensures sbox c.requires) ∷≡ none)
