use Prim.Native.Nat.{ℕ, ◌+◌, ◌≤◌, min}
use Rattle.std.proofs.Common.{◌≡◌, ◌∙◌, ap, arith}
use borrow.Author.Tests.{ltb-true, ltb-false}
use lib.Dec.{ltb}
use Rattle.tables.specs.Choice.{pick_cases}
use Rattle.held.specs.declared.Draft.{Draft}
use Rattle.held.specs.Held.{raised, counted}
use Rattle.held.proofs.Draft.counted.Goals as goal

raised_most : (c : ℕ) → c ≤ 0xFFFF → min (c + 1) 0xFFFF ≡ raised c
unfolding raised
raised_most c h =
    pick_cases (λ (n : ℕ). min (c + 1) 0xFFFF ≡ n) (ltb c 0xFFFF) (c + 1) c (λ e. omega (arith, ltb-true _ _ e)) (λ e. omega (arith, h, ltb-false _ _ e))

abbrev at : Draft → ℕ → Draft
at d n = record { random = d.random; identifier = d.identifier; held = d.held; key = d.key; ti = d.ti; counter = n }

pub returns : goal.returns
unfolding counted
returns c = ap (at c.args.self) (c.saturating_add.ensures ∙ raised_most c.args.self.counter (omega (arith, c.well_formed)))
