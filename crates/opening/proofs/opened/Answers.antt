use mathlib.Core.Bool.{true}
use mathlib.Core.List.{List}
use mathlib.Core.Path.{ap}
use Prim.Native.Nat.{ℕ}
use Rattle.held.specs.declared.Draft.{Draft}
use Rattle.opening.specs.Opening.{opened}
use Rattle.opening.proofs.opened.Goals as goal

abbrev keyed : Draft → List ℕ → Draft
keyed d k = record { random = d.random; identifier = d.identifier; held = true; key = k; ti = d.identifier; counter = 0 }

pub returns : goal.returns
unfolding opened
returns c = ap (keyed c.args.draft) c.mac_key-key.ensures
