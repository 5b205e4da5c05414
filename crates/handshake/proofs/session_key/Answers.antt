use Rattle.handshake.specs.Guarded.{key_in}
use Rattle.derivation.specs.Derivation.{mac_key}
use mathlib.Core.Path.{ap, ◌∙◌}
use mathlib.Core.List.{List}
use Prim.Native.Nat.{ℕ}
use Rattle.handshake.proofs.session_key.Goals as goal

pub returns : goal.returns
unfolding key_in
returns c = c.mac_key.ensures ∙ ap (λ (a : List ℕ). mac_key c.args.k a c.args.b) c.brought_a.ensures
