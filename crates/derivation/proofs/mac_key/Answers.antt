use Rattle.derivation.specs.Derivation.{mac_key}
use Rattle.cmac.specs.Cmac.{cmac}
use mathlib.Core.Path.{ap, ◌∙◌}
use mathlib.Core.List.{append-nil}
use Rattle.derivation.proofs.mac_key.Goals as goal

pub returns : goal.returns
unfolding mac_key
returns c = c.tag.ensures ∙ ap (cmac c.args.k) (append-nil _ ∙ c.session_vector-v.ensures)
