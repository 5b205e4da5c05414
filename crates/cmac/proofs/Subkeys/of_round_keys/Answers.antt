use mathlib.Core.Path.{ap, ◌∙◌}
use Rattle.cmac.specs.Cmac.{doubled}
use Rattle.cmac.proofs.Subkeys.of_round_keys.Goals as goal

pub returns : goal.returns
returns c = let first = c.double-first.ensures ∙ ap doubled c.cipher.ensures in (first, c.double-second.ensures ∙ ap doubled first)
