use mathlib.Core.Path.{ap, ◌∙◌}
use Rattle.cmac.specs.Cmac.{first_subkey, second_subkey, subkey1, subkey2}
use Rattle.cmac.proofs.Subkeys.of_key.Goals as goal

pub returns : goal.returns
unfolding subkey1 subkey2
returns c =
    let w = c.key_expansion.ensures in
    let k = c.of_round_keys.ensures in
    (k.0 ∙ ap first_subkey w, k.1 ∙ ap second_subkey w)
