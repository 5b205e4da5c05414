use mathlib.Core.Path.{ap, ◌∙◌}
use mathlib.Core.List.{List}
use Prim.Native.Nat.{ℕ}
use Rattle.field.specs.Bytes.{◌⊞◌}
use Rattle.fips197.specs.Sbox.{inv_sbox}
use Rattle.fips197.specs.Steps.{inv_mix_columns}
use Rattle.fips197.specs.Cipher.{inv_round}
use Rattle.aes.proofs.inv_round.Goals as goal

pub returns : goal.returns
unfolding inv_round
returns c =
    let h = c.inv_shift_sub.ensures inv_sbox c.requires in
    c.inv_mix_columns.ensures ∙ ap inv_mix_columns (c.add_blocks.ensures ∙ ap (λ (x : List ℕ). x ⊞ c.args.k) h)
