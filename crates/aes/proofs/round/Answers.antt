use mathlib.Core.Path.{ap, ◌∙◌}
use mathlib.Core.List.{List}
use Prim.Native.Nat.{ℕ}
use Rattle.field.specs.Bytes.{◌⊞◌}
use Rattle.fips197.specs.Sbox.{sbox}
use Rattle.fips197.specs.Steps.{mix_columns}
use Rattle.fips197.specs.Cipher.{round}
use Rattle.aes.proofs.round.Goals as goal

pub returns : goal.returns
unfolding round
returns c =
    let h = c.sub_shift.ensures sbox c.requires in
    c.add_blocks.ensures ∙ ap (λ (x : List ℕ). x ⊞ c.args.k) (c.mix_columns.ensures ∙ ap mix_columns h)
