use mathlib.Core.Path.{ap, ◌∙◌, sym}
use mathlib.Core.List.{List}
use Prim.Native.Nat.{ℕ}
use Rattle.field.specs.Bytes.{◌⊞◌}
use Rattle.fips197.specs.Cipher.{cipher}
use Rattle.cmac.specs.Fed.{put}
use Rattle.cmac.proofs.Stream.{closed_short, closed_full}
use Rattle.cmac.proofs.close.Goals as goal

pub returns-then-held-lt16 : goal.returns-then-held-lt16
returns-then-held-lt16 c =
    let a = c.args in
    let b = put a.s.block a.s.held 0x80 in
    c.cipher.ensures
    ∙ ap (cipher a.w) (c.add_blocks.ensures ∙ ap (λ (x : List ℕ). b ⊞ x) c.of_round_keys-subkeys.ensures.1)
    ∙ sym (closed_short a.w a.s.block a.s.held c.if-held-lt16.true)

pub returns : goal.returns
returns c =
    let a = c.args in
    c.cipher-2.ensures
    ∙ ap (cipher a.w) (c.add_blocks-2.ensures ∙ ap (λ (x : List ℕ). a.s.block ⊞ x) c.of_round_keys-subkeys.ensures.0)
    ∙ sym (closed_full a.w a.s.block a.s.held c.if-held-lt16.false)
