use Rattle.std.proofs.Common.{rules, ◌≡◌, ◌∙◌, ap, List, [], ℕ, get_or, length, take, drop}
use Rattle.std.specs.List.{fold}
use Rattle.field.specs.Bytes.{◌⊞◌}
use Rattle.fips197.specs.Sbox.{sbox}
use Rattle.fips197.specs.Steps.{sub_bytes, shift_rows}
use Rattle.fips197.specs.Cipher.{round, rounds, cipher}
use Rattle.aes.proofs.Rounds.{forwards}
use Rattle.aes.proofs.cipher.Goals as goal

pub returns : goal.returns
unfolding cipher
returns c =
    let w = c.args.w in
    let l : length w ≡ 11 = search rules in
    let h : c.loop-k.s ≡ fold round c.add_blocks-s.result (take 9 (drop 1 w)) = search rules in
    c.add_blocks.ensures
    ∙ ap (λ (x : List ℕ). x ⊞ get_or w 10 [])
    (c.sub_shift.ensures sbox c.forward-t.ensures
    ∙ ap (λ (x : List ℕ). shift_rows (sub_bytes x)) (h ∙ forwards w c.add_blocks-s.result l ∙ ap (λ (x : List ℕ). rounds w x 9) c.add_blocks-s.ensures))
