use Rattle.std.proofs.Common.{rules, ◌≡◌, ◌∙◌, ap, sym, List, [], ℕ, get_or, length}
use Rattle.std.specs.List.{fold}
use Rattle.std.proofs.lemmas.Iterator.Adapters.{YieldsList-from_rev_slice}
use Rattle.std.proofs.lemmas.List.Folds.{fold-map}
use Rattle.std.proofs.lemmas.Iterator.Consumers.{YieldsList-end}
use Rattle.field.specs.Bytes.{◌⊞◌}
use Rattle.fips197.specs.Sbox.{inv_sbox}
use Rattle.fips197.specs.Steps.{bytewise, inv_shift_rows}
use Rattle.fips197.specs.Cipher.{inv_round, inv_rounds, inv_cipher}
use Rattle.aes.proofs.Rounds.{backwards}
use Rattle.aes.proofs.inv_cipher.Goals as goal

pub returns : goal.returns
unfolding inv_cipher
returns c =
    let w = c.args.w in
    let l : length w ≡ 11 = search rules in
    let source = ap (λ s. s.iter.rest.now) c.into_iter-k-iterator.ensures.into_iter_gives ∙ ap (λ s. s.rest.now) c.rev-k-items.ensures.source ∙ c.iter.ensures.rest in
    let yields = YieldsList-from_rev_slice _ source in
    let keys = YieldsList-end yields _ _ c.loop-k.yielded_by _ _ c.in-None.is c.next.ensures.steps in
    let h = c.loop-k.invariant ∙ sym (fold-map inv_round (λ k. k.now) c.add_blocks-s.result c.loop-k.yielded) ∙ ap (fold inv_round c.add_blocks-s.result) keys.0 in
    c.add_blocks.ensures
    ∙ ap (λ (x : List ℕ). x ⊞ get_or w 0 [])
    (c.inv_shift_sub.ensures inv_sbox c.backward-t.ensures
    ∙ ap (λ (x : List ℕ). bytewise inv_sbox (inv_shift_rows x)) (h ∙ backwards w c.add_blocks-s.result l ∙ ap (inv_rounds w 9) c.add_blocks-s.ensures))
