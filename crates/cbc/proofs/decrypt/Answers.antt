use borrow.Author.Rules.{rules}
use mathlib.Core.Path.{◌≡◌, refl, sym, ap, ap₂, ◌∙◌}
use mathlib.Core.List.{List, ◌++◌}
use Prim.Native.Nat.{ℕ, ◌*◌, ◌/◌, ◌<◌}
use native.Mathlib.Omega.{arith}
use native.Mathlib.Numerals.{add-one}
use lib.ListN.{length, drop}
use Rattle.wire.specs.Bytes.{laid, laid_in}
use Rattle.field.specs.Bytes.{◌⊞◌, zeros}
use Rattle.fips197.specs.Cipher.{inv_cipher}
use Rattle.cbc.specs.Cbc.{decrypted_from, decrypted}
use Rattle.cbc.specs.Laws.{length_decrypted_from}
use Rattle.cbc.proofs.Blocks.{last_block, block_next, decrypted_next, laid_none, laid_next, laid_all, whole}
use Rattle.cbc.proofs.decrypt.Goals as goal

pub loop-i-init : goal.loop-i-init
loop-i-init g c = (laid_none c.args.x, refl)

pub loop-i-preserved : goal.loop-i-preserved
loop-i-preserved g c =
    let l = c.loop-i in
    let w = c.key_expansion-w.result in
    let x = c.args.x in
    let front = decrypted_from w zeros l.i x in
    let b = c.add_blocks-plain.result in
    let long : length x ≡ g.row.N = search rules in
    let inside : l.i < length x / 16 = omega arith in
    let wide : length b ≡ 16 = search rules in
    let plain =
    c.add_blocks-plain.ensures ∙ ap₂ ◌⊞◌ (c.inv_cipher.ensures ∙ ap (inv_cipher w) c.block_at-sealed.ensures) l.invariant.1 in (
      c.lay.ensures ∙ ap (λ (r : List ℕ). laid_in r (16 * l.i) b) l.invariant.0
          ∙ laid_next x front b l.i (length_decrypted_from w l.i zeros x) wide inside
          ∙ ap (laid x 0) (ap (λ (u : List ℕ). front ++ u) plain ∙ sym (decrypted_next w zeros l.i x) ∙ ap (λ (n : ℕ). decrypted_from w zeros n x) (sym (add-one l.i))),
      c.block_at-sealed.ensures ∙ sym (block_next w zeros l.i x) ∙ ap (λ (n : ℕ). last_block w zeros n x) (sym (add-one l.i)),
    )

pub returns : goal.returns
unfolding decrypted
returns g c =
    let l = c.loop-i in
    let w = c.key_expansion-w.result in
    let x = c.args.x in
    let n = g.row.N in
    let long : length x ≡ n = search rules in
    let last : l.i ≡ n / 16 = omega arith in
    let all =
    l.invariant.0 ∙ laid_all x (decrypted_from w zeros l.i x) l.i (length_decrypted_from w l.i zeros x)
    ∙ ap (λ (m : ℕ). decrypted_from w zeros m x ++ drop (16 * m) x) last
    ∙ ap (λ (u : List ℕ). u ++ drop (16 * (n / 16)) x)
    (ap₂ (λ (v : List (List ℕ)) (m : ℕ). decrypted_from v zeros (m / 16) x) c.key_expansion-w.ensures (sym long)) in
    record { all = all; whole = λ h. all ∙ whole (decrypted c.args.key x) x n long h }
