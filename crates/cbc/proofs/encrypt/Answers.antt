use borrow.Author.Rules.{rules}
use mathlib.Core.Path.{◌≡◌, refl, sym, ap, ap₂, ◌∙◌}
use mathlib.Core.List.{List, ◌++◌}
use Prim.Native.Nat.{ℕ, ◌*◌, ◌/◌, ◌<◌}
use native.Mathlib.Omega.{arith}
use native.Mathlib.Numerals.{add-one}
use lib.ListN.{length, drop}
use Rattle.wire.specs.Bytes.{laid, laid_in}
use Rattle.field.specs.Bytes.{◌⊞◌, zeros}
use Rattle.fips197.specs.Cipher.{cipher}
use Rattle.cbc.specs.Cbc.{encrypted_from, encrypted}
use Rattle.cbc.specs.Laws.{length_encrypted_from}
use Rattle.cbc.proofs.Blocks.{last_sealed, sealed_next, encrypted_next, laid_none, laid_next, laid_all, whole}
use Rattle.cbc.proofs.encrypt.Goals as goal

pub loop-i-init : goal.loop-i-init
loop-i-init g c = (laid_none c.args.x, refl)

pub loop-i-preserved : goal.loop-i-preserved
loop-i-preserved g c =
    let l = c.loop-i in
    let w = c.key_expansion-w.result in
    let x = c.args.x in
    let front = encrypted_from w zeros l.i x in
    let b = c.cipher-sealed.result in
    let long : length x ≡ g.row.N = search rules in
    let inside : l.i < length x / 16 = omega arith in
    let wide : length b ≡ 16 = search rules in
    let more =
    c.cipher-sealed.ensures ∙ ap (cipher w) (c.add_blocks.ensures ∙ ap₂ ◌⊞◌ c.block_at-block.ensures l.invariant.1)
    ∙ sym (sealed_next w zeros l.i x) in (
      c.lay.ensures ∙ ap (λ (r : List ℕ). laid_in r (16 * l.i) b) l.invariant.0
          ∙ laid_next x front b l.i (length_encrypted_from w l.i zeros x) wide inside
          ∙ ap (laid x 0) (ap (λ (u : List ℕ). front ++ u) more ∙ sym (encrypted_next w zeros l.i x) ∙ ap (λ (n : ℕ). encrypted_from w zeros n x) (sym (add-one l.i))),
      more ∙ ap (λ (n : ℕ). last_sealed w zeros n x) (sym (add-one l.i)),
    )

pub returns : goal.returns
unfolding encrypted
returns g c =
    let l = c.loop-i in
    let w = c.key_expansion-w.result in
    let x = c.args.x in
    let n = g.row.N in
    let long : length x ≡ n = search rules in
    let last : l.i ≡ n / 16 = omega arith in
    let all =
    l.invariant.0 ∙ laid_all x (encrypted_from w zeros l.i x) l.i (length_encrypted_from w l.i zeros x)
    ∙ ap (λ (m : ℕ). encrypted_from w zeros m x ++ drop (16 * m) x) last
    ∙ ap (λ (u : List ℕ). u ++ drop (16 * (n / 16)) x)
    (ap₂ (λ (v : List (List ℕ)) (m : ℕ). encrypted_from v zeros (m / 16) x) c.key_expansion-w.ensures (sym long)) in
    record { all = all; whole = λ h. all ∙ whole (encrypted c.args.key x) x n long h }
