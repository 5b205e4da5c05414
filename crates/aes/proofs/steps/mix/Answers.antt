use Rattle.std.proofs.Common.{ℕ, ◌<◌, ap, ◌∙◌, rules}
use Rattle.std.proofs.lemmas.Nat.{xor_comm}
use Rattle.field.specs.Field.{◌⊕◌, xtime}
use Rattle.field.proofs.Sums.{sum_assoc, xtime_sum}
use Rattle.fips197.specs.Steps.{mixed}
use Rattle.aes.proofs.steps.mix.Goals as goal

pub returns : goal.returns
unfolding mixed
returns c =
    let a = c.args.a in
    let b = c.args.b in
    let ha : a < 256 = search rules in
    let hb : b < 256 = search rules in
    ap (λ (x : ℕ). x ⊕ c.args.c ⊕ c.args.d)
    (ap (λ (x : ℕ). x ⊕ b) (c.xtime.ensures ∙ xtime_sum a b ha hb)
    ∙ sum_assoc (xtime a) (xtime b) b ∙ ap (λ (x : ℕ). xtime a ⊕ x) (xor_comm (xtime b) b))
