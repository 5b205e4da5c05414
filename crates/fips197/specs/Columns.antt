-- InvMixColumns undoes MixColumns in one column. A product of a sum is the sum of the products, so what is left is the
-- product of the two matrices, whose four entries are tested at each byte.
use Rattle.std.specs.Prelude.{◌≡◌, ℕ, ◌<◌}
use Rattle.std.proofs.Common.{sym, ap, ap₂, ◌∙◌}
use Rattle.std.proofs.lemmas.Nat.{xor_comm}
use Rattle.std.specs.Int.Bits.{xor_zero_r}
use Rattle.field.specs.Field.{◌⊕◌, ◌•◌, xtime}
use Rattle.lookup.specs.Every.{agree}
use Rattle.field.proofs.Sums.{sum_assoc, sum_swap, sum_lt, product_sum, product_lt}
use Rattle.fips197.specs.Steps.{mixed, unmixed}

abbrev four : ℕ → ℕ → ℕ → ℕ → ℕ
four a b c d = a ⊕ b ⊕ c ⊕ d

four_lt : (a b c d : ℕ) → a < 256 → b < 256 → c < 256 → d < 256 → four a b c d < 256
four_lt a b c d ha hb hc hd = sum_lt (a ⊕ b ⊕ c) d (sum_lt (a ⊕ b) c (sum_lt a b ha hb) hc) hd

pub mixed_lt : (a b c d : ℕ) → a < 256 → b < 256 → c < 256 → d < 256 → mixed a b c d < 256
unfolding mixed
mixed_lt a b c d ha hb hc hd = four_lt (2 • a) (3 • b) c d (product_lt 2 a ha) (product_lt 3 b hb) hc hd

four_alike : {a b c d a' b' c' d' : ℕ} → a ≡ a' → b ≡ b' → c ≡ c' → d ≡ d' → four a b c d ≡ four a' b' c' d'
four_alike p q r s = ap₂ (λ x y. x ⊕ y) (ap₂ (λ x y. x ⊕ y) (ap₂ (λ x y. x ⊕ y) p q) r) s

four_sum : (a b c d e f g h : ℕ) → four a b c d ⊕ four e f g h ≡ four (a ⊕ e) (b ⊕ f) (c ⊕ g) (d ⊕ h)
four_sum a b c d e f g h =
    sum_swap (a ⊕ b ⊕ c) d (e ⊕ f ⊕ g) h
    ∙ ap (λ (x : ℕ). x ⊕ (d ⊕ h)) (sum_swap (a ⊕ b) c (e ⊕ f) g ∙ ap (λ (x : ℕ). x ⊕ (c ⊕ g)) (sum_swap a b e f))

-- the last comes first
turn : (a b c d : ℕ) → four a b c d ≡ four d a b c
turn a b c d =
    xor_comm (a ⊕ b ⊕ c) d ∙ sym (ap (λ (x : ℕ). x ⊕ c) (sum_assoc d a b) ∙ sum_assoc d (a ⊕ b) c)

-- a sum of rows is a sum of columns
flip : (a b c d e f g h i j k l m n o p : ℕ)
    → four (four a b c d) (four e f g h) (four i j k l) (four m n o p) ≡ four (four a e i m) (four b f j n) (four c g k o) (four d h l p)
flip a b c d e f g h i j k l m n o p =
    ap (λ (x : ℕ). x ⊕ four i j k l ⊕ four m n o p) (four_sum a b c d e f g h)
    ∙ ap (λ (x : ℕ). x ⊕ four m n o p) (four_sum (a ⊕ e) (b ⊕ f) (c ⊕ g) (d ⊕ h) i j k l)
    ∙ four_sum (a ⊕ e ⊕ i) (b ⊕ f ⊕ j) (c ⊕ g ⊕ k) (d ⊕ h ⊕ l) m n o p

-- q times a byte of MixColumns
spread : (q a b c d : ℕ) → a < 256 → b < 256 → c < 256 → d < 256
    → q • mixed a b c d ≡ four (q • (2 • a)) (q • (3 • b)) (q • c) (q • d)
unfolding mixed
spread q a b c d ha hb hc hd =
    let h₂ = product_lt 2 a ha in
    let h₃ = product_lt 3 b hb in
    let h = sum_lt (2 • a) (3 • b) h₂ h₃ in
    product_sum q (2 • a ⊕ 3 • b ⊕ c) d (sum_lt (2 • a ⊕ 3 • b) c h hc) hd
    ∙ ap (λ (x : ℕ). x ⊕ q • d)
    (product_sum q (2 • a ⊕ 3 • b) c h hc ∙ ap (λ (x : ℕ). x ⊕ q • c) (product_sum q (2 • a) (3 • b) h₂ h₃))

-- an entry of the product of the matrices, at a byte
entry : ℕ → ℕ → ℕ → ℕ → ℕ → ℕ
entry m₀ m₁ m₂ m₃ x = four (0x0e • (m₀ • x)) (0x0b • (m₁ • x)) (0x0d • (m₂ • x)) (0x09 • (m₃ • x))

own : (x : ℕ) → x < 256 → entry 2 1 1 3 x ≡ x
unfolding entry xtime
own = agree 256 (entry 2 1 1 3) (λ x. x) tt

others : (x : ℕ) → x < 256 → (entry 3 2 1 1 x ≡ 0) × (entry 1 3 2 1 x ≡ 0) × (entry 1 1 3 2 x ≡ 0)
unfolding entry xtime
others x h =
    (agree 256 (entry 3 2 1 1) (λ x. 0) tt x h, agree 256 (entry 1 3 2 1) (λ x. 0) tt x h, agree 256 (entry 1 1 3 2) (λ x. 0) tt x h)

pub column_undone : (a b c d : ℕ) → a < 256 → b < 256 → c < 256 → d < 256
    → unmixed (mixed a b c d) (mixed b c d a) (mixed c d a b) (mixed d a b c) ≡ a
unfolding unmixed entry
column_undone a b c d ha hb hc hd =
    four_alike (spread 0x0e a b c d ha hb hc hd)
    (spread 0x0b b c d a hb hc hd ha ∙ turn (0x0b • (2 • b)) (0x0b • (3 • c)) (0x0b • d) (0x0b • a))
    (spread 0x0d c d a b hc hd ha hb ∙ turn (0x0d • (2 • c)) (0x0d • (3 • d)) (0x0d • a) (0x0d • b)
    ∙ turn (0x0d • b) (0x0d • (2 • c)) (0x0d • (3 • d)) (0x0d • a))
    (spread 0x09 d a b c hd ha hb hc ∙ turn (0x09 • (2 • d)) (0x09 • (3 • a)) (0x09 • b) (0x09 • c)
    ∙ turn (0x09 • c) (0x09 • (2 • d)) (0x09 • (3 • a)) (0x09 • b)
    ∙ turn (0x09 • b) (0x09 • c) (0x09 • (2 • d)) (0x09 • (3 • a)))
    ∙ flip (0x0e • (2 • a)) (0x0e • (3 • b)) (0x0e • c) (0x0e • d) (0x0b • a) (0x0b • (2 • b)) (0x0b • (3 • c)) (0x0b • d)
    (0x0d • a) (0x0d • b) (0x0d • (2 • c)) (0x0d • (3 • d)) (0x09 • (3 • a)) (0x09 • b) (0x09 • c) (0x09 • (2 • d))
    ∙ four_alike (own a ha) (others b hb).0 (others c hc).1 (others d hd).2
    ∙ ap (λ (x : ℕ). x ⊕ 0 ⊕ 0) (xor_zero_r a) ∙ ap (λ (x : ℕ). x ⊕ 0) (xor_zero_r a) ∙ xor_zero_r a
