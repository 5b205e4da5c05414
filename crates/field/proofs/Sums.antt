-- Laws of the sum and the product.
use Rattle.std.specs.Prelude.{◌≡◌, refl, ℕ, zero, suc, ◌+◌, ◌*◌, ◌/◌, ◌%◌, ◌<◌}
use Rattle.std.proofs.Common.{sym, ap, ap₂, ◌∙◌, add-zero, mod-lt, not-suc-le-zero, le_of_suc-le-suc, arith, lit<}
use Rattle.std.proofs.Math.Arith.{bin_ind}
use Rattle.std.specs.Int.Bits.{bit_xor, differ, xor_step, xor_self, xor_zero_r}
use Rattle.std.proofs.lemmas.Nat.{xor_shr, xor_mod, xor_comm, xor_lt, xor_block}
use Rattle.field.specs.Field.{◌⊕◌, ◌•◌, only_if, add_if, times, xtime}

-- ---- the sum

-- what holds of both bits holds of a bit
of_bit : (P : ℕ → Type 0) → P 0 → P 1 → (x : ℕ) → x < 2 → P x
of_bit P p q zero h = p
of_bit P p q (suc zero) h = q
of_bit P p q (suc (suc x)) h = absurd (not-suc-le-zero (le_of_suc-le-suc (le_of_suc-le-suc h)))

two_pos : 0 < 2
two_pos = lit< tt

differ_assoc : (x y z : ℕ) → x < 2 → y < 2 → z < 2 → differ (x ⊕ y) z ≡ differ x (y ⊕ z)
differ_assoc x y z hx hy hz =
    of_bit (λ x. differ (x ⊕ y) z ≡ differ x (y ⊕ z))
    (of_bit (λ y. differ y z ≡ y ⊕ z) refl (of_bit (λ z. differ 1 z ≡ 1 ⊕ z) refl refl z hz) y hy)
    (of_bit (λ y. differ (1 ⊕ y) z ≡ differ 1 (y ⊕ z)) refl
    (of_bit (λ z. differ (1 ⊕ 1) z ≡ differ 1 (1 ⊕ z)) refl refl z hz) y hy)
    x hx

pub sum_assoc : (a b c : ℕ) → (a ⊕ b) ⊕ c ≡ a ⊕ (b ⊕ c)
sum_assoc =
    bin_ind (λ (n : ℕ). (b c : ℕ) → (n ⊕ b) ⊕ c ≡ n ⊕ (b ⊕ c)) (λ b c. refl)
    (λ n ih b c.
    xor_step (n ⊕ b) c
    ∙ ap₂ (λ (x y : ℕ). x * 2 + y)
    (ap (λ (x : ℕ). x ⊕ (c / 2)) (xor_shr n b 1) ∙ ih (b / 2) (c / 2) ∙ ap (λ (x : ℕ). (n / 2) ⊕ x) (sym (xor_shr b c 1)))
    (ap (λ (x : ℕ). differ x (c % 2)) (xor_mod n b 1)
    ∙ differ_assoc (n % 2) (b % 2) (c % 2) (mod-lt n two_pos) (mod-lt b two_pos) (mod-lt c two_pos)
    ∙ ap (λ (x : ℕ). differ (n % 2) x) (sym (xor_mod b c 1)))
    ∙ sym (xor_step n (b ⊕ c)))

-- what is added twice is gone
pub sum_twice : (a k : ℕ) → (a ⊕ k) ⊕ k ≡ a
sum_twice a k = sum_assoc a k k ∙ ap (λ (x : ℕ). a ⊕ x) (xor_self k) ∙ xor_zero_r a

pub sum_swap : (a b c d : ℕ) → (a ⊕ b) ⊕ (c ⊕ d) ≡ (a ⊕ c) ⊕ (b ⊕ d)
sum_swap a b c d =
    sum_assoc a b (c ⊕ d)
    ∙ ap (λ (x : ℕ). a ⊕ x) (sym (sum_assoc b c d) ∙ ap (λ (x : ℕ). x ⊕ d) (xor_comm b c) ∙ sum_assoc c b d)
    ∙ sym (sum_assoc a c (b ⊕ d))

pub sum_lt : (a b : ℕ) → a < 256 → b < 256 → (a ⊕ b) < 256
sum_lt a b = xor_lt 8 a b

-- ---- the product of a sum

shift_sum : (a b : ℕ) → (a ⊕ b) * 2 ≡ (a * 2) ⊕ (b * 2)
shift_sum a b =
    sym (ap₂ bit_xor (sym (add-zero (a * 2))) (sym (add-zero (b * 2))) ∙ xor_block 1 a b 0 0 two_pos two_pos ∙ add-zero ((a ⊕ b) * 2))

carry_sum : (x y : ℕ) → x < 2 → y < 2 → only_if (x ⊕ y) 0x1b ≡ only_if x 0x1b ⊕ only_if y 0x1b
carry_sum x y hx hy =
    of_bit (λ x. only_if (x ⊕ y) 0x1b ≡ only_if x 0x1b ⊕ only_if y 0x1b) refl
    (of_bit (λ y. only_if (1 ⊕ y) 0x1b ≡ 0x1b ⊕ only_if y 0x1b) refl refl y hy) x hx

top_bit : (a : ℕ) → a < 256 → a / 128 < 2
top_bit a h = omega arith

pub xtime_sum : (a b : ℕ) → a < 256 → b < 256 → xtime (a ⊕ b) ≡ xtime a ⊕ xtime b
unfolding xtime
xtime_sum a b ha hb =
    ap₂ bit_xor (ap (λ (x : ℕ). x % 256) (shift_sum a b) ∙ xor_mod (a * 2) (b * 2) 8)
    (ap (λ (x : ℕ). only_if x 0x1b) (xor_shr a b 7) ∙ carry_sum (a / 128) (b / 128) (top_bit a ha) (top_bit b hb))
    ∙ sum_swap (a * 2 % 256) (b * 2 % 256) (only_if (a / 128) 0x1b) (only_if (b / 128) 0x1b)

pub only_if_lt : (x a : ℕ) → a < 256 → only_if x a < 256
only_if_lt zero a h = lit< tt
only_if_lt (suc x) a h = h

pub xtime_lt : (a : ℕ) → xtime a < 256
unfolding xtime
xtime_lt a = sum_lt (a * 2 % 256) (only_if (a / 128) 0x1b) (mod-lt (a * 2) (lit< tt)) (only_if_lt (a / 128) 0x1b (lit< tt))

add_if_sum : (m s t x y : ℕ) → add_if m (s ⊕ t) (x ⊕ y) ≡ add_if m s x ⊕ add_if m t y
add_if_sum zero s t x y = refl
add_if_sum (suc m) s t x y = sum_swap s t x y

times_sum : (n b s t x y : ℕ) → x < 256 → y < 256 → times n (s ⊕ t) b (x ⊕ y) ≡ times n s b x ⊕ times n t b y
times_sum zero b s t x y hx hy = refl
times_sum (suc n) b s t x y hx hy =
    ap₂ (λ (p q : ℕ). times n p (b / 2) q) (add_if_sum (b % 2) s t x y) (xtime_sum x y hx hy)
    ∙ times_sum n (b / 2) (add_if (b % 2) s x) (add_if (b % 2) t y) (xtime x) (xtime y) (xtime_lt x) (xtime_lt y)

pub product_sum : (m x y : ℕ) → x < 256 → y < 256 → m • (x ⊕ y) ≡ (m • x) ⊕ (m • y)
product_sum m x y hx hy = times_sum 8 m 0 0 x y hx hy

add_if_lt : (m s x : ℕ) → s < 256 → x < 256 → add_if m s x < 256
add_if_lt zero s x hs hx = hs
add_if_lt (suc m) s x hs hx = sum_lt s x hs hx

times_lt : (n s b x : ℕ) → s < 256 → x < 256 → times n s b x < 256
times_lt zero s b x hs hx = hs
times_lt (suc n) s b x hs hx = times_lt n (add_if (b % 2) s x) (b / 2) (xtime x) (add_if_lt (b % 2) s x hs hx) (xtime_lt x)

pub product_lt : (m x : ℕ) → x < 256 → (m • x) < 256
product_lt m x h = times_lt 8 0 m x (lit< tt) h
