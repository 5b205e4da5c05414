-- One operation more: what it does to the books of an open transaction.
use Rattle.wire.specs.Bytes.{laid}
use Rattle.std.specs.Prelude.{ℕ, ◌+◌, Bool, true, false, ◌||◌, List, [], ◌∷◌, ◌++◌, ◌≡◌, refl, ℤ, pos, ◌+ℤ◌, ◌-ℤ◌, neg_ℤ, take, replicate}
use Rattle.std.proofs.Math.Bool.{or-false, or-true, or_assoc}
use Rattle.std.proofs.Common.{true≢false, sym, ◌∙◌, ap, arith, add-zero, take-take}
use Rattle.std.proofs.Math.IntN.{+ℤ_assoc, +ℤ_comm, +ℤ_idr, neg_ℤ-+ℤ}
use Rattle.tables.specs.Choice.{pick}
use Rattle.demands.specs.Books.{Op, paid_in, paid_out, rebooked, entered, cleared, inflow, outflow, is_entry, is_clear, sum, some, value_after, allowance_after, overwritten, entries_after, Books}
use Rattle.demands.specs.Strike.{through, flat}

pub sum_snoc : (f : Op → ℕ) (tx : List Op) (o : Op) → sum f (tx ++ (o ∷ [])) ≡ sum f tx + f o
unfolding sum
sum_snoc f [] o = omega arith
sum_snoc f (x ∷ xs) o = rw (sum_snoc f xs o) (omega arith)

pub some_snoc : (p : Op → Bool) (tx : List Op) (o : Op) → some p (tx ++ (o ∷ [])) ≡ (some p tx || p o)
unfolding some
some_snoc p [] o = or-false (p o)
some_snoc p (x ∷ xs) o = rw (some_snoc p xs o) (sym (or_assoc (p x) (some p xs) (p o)))

pub overwritten_snoc : (e : List ℕ) (tx : List Op) (o : Op) → overwritten e (tx ++ (o ∷ [])) ≡ overwritten (overwritten e tx) (o ∷ [])
unfolding overwritten
overwritten_snoc e [] o = refl
overwritten_snoc e (paid_in n ∷ os) o = overwritten_snoc e os o
overwritten_snoc e (paid_out n ∷ os) o = overwritten_snoc e os o
overwritten_snoc e (rebooked n ∷ os) o = overwritten_snoc e os o
overwritten_snoc e (entered at bytes ∷ os) o = overwritten_snoc (laid e at bytes) os o
overwritten_snoc e (cleared ∷ os) o = overwritten_snoc e os o

pub ruleset one_more = (sum_snoc, some_snoc, overwritten_snoc, add-zero, or-false, or-true)

-- a list with a clear at its end has one
pub has_clear : (tx : List Op) → some is_clear (tx ++ (cleared ∷ [])) ≡ false → ⊥
has_clear tx e = true≢false (sym (simp one_more) ∙ e)

swap : (x y z : ℤ) → x +ℤ y +ℤ z ≡ x +ℤ z +ℤ y
swap x y z = +ℤ_assoc x y z ∙ ap (λ (k : ℤ). x +ℤ k) (+ℤ_comm y z) ∙ sym (+ℤ_assoc x z y)

pub plus : (v : ℤ) (x y a : ℕ) → v +ℤ pos x -ℤ pos y +ℤ pos a ≡ v +ℤ pos (x + a) -ℤ pos y
plus v x y a = swap (v +ℤ pos x) (neg_ℤ (pos y)) (pos a) ∙ ap (λ (k : ℤ). k -ℤ pos y) (+ℤ_assoc v (pos x) (pos a))

pub minus : (v : ℤ) (x y a : ℕ) → v +ℤ pos x -ℤ pos y -ℤ pos a ≡ v +ℤ pos x -ℤ pos (y + a)
minus v x y a = +ℤ_assoc (v +ℤ pos x) (neg_ℤ (pos y)) (neg_ℤ (pos a)) ∙ ap (λ (k : ℤ). v +ℤ pos x +ℤ k) (sym (neg_ℤ-+ℤ (pos y) (pos a)))

pub value_none : (v : ℤ) → v ≡ value_after v []
unfolding value_after sum
value_none v = sym (+ℤ_idr (v +ℤ pos 0) ∙ +ℤ_idr v)

-- ---- transaction by transaction

-- the log's four entries
unfoldable pub log_after : List (List ℕ) → List Op → List (List ℕ)
log_after old tx = pick (some is_clear tx) [] (pick (some is_entry tx) (take 4 (overwritten (replicate 16 0) tx ∷ old)) old)

unfoldable pub balance : Books → List Op → Books
balance b tx = record { value = value_after b.value tx; allowance = allowance_after b.allowance tx; log = log_after b.log tx }

-- ---- the same in one piece

sum_append : (f : Op → ℕ) (a b : List Op) → sum f (a ++ b) ≡ sum f a + sum f b
unfolding sum
sum_append f [] b = omega arith
sum_append f (x ∷ xs) b = rw (sum_append f xs b) (omega arith)

value_append : (v : ℤ) (a b : List Op) → value_after (value_after v a) b ≡ value_after v (a ++ b)
unfolding value_after
value_append v a b =
    rw (sum_append inflow a b, sum_append outflow a b)
    (ap (λ (k : ℤ). k -ℤ pos (sum outflow b)) (plus v (sum inflow a) (sum outflow a) (sum inflow b)) ∙ minus v (sum inflow a + sum inflow b) (sum outflow a) (sum outflow b))

-- the value is one sum over all operations
pub value_sum : (b : Books) (txs : List (List Op)) → (through balance b txs).value ≡ value_after b.value (flat txs)
unfolding through balance flat
value_sum b [] = value_none b.value
value_sum b (tx ∷ txs) = value_sum (balance b tx) txs ∙ value_append b.value tx (flat txs)

pub allowance_through : (b : Books) (txs : List (List Op)) → (through balance b txs).allowance ≡ through allowance_after b.allowance txs
unfolding through balance
allowance_through b [] = refl
allowance_through b (tx ∷ txs) = allowance_through (balance b tx) txs

-- four at a time is the newest four of all
newest_four : (es : List (List ℕ)) (tx : List Op) → log_after (take 4 es) tx ≡ take 4 (entries_after es tx)
unfolding log_after entries_after pick
newest_four es tx = by (some is_clear tx) (some is_entry tx)
  where
    by : (t w : Bool) → pick {A = List (List ℕ)} t [] (pick w (take 4 (overwritten (replicate 16 0) tx ∷ take 4 es)) (take 4 es)) ≡ take 4 (pick t [] (pick w (overwritten (replicate 16 0) tx ∷ es) es))
    by true w = refl
    by false true = ap (λ (l : List (List ℕ)). overwritten (replicate 16 0) tx ∷ l) (take-take 3 4 es (omega arith))
    by false false = refl

pub log_four : (b : Books) (es : List (List ℕ)) (txs : List (List Op)) → b.log ≡ take 4 es → (through balance b txs).log ≡ take 4 (through entries_after es txs)
unfolding through balance
log_four b es [] h = h
log_four b es (tx ∷ txs) h = log_four (balance b tx) (entries_after es tx) txs (ap (λ (l : List (List ℕ)). log_after l tx) h ∙ newest_four es tx)
