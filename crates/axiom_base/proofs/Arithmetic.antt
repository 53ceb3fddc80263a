-- Laws of sums, differences and products modulo 2 ^ 64.
use Rattle.std.proofs.Common.{◌≡◌, ℕ, ◌*◌, ◌/◌, ◌%◌, ◌^◌, sym, ap, ◌∙◌, arith}
use Rattle.std.proofs.lemmas.Nat.{mul-mod_first, mul-mod_second}
use Rattle.std.proofs.Math.Nat.{mul_assoc, mul_comm}
use Rattle.word_ops.specs.Words.{IsWord}
use Rattle.word_ops.specs.Values.{addq, subq, mulq, neg, umulh}

-- ---- sums and differences

pub addq_is_commutative : (x y : ℕ) → addq x y ≡ addq y x
unfolding addq
addq_is_commutative x y = omega arith

pub addq_is_associative : (x y z : ℕ) → addq (addq x y) z ≡ addq x (addq y z)
unfolding addq
addq_is_associative x y z = omega arith

pub addq_of_0 : (x : ℕ) → IsWord x → addq x 0 ≡ x
unfolding addq
addq_of_0 x h = omega arith

pub subq_is_addq_of_neg : (x y : ℕ) → subq x y ≡ addq x (neg y)
unfolding addq subq neg
subq_is_addq_of_neg x y = omega arith

pub addq_of_neg_is_subq : (x y : ℕ) → addq x (neg y) ≡ subq x y
addq_of_neg_is_subq x y = sym (subq_is_addq_of_neg x y)

pub neg_is_subq_from_0 : (x : ℕ) → IsWord x → neg x ≡ subq 0 x
unfolding neg subq
neg_is_subq_from_0 x h = omega arith

pub subq_of_itself : (x : ℕ) → IsWord x → subq x x ≡ 0
unfolding subq
subq_of_itself x h = omega arith

pub subq_of_0 : (x : ℕ) → IsWord x → subq x 0 ≡ x
unfolding subq
subq_of_0 x h = omega arith

pub neg_of_neg : (x : ℕ) → IsWord x → neg (neg x) ≡ x
unfolding neg
neg_of_neg x h = omega arith

-- ---- products

pub mulq_is_commutative : (x y : ℕ) → mulq x y ≡ mulq y x
unfolding mulq
mulq_is_commutative x y = omega arith

pub mulq_is_associative : (x y z : ℕ) → mulq (mulq x y) z ≡ mulq x (mulq y z)
unfolding mulq
mulq_is_associative x y z =
    mul-mod_first (x * y) z (2 ^ 64) ∙ ap (λ n. n % 2 ^ 64) (mul_assoc x y z) ∙ sym (mul-mod_second x (y * z) (2 ^ 64))

pub mulq_by_1 : (x : ℕ) → IsWord x → mulq x 1 ≡ x
unfolding mulq
mulq_by_1 x h = omega arith

pub mulq_by_0 : (x : ℕ) → mulq x 0 ≡ 0
unfolding mulq
mulq_by_0 x = omega arith

pub umulh_is_commutative : (x y : ℕ) → umulh x y ≡ umulh y x
unfolding umulh
umulh_is_commutative x y = ap (λ n. n / 2 ^ 64) (mul_comm x y)
