-- Laws of shifts: by 0, and by a few bits to the left as sums and scaled sums.
use Rattle.std.proofs.Common.{◌≡◌, ℕ, sym, arith}
use Rattle.word_ops.specs.Words.{IsWord}
use Rattle.word_ops.specs.Values.{addq, subq, sll, srl, s4addq, s8addq, s4subq, s8subq}

pub addq_of_itself_is_sll : (x : ℕ) → addq x x ≡ sll x 1
unfolding addq sll
addq_of_itself_is_sll x = omega arith

pub sll_by_1_is_addq : (x : ℕ) → sll x 1 ≡ addq x x
sll_by_1_is_addq x = sym (addq_of_itself_is_sll x)

pub sll_by_0 : (x : ℕ) → IsWord x → sll x 0 ≡ x
unfolding sll
sll_by_0 x h = omega arith

pub srl_by_0 : (x : ℕ) → srl x 0 ≡ x
unfolding srl
srl_by_0 x = omega arith

pub addq_of_sll_is_s4addq : (x y : ℕ) → addq (sll x 2) y ≡ s4addq x y
unfolding addq sll s4addq
addq_of_sll_is_s4addq x y = omega arith

pub addq_of_sll_is_s8addq : (x y : ℕ) → addq (sll x 3) y ≡ s8addq x y
unfolding addq sll s8addq
addq_of_sll_is_s8addq x y = omega arith

pub subq_of_sll_is_s4subq : (x y : ℕ) → subq (sll x 2) y ≡ s4subq x y
unfolding subq sll s4subq
subq_of_sll_is_s4subq x y = omega arith

pub subq_of_sll_is_s8subq : (x y : ℕ) → subq (sll x 3) y ≡ s8subq x y
unfolding subq sll s8subq
subq_of_sll_is_s8subq x y = omega arith
