-- Shifts there and back, and extensions by the sign's bit.
use Rattle.std.proofs.Common.{◌≡◌, ℕ, ◌+◌, ◌-◌, ◌*◌, ◌%◌, ◌^◌, ◌<◌, min, refl, sym, ap, ◌∙◌, arith, ⊎_elim, bit_xor}
use Rattle.std.specs.Int.{bit_at}
use Rattle.std.specs.Int.Bits.{xor_add_and}
use Rattle.std.proofs.lemmas.Bool.{cases_lt}
use Rattle.std.proofs.lemmas.Bool.Decides.{nat_tests}
use Rattle.std.proofs.lemmas.Nat.{and_mask, and_le_l}
use Rattle.std.proofs.lemmas.Nat.Bits.{bit_at-lt, bit_at-zero, bit_at_and, bit_at_above, and_pow}
use Rattle.word_ops.specs.Words.{IsWord}
use Rattle.word_ops.specs.Values.{addq, subq, and, xor, not, sll, srl, sra, sextb, sextw, sign_extended}
use Rattle.word_ops.proofs.WordBits.{same_word, bit_at_mod_low}
use Rattle.word_ops.proofs.OperatorBits.{bit_at_sll_high, bit_at_srl, bit_at_sra, bit_at_sign_extended, bit_at_not_op, sll-lt, srl-lt, sra-lt, sign_extended-lt}

pub and-lt : (a b : ℕ) → IsWord a → IsWord (and a b)
unfolding and
and-lt a b h = omega (arith, and_le_l a b)

pub bit_of_and : (a b i : ℕ) → bit_at (and a b) i ≡ min (bit_at a i) (bit_at b i)
unfolding and
bit_of_and = bit_at_and

pub not-lt : (a : ℕ) → IsWord (not a)
unfolding not
not-lt a = omega arith

-- ---- zeros

pub srl_of_sll : (x y : ℕ) → IsWord x → srl (sll x y) y ≡ and x (srl (not 0) y)
srl_of_sll x y h = same_word _ _ (srl-lt _ y (sll-lt x y)) (and-lt x _ h) (λ i l.
    bit_at_srl (sll x y) y i ∙ sym (bit_of_and x (srl (not 0) y) i ∙ ap (min (bit_at x i)) (bit_at_srl (not 0) y i) ∙ same i l))
  where
    same : (i : ℕ) → i < 64 → min (bit_at x i) (bit_at (not 0) (y % 64 + i)) ≡ bit_at (sll x y) (y % 64 + i)
    same i l = ⊎_elim
        (λ m. let shifted = bit_at_sll_high x y (y % 64 + i) m (omega arith) in
        let place : y % 64 + i - y % 64 ≡ i = omega arith in
        let back = ap (bit_at x) place in
        let ones = bit_at_not_op 0 (y % 64 + i) (omega arith) m in
        let zero = bit_at-zero (y % 64 + i) in
        omega (arith, shifted, back, ones, zero, bit_at-lt x i))
        (λ m. let above = bit_at_above (sll x y) 64 (y % 64 + i) (sll-lt x y) m in
        let ones_above = bit_at_above (not 0) 64 (y % 64 + i) (not-lt 0) m in
        omega (arith, above, ones_above))
        (cases_lt (y % 64 + i) 64)

-- ---- the sign of the low half

addq_of_0 : (x : ℕ) → IsWord x → addq x 0 ≡ x
unfolding addq
addq_of_0 x h = omega arith

pub sra_of_sll_is_addl : (x : ℕ) → IsWord x → sra (sll x 32) 32 ≡ sign_extended 32 (addq x 0)
sra_of_sll_is_addl x h = same_word _ _ (sra-lt _ 32) (sign_extended-lt 32 _ (omega arith)) (λ i l.
    bit_at_sra (sll x 32) 32 i l ∙ bit_at_sll_high x 32 (min (i + 32) 63) (omega arith) (omega arith)
    ∙ ap (bit_at x) (omega arith)
    ∙ sym (bit_at_sign_extended 31 (addq x 0) i (omega arith) l ∙ ap (λ n. bit_at n (min i 31)) (addq_of_0 x h)))

-- ---- by the sign's bit

and_low : (x k : ℕ) → and x (2 ^ k - 1) ≡ x % 2 ^ k
unfolding and
and_low = and_mask

-- a bit of n changed
one_changed : (n k : ℕ) → xor n (2 ^ k) + bit_at n k * 2 ^ k * 2 ≡ n + 2 ^ k
unfolding xor
one_changed n k = ap (λ b. bit_xor n (2 ^ k) + b * 2) (sym (and_pow n k)) ∙ xor_add_and n (2 ^ k)

byte_less : (x n : ℕ) → xor (x % 256) 128 ≡ n → n + bit_at x 7 * 128 * 2 ≡ x % 256 + 128 → subq n 128 ≡ sign_extended 8 x
unfolding subq sign_extended
byte_less x n e summed = grind (arith, nat_tests, summed, bit_at-lt x 7)

pub by_sign_of_byte : (x : ℕ) → subq (xor (and x 255) 128) 128 ≡ sextb x
unfolding sextb
by_sign_of_byte x =
    ap (λ n. subq (xor n 128) 128) (and_low x 8)
    ∙ byte_less x (xor (x % 256) 128) refl
    (ap (λ b. xor (x % 256) 128 + b * 128 * 2) (sym (bit_at_mod_low x 8 7 (omega arith))) ∙ one_changed (x % 256) 7)

word_less : (x n : ℕ) → xor (x % 65536) 32768 ≡ n → n + bit_at x 15 * 32768 * 2 ≡ x % 65536 + 32768 → subq n 32768 ≡ sign_extended 16 x
unfolding subq sign_extended
word_less x n e summed = grind (arith, nat_tests, summed, bit_at-lt x 15)

pub by_sign_of_word : (x : ℕ) → subq (xor (and x 65535) 32768) 32768 ≡ sextw x
unfolding sextw
by_sign_of_word x =
    ap (λ n. subq (xor n 32768) 32768) (and_low x 16)
    ∙ word_less x (xor (x % 65536) 32768) refl
    (ap (λ b. xor (x % 65536) 32768 + b * 32768 * 2) (sym (bit_at_mod_low x 16 15 (omega arith))) ∙ one_changed (x % 65536) 15)
