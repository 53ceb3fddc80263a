-- Carries and borrows, by comparisons and by highest bits.
use Rattle.std.proofs.Common.{◌≡◌, ℕ, ◌+◌, ◌-◌, ◌/◌, ◌%◌, ◌^◌, min, max, ◌∙◌, arith}
use Rattle.std.specs.Int.{bit_at}
use Rattle.std.proofs.lemmas.Bool.Decides.{nat_tests}
use Rattle.word_ops.specs.Words.{IsWord}
use Rattle.word_ops.specs.Values.{cmpult, addq, subq, not, and, bis, bic, xor, srl}
use Rattle.word_ops.proofs.OperatorBits.{bit_at_bis, bit_at_xor_op}
use Rattle.word_ops.proofs.StoredByte.{bis-lt}
use Rattle.axiom_library.proofs.Extended.{and-lt, bit_of_and}
use Rattle.axiom_library.proofs.Rounded.{addq-lt, bit_of_bic, bic-lt}
use Rattle.axiom_library.proofs.Masks.{highest_bit, xor-lt}

pub by_other : (x y : ℕ) → IsWord x → IsWord y → cmpult (addq x y) x ≡ cmpult (addq x y) y
unfolding cmpult addq
by_other x y h k = grind (arith, nat_tests)

pub by_not : (x y : ℕ) → IsWord x → IsWord y → cmpult (addq x y) x ≡ cmpult (not x) y
unfolding cmpult addq not
by_not x y h k = grind (arith, nat_tests)

-- ---- by highest bits

top : (x : ℕ) → IsWord x → bit_at x 63 ≡ x / 2 ^ 63
top x h = omega arith

carry_out :
    (x y : ℕ) →
    IsWord x →
    IsWord y →
    max (min (x / 2 ^ 63) (y / 2 ^ 63)) (min (max (x / 2 ^ 63) (y / 2 ^ 63)) (1 - addq x y / 2 ^ 63)) ≡ cmpult (addq x y) x
unfolding addq cmpult
carry_out x y h k = grind (arith, nat_tests)

pub by_sum_bits : (x y : ℕ) → IsWord x → IsWord y → srl (bis (and x y) (bic (bis x y) (addq x y))) 63 ≡ cmpult (addq x y) x
by_sum_bits x y h k =
    highest_bit _ (bis-lt _ _ (and-lt x y h) (bic-lt (bis x y) (addq x y) (bis-lt x y h k)))
    ∙ bit_at_bis (and x y) (bic (bis x y) (addq x y)) 63
    ∙ bits
    ∙ carry_out x y h k
  where
    bits : max (bit_at (and x y) 63) (bit_at (bic (bis x y) (addq x y)) 63) ≡ max (min (x / 2 ^ 63) (y / 2 ^ 63)) (min (max (x / 2 ^ 63) (y / 2 ^ 63)) (1 - addq x y / 2 ^ 63))
    bits =
        omega (arith, bit_of_and x y 63, bit_of_bic (bis x y) (addq x y) 63 (addq-lt x y) (omega arith), bit_at_bis x y 63, top x h, top y k, top (addq x y) (addq-lt x y))

subq-lt : (x y : ℕ) → IsWord (subq x y)
unfolding subq
subq-lt x y = omega arith

borrowed :
    (x y : ℕ) →
    IsWord x →
    IsWord y →
    max (min (y / 2 ^ 63) (1 - x / 2 ^ 63)) (min (subq x y / 2 ^ 63) (1 - (x / 2 ^ 63 + y / 2 ^ 63) % 2)) ≡ cmpult x y
unfolding subq cmpult
borrowed x y h k = grind (arith, nat_tests)

pub by_difference_bits : (x y : ℕ) → IsWord x → IsWord y → srl (bis (bic y x) (bic (subq x y) (xor x y))) 63 ≡ cmpult x y
by_difference_bits x y h k =
    highest_bit _ (bis-lt _ _ (bic-lt y x k) (bic-lt (subq x y) (xor x y) (subq-lt x y)))
    ∙ bit_at_bis (bic y x) (bic (subq x y) (xor x y)) 63
    ∙ bits
    ∙ borrowed x y h k
  where
    bits : max (bit_at (bic y x) 63) (bit_at (bic (subq x y) (xor x y)) 63) ≡ max (min (y / 2 ^ 63) (1 - x / 2 ^ 63)) (min (subq x y / 2 ^ 63) (1 - (x / 2 ^ 63 + y / 2 ^ 63) % 2))
    bits =
        omega (arith, bit_of_bic y x 63 h (omega arith), bit_of_bic (subq x y) (xor x y) 63 (xor-lt x y h k) (omega arith), bit_at_xor_op x y 63, top x h, top y k, top (subq x y) (subq-lt x y))
