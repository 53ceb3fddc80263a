-- Laws of the operators bit by bit, and of the test of equality.
use Rattle.std.proofs.Common.{◌≡◌, ℕ, ◌+◌, ◌%◌, min, max, refl, ◌∙◌, arith}
use Rattle.std.specs.Int.{bit_at}
use Rattle.std.proofs.lemmas.Bool.Decides.{nat_tests}
use Rattle.std.proofs.lemmas.Nat.{and_assoc, and_comm, or_comm, xor_comm}
use Rattle.std.proofs.lemmas.Nat.Bits.{bit_at-lt, bit_at_and, bit_at_or, bit_at_xor, same_from_bits, bit_at-zero}
use Rattle.word_ops.specs.Words.{IsWord}
use Rattle.word_ops.specs.Values.{and, bis, xor, bic, ornot, eqv, not, cmpeq}

-- ---- the bits of each

bit_at_and_op : (a b i : ℕ) → bit_at (and a b) i ≡ min (bit_at a i) (bit_at b i)
unfolding and
bit_at_and_op = bit_at_and

bit_at_bis : (a b i : ℕ) → bit_at (bis a b) i ≡ max (bit_at a i) (bit_at b i)
unfolding bis
bit_at_bis = bit_at_or

bit_at_xor_op : (a b i : ℕ) → bit_at (xor a b) i ≡ (bit_at a i + bit_at b i) % 2
unfolding xor
bit_at_xor_op = bit_at_xor

-- ---- and

pub and_is_commutative : (x y : ℕ) → and x y ≡ and y x
unfolding and
and_is_commutative = and_comm

pub and_is_associative : (x y z : ℕ) → and (and x y) z ≡ and x (and y z)
unfolding and
and_is_associative x y z = and_assoc z x y

pub and_of_itself : (x : ℕ) → and x x ≡ x
and_of_itself x = same_from_bits _ _ (λ i. grind (arith, bit_at_and_op))

and_from_0 : (x : ℕ) → and 0 x ≡ 0
and_from_0 x = same_from_bits _ _ (λ i. omega (arith, bit_at_and_op 0 x i, bit_at-zero i))

pub and_of_0 : (x : ℕ) → and x 0 ≡ 0
and_of_0 x = and_is_commutative x 0 ∙ and_from_0 x

-- ---- bis

pub bis_is_commutative : (x y : ℕ) → bis x y ≡ bis y x
unfolding bis
bis_is_commutative = or_comm

pub bis_is_associative : (x y z : ℕ) → bis (bis x y) z ≡ bis x (bis y z)
bis_is_associative x y z = same_from_bits _ _ (λ i. grind (arith, bit_at_bis))

pub bis_of_itself : (x : ℕ) → bis x x ≡ x
bis_of_itself x = same_from_bits _ _ (λ i. grind (arith, bit_at_bis))

pub bis_of_0 : (x : ℕ) → bis x 0 ≡ x
bis_of_0 x = same_from_bits _ _ (λ i. omega (arith, bit_at_bis x 0 i, bit_at-zero i))

-- ---- xor

pub xor_is_commutative : (x y : ℕ) → xor x y ≡ xor y x
unfolding xor
xor_is_commutative = xor_comm

pub xor_is_associative : (x y z : ℕ) → xor (xor x y) z ≡ xor x (xor y z)
xor_is_associative x y z = same_from_bits _ _ (λ i. grind (arith, bit_at_xor_op))

pub xor_of_itself : (x : ℕ) → xor x x ≡ 0
xor_of_itself x = same_from_bits _ _ (λ i. omega (arith, bit_at_xor_op x x i, bit_at-zero i))

pub xor_of_0 : (x : ℕ) → xor x 0 ≡ x
xor_of_0 x = same_from_bits _ _ (λ i. omega (arith, bit_at_xor_op x 0 i, bit_at-zero i, bit_at-lt x i))

-- ---- not, and the operators that take the second operand inverted

pub not_is_ornot_from_0 : (x : ℕ) → not x ≡ ornot 0 x
unfolding not ornot
not_is_ornot_from_0 x = refl

pub not_of_not : (x : ℕ) → IsWord x → not (not x) ≡ x
unfolding not
not_of_not x h = omega arith

pub and_of_not_is_bic : (x y : ℕ) → and x (not y) ≡ bic x y
unfolding and not bic
and_of_not_is_bic x y = refl

pub bis_of_not_is_ornot : (x y : ℕ) → bis x (not y) ≡ ornot x y
unfolding bis not ornot
bis_of_not_is_ornot x y = refl

pub xor_of_not_is_eqv : (x y : ℕ) → xor x (not y) ≡ eqv x y
unfolding xor not eqv
xor_of_not_is_eqv x y = refl

-- ---- cmpeq

pub cmpeq_is_commutative : (x y : ℕ) → cmpeq x y ≡ cmpeq y x
unfolding cmpeq
cmpeq_is_commutative x y = grind (arith, nat_tests)
