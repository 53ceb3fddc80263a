-- Comparisons as masks, and words chosen by a mask.
use Rattle.std.proofs.Common.{◌≡◌, ℕ, zero, suc, Bool, true, false, not as negated, ◌+◌, ◌%◌, ◌<◌, min, sym, ap, ◌∙◌, arith}
use Rattle.std.specs.Prelude.{nat_lt, nat_le}
use Rattle.std.specs.Int.{bit_at, cast_signed, w64}
use Rattle.std.proofs.lemmas.Nat.{xor_lt}
use Rattle.std.proofs.lemmas.Nat.Bits.{bit_at-lt, bit_at-zero, bit_at_ones}
use Rattle.word_ops.specs.Words.{IsWord}
use Rattle.word_ops.specs.Values.{flag, cmpult, cmpule, cmplt, cmple, subq, neg, not, and, bis, bic, xor, sra, srl}
use Rattle.word_ops.proofs.WordBits.{same_word}
use Rattle.word_ops.proofs.OperatorBits.{bit_at_sra, bit_at_bis, bit_at_xor_op, sra-lt}
use Rattle.word_ops.proofs.StoredByte.{bis-lt}
use Rattle.axiom_library.proofs.Compared.{up_to_or_not, at_most_or_not, srl_63}
use Rattle.axiom_library.proofs.Extended.{and-lt, bit_of_and}
use Rattle.axiom_library.proofs.Rounded.{bic_is_and, bit_of_bic, bic-lt}

-- ---- a test as a mask

less_1 : (s t : Bool) → s ≡ negated t → neg (flag t) ≡ subq (flag s) 1
unfolding neg subq
less_1 s true e = sym (ap (λ b. subq (flag b) 1) e)
less_1 s false e = sym (ap (λ b. subq (flag b) 1) e)

pub neg_cmpult : (x y : ℕ) → neg (cmpult x y) ≡ subq (cmpule y x) 1
unfolding cmpult cmpule
neg_cmpult x y = less_1 (nat_le y x) (nat_lt x y) (up_to_or_not y x)

pub neg_cmplt : (x y : ℕ) → neg (cmplt x y) ≡ subq (cmple y x) 1
unfolding cmplt cmple
neg_cmplt x y = less_1 _ _ (at_most_or_not (cast_signed w64 y) (cast_signed w64 x))

-- ---- the sign in each bit

neg_of_bit : (b i : ℕ) → b < 2 → i < 64 → bit_at (neg b) i ≡ b
unfolding neg
neg_of_bit zero i h l = bit_at-zero i
neg_of_bit (suc zero) i h l = bit_at_ones 64 i l
neg_of_bit (suc (suc b)) i h l = absurd (omega arith)

neg-lt : (a : ℕ) → IsWord (neg a)
unfolding neg
neg-lt a = omega arith

pub highest_bit : (x : ℕ) → IsWord x → srl x 63 ≡ bit_at x 63
unfolding srl
highest_bit x h = omega arith

sign_in_each : (x : ℕ) → IsWord x → sra x 63 ≡ neg (bit_at x 63)
sign_in_each x h = same_word _ _ (sra-lt x 63) (neg-lt (bit_at x 63)) (λ i l.
    let last : min (i + 63 % 64) 63 ≡ 63 = omega arith in
    bit_at_sra x 63 i l ∙ ap (bit_at x) last ∙ sym (neg_of_bit (bit_at x 63) i (bit_at-lt x 63) l))

pub negative_mask : (x : ℕ) → IsWord x → neg (cmplt x 0) ≡ sra x 63
negative_mask x h = ap neg (sym (srl_63 x h) ∙ highest_bit x h) ∙ sym (sign_in_each x h)

pub negative_mask_less_1 : (x : ℕ) → IsWord x → subq (cmple 0 x) 1 ≡ sra x 63
negative_mask_less_1 x h = sym (neg_cmplt x 0) ∙ negative_mask x h

-- ---- words chosen

pub xor-lt : (a b : ℕ) → IsWord a → IsWord b → IsWord (xor a b)
unfolding xor
xor-lt = xor_lt 64

pub chosen : (x y m : ℕ) → IsWord x → IsWord y → IsWord m → bis (and x m) (bic y m) ≡ xor y (and (xor x y) m)
chosen x y m h k n =
    same_word _ _ (bis-lt _ _ (and-lt x m h) (bic-lt y m k)) (xor-lt _ _ k (and-lt (xor x y) m (xor-lt x y h k))) (λ i l.
    let left = bit_at_bis (and x m) (bic y m) i in
    let right = bit_at_xor_op y (and (xor x y) m) i in
    omega (arith, left, right, bit_of_and x m i, bit_of_bic y m i n l, bit_of_and (xor x y) m i, bit_at_xor_op x y i, bit_at-lt x i, bit_at-lt y i, bit_at-lt m i))

other_mask : (s t : Bool) → s ≡ negated t → neg (flag s) ≡ not (neg (flag t))
unfolding neg not
other_mask s true e = ap (λ b. neg (flag b)) e
other_mask s false e = ap (λ b. neg (flag b)) e

at_least_0 : (x : ℕ) → neg (cmple 0 x) ≡ not (neg (cmplt x 0))
unfolding cmple cmplt
at_least_0 x = other_mask _ _ (at_most_or_not (cast_signed w64 0) (cast_signed w64 x))

pub not_below_0 : (x : ℕ) → IsWord x → and x (neg (cmple 0 x)) ≡ bic x (sra x 63)
not_below_0 x h = ap (and x) (at_least_0 x ∙ ap not (negative_mask x h)) ∙ sym (bic_is_and x (sra x 63))
