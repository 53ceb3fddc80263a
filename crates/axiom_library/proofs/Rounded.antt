-- Rounding to a multiple of a power of 2.
use Rattle.std.proofs.Common.{◌≡◌, ℕ, ◌+◌, ◌-◌, ◌%◌, ◌^◌, ◌<◌, min, refl, sym, ap, ◌∙◌, arith, ⊎_elim, bit_and, bit_or}
use Rattle.std.specs.Int.{bit_at}
use Rattle.std.specs.Int.Bits.{or_add_and}
use Rattle.std.proofs.lemmas.Bool.{cases_lt}
use Rattle.std.proofs.lemmas.Nat.{and_mask, and_le_l, or_lt, pow_below, pow_pos}
use Rattle.std.proofs.lemmas.Nat.Bits.{bit_at-lt, bit_at-zero, bit_at_and, bit_at_or, bit_at_ones, bit_at_ones_above}
use Rattle.word_ops.specs.Words.{IsWord}
use Rattle.word_ops.specs.Values.{addq, subq, neg, and, bic, not, sll, srl}
use Rattle.word_ops.proofs.WordBits.{same_word}
use Rattle.word_ops.proofs.OperatorBits.{bit_at_sll_low, bit_at_sll_high, bit_at_srl, bit_at_not_op, sll-lt}
use Rattle.axiom_library.proofs.Extended.{and-lt, bit_of_and}

-- ---- shifted there and back

ones : (y : ℕ) → subq (sll 1 y) 1 ≡ 2 ^ (y % 64) - 1
unfolding subq sll
ones y = let p = pow_pos (y % 64) in let l : 2 ^ (y % 64) < 2 ^ 64 = pow_below (y % 64) 64 (omega arith) in omega (arith, p, l)

ones-lt : (y : ℕ) → IsWord (2 ^ (y % 64) - 1)
ones-lt y = let l : 2 ^ (y % 64) < 2 ^ 64 = pow_below (y % 64) 64 (omega arith) in omega (arith, l)

pub sll_of_srl : (x y : ℕ) → IsWord x → sll (srl x y) y ≡ and x (not (subq (sll 1 y) 1))
sll_of_srl x y h = ap_mask ∙ ap (λ m. and x (not m)) (sym (ones y))
  where
    mask : (i : ℕ) → i < 64 → bit_at (and x (not (2 ^ (y % 64) - 1))) i ≡ min (bit_at x i) (1 - bit_at (2 ^ (y % 64) - 1) i)
    mask i l = bit_of_and x _ i ∙ ap (min (bit_at x i)) (bit_at_not_op (2 ^ (y % 64) - 1) i (ones-lt y) l)

    ap_mask : sll (srl x y) y ≡ and x (not (2 ^ (y % 64) - 1))
    ap_mask = same_word _ _ (sll-lt _ y) (and-lt x _ h) (λ i l. ⊎_elim
        (λ m. omega (arith, bit_at_sll_low (srl x y) y i l m, mask i l, bit_at_ones (y % 64) i m))
        (λ m. let up = bit_at_sll_high (srl x y) y i l m in
        let down = bit_at_srl x y (i - y % 64) in
        let place : y % 64 + (i - y % 64) ≡ i = omega arith in
        let back = ap (bit_at x) place in
        omega (arith, up, down, back, mask i l, bit_at_ones_above (y % 64) i m, bit_at-lt x i))
        (cases_lt i (y % 64)))

-- ---- less a part of its own bits

pub bic_is_and : (a b : ℕ) → bic a b ≡ and a (not b)
unfolding bic and not
bic_is_and a b = refl

pub bit_of_bic : (a b i : ℕ) → IsWord b → i < 64 → bit_at (bic a b) i ≡ min (bit_at a i) (1 - bit_at b i)
bit_of_bic a b i h l = ap (λ n. bit_at n i) (bic_is_and a b) ∙ bit_of_and a (not b) i ∙ ap (min (bit_at a i)) (bit_at_not_op b i h l)

pub bic-lt : (a b : ℕ) → IsWord a → IsWord (bic a b)
unfolding bic
bic-lt a b h = omega (arith, and_le_l a (2 ^ 64 - 1 - b))

-- the bits that are in y and those that aren't
pub in_two : (x y : ℕ) → IsWord x → IsWord y → and x y + bic x y ≡ x
in_two x y h k =
    let none : bit_and (and x y) (bic x y) ≡ 0 = same_word _ 0 (let b = and_le_l (and x y) (bic x y) in let c = and-lt x y h in omega (arith, b, c)) (omega arith) (λ i l.
    omega (arith, bit_at_and (and x y) (bic x y) i, bit_of_and x y i, bit_of_bic x y i k l, bit_at-lt y i, bit_at-zero i)) in
    let all : bit_or (and x y) (bic x y) ≡ x = same_word _ x (or_lt 64 (and x y) (bic x y) (and-lt x y h) (bic-lt x y h)) h (λ i l.
    omega (arith, bit_at_or (and x y) (bic x y) i, bit_of_and x y i, bit_of_bic x y i k l, bit_at-lt y i, bit_at-lt x i)) in
    omega (arith, or_add_and (and x y) (bic x y), none, all)

pub less_its_bits : (x y : ℕ) → IsWord x → IsWord y → subq x (and x y) ≡ bic x y
unfolding subq
less_its_bits x y h k = omega (arith, in_two x y h k, and-lt x y h, bic-lt x y h)

-- ---- rounded up

pub addq-lt : (x y : ℕ) → IsWord (addq x y)
unfolding addq
addq-lt x y = omega arith

and_low : (x k : ℕ) → and x (2 ^ k - 1) ≡ x % 2 ^ k
unfolding and
and_low = and_mask

-- what is taken from x + m, where m is one less than the modulus
rounded_to_4 :
    (x : ℕ) →
    IsWord x →
    and (addq x 3) 3 + bic (addq x 3) 3 ≡ addq x 3 →
    and (addq x 3) 3 ≡ addq x 3 % 4 →
    and (neg x) 3 ≡ neg x % 4 →
    addq x (and (neg x) 3) ≡ bic (addq x 3) 3
unfolding addq neg
rounded_to_4 x h parts rest low = omega (arith, parts, rest, low)

pub up_to_4 : (x : ℕ) → IsWord x → addq x (and (neg x) 3) ≡ bic (addq x 3) 3
up_to_4 x h =
    rounded_to_4 x h (in_two (addq x 3) 3 (addq-lt x 3) (omega arith)) (and_low (addq x 3) 2) (and_low (neg x) 2)

rounded_to_8 :
    (x : ℕ) →
    IsWord x →
    and (addq x 7) 7 + bic (addq x 7) 7 ≡ addq x 7 →
    and (addq x 7) 7 ≡ addq x 7 % 8 →
    and (neg x) 7 ≡ neg x % 8 →
    addq x (and (neg x) 7) ≡ bic (addq x 7) 7
unfolding addq neg
rounded_to_8 x h parts rest low = omega (arith, parts, rest, low)

pub up_to_8 : (x : ℕ) → IsWord x → addq x (and (neg x) 7) ≡ bic (addq x 7) 7
up_to_8 x h =
    rounded_to_8 x h (in_two (addq x 7) 7 (addq-lt x 7) (omega arith)) (and_low (addq x 7) 3) (and_low (neg x) 3)

rounded_to_16 :
    (x : ℕ) →
    IsWord x →
    and (addq x 15) 15 + bic (addq x 15) 15 ≡ addq x 15 →
    and (addq x 15) 15 ≡ addq x 15 % 16 →
    and (neg x) 15 ≡ neg x % 16 →
    addq x (and (neg x) 15) ≡ bic (addq x 15) 15
unfolding addq neg
rounded_to_16 x h parts rest low = omega (arith, parts, rest, low)

pub up_to_16 : (x : ℕ) → IsWord x → addq x (and (neg x) 15) ≡ bic (addq x 15) 15
up_to_16 x h =
    rounded_to_16 x h (in_two (addq x 15) 15 (addq-lt x 15) (omega arith)) (and_low (addq x 15) 4) (and_low (neg x) 4)
