-- A word of bytes that are 255 or 0, and the bits that say which.
use Rattle.std.proofs.Common.{◌≡◌, ◌≢◌, ℕ, zero, suc, ◌+◌, ◌-◌, ◌*◌, ◌/◌, ◌%◌, ◌^◌, ◌<◌, min, sym, ap, subst, ◌∙◌, arith, bit_and, ⊎_elim}
use Rattle.std.specs.Int.{bit_at}
use Rattle.std.proofs.lemmas.Bool.{cases_lt}
use Rattle.std.proofs.lemmas.Nat.{shr-shr, shr_split, and_le_r, pow-add}
use Rattle.std.proofs.lemmas.Nat.Bits.{bit_at-lt, bit_at-zero, bit_at_ones, bit_at_and, same_from_bits_below, bit_at_cat_low, bit_at_cat_high, bit_at_above}
use Rattle.std.proofs.Math.Pow.{pow-lt}
use Rattle.word_ops.specs.Words.{IsWord}
use Rattle.word_ops.specs.Values.{byte, byte_mask, and, zapnot}
use Rattle.axiom_base.specs.Conditions.{IsByteMask}
use Rattle.axiom_base.proofs.Logic.{and_is_commutative}

-- the bits of a byte that is 255 or 0
bit_at_full : (d k : ℕ) → d < 2 → k < 8 → bit_at (255 * d) k ≡ d
bit_at_full zero k l h = bit_at-zero k
bit_at_full (suc zero) k l h = bit_at_ones 8 k h
bit_at_full (suc (suc d)) k l h = absurd (omega arith)

bit_at_mod_low : (a k i : ℕ) → i < k → bit_at (a % 2 ^ k) i ≡ bit_at a i
bit_at_mod_low a k i h = sym (bit_at_cat_low (a / 2 ^ k) k (a % 2 ^ k) i h) ∙ ap (λ x. bit_at x i) (shr_split a k)

bit_at_shr : (a k i : ℕ) → bit_at (a / 2 ^ k) i ≡ bit_at a (k + i)
bit_at_shr a k i = ap (λ x. x % 2) (shr-shr a k i)

bit_of_byte : (c i k : ℕ) → k < 8 → bit_at (byte c i) k ≡ bit_at c (8 * i + k)
bit_of_byte c i k h = bit_at_mod_low (c / 2 ^ (8 * i)) 8 k h ∙ bit_at_shr c (8 * i) k

bit_of_mask : (c e i : ℕ) → IsByteMask c e → i < 64 → bit_at c i ≡ bit_at e (i / 8)
bit_of_mask c e i h l =
    (let p : i ≡ 8 * (i / 8) + i % 8 = omega arith in ap (bit_at c) p)
    ∙ sym (bit_of_byte c (i / 8) (i % 8) (omega arith))
    ∙ ap (λ n. bit_at n (i % 8)) (h.1 (i / 8) (omega arith))
    ∙ bit_at_full (bit_at e (i / 8)) (i % 8) (bit_at-lt e (i / 8)) (omega arith)

bit_of_and : (a b i : ℕ) → bit_at (and a b) i ≡ min (bit_at a i) (bit_at b i)
unfolding and
bit_of_and = bit_at_and

bit_of_zapnot : (a b i : ℕ) → bit_at (zapnot a b) i ≡ min (bit_at a i) (bit_at (byte_mask b) i)
unfolding zapnot
bit_of_zapnot a b i = bit_at_and a (byte_mask b) i

and_in_range : (a b : ℕ) → IsWord a → IsWord (and a b)
unfolding and
and_in_range a b h = let p : bit_and b a ≡ bit_and a b = and_is_commutative b a in omega (arith, and_le_r b a, p)

zapnot_is_and : (a b : ℕ) → zapnot a b ≡ and a (byte_mask b)
unfolding zapnot and
zapnot_is_and a b = λ i. bit_and a (byte_mask b)

pub and_is_zapnot : ((mask i : ℕ) → i < 64 → bit_at (byte_mask mask) i ≡ bit_at mask (i / 8)) → (x c e : ℕ) → IsWord x → IsByteMask c e → and x c ≡ zapnot x e
and_is_zapnot bits x c e f h =
    same_from_bits_below 64 (and x c) (zapnot x e) (and_in_range x c f) (subst IsWord (sym (zapnot_is_and x e)) (and_in_range x (byte_mask e) f)) (λ i l.
    bit_of_and x c i ∙ ap (min (bit_at x i)) (bit_of_mask c e i h l ∙ sym (bits e i l)) ∙ sym (bit_of_zapnot x e i))

-- at most one number says which bytes are 255
pub one_byte_mask : (c e other : ℕ) → IsByteMask c e → IsByteMask c other → e ≡ other
one_byte_mask c e other h k = same_from_bits_below 8 e other h.0 k.0 (λ i l. let p = h.1 i l in let q = k.1 i l in omega (arith, p, q))

-- ---- byte by byte

-- the bits of the bytes so far
pub record MasksBelow (c e end : ℕ) : Type 0 where
  pub below : e < 2 ^ end
  pub bytes : (i : ℕ) → i < end → byte c i ≡ 255 * bit_at e i

pub masks_none : (c : ℕ) → MasksBelow c 0 0
masks_none c = record { below = omega arith; bytes = λ i l. absurd (omega arith) }

pub masks_empty : (c e i : ℕ) → MasksBelow c e i → byte c i ≡ 0 → MasksBelow c e (i + 1)
masks_empty c e i h is = record {
  below = let p : 2 ^ i < 2 ^ (i + 1) = pow-lt (omega arith) in let b = h.below in omega (arith, p, b);
  bytes = λ k l. ⊎_elim
      (λ m. h.bytes k m)
      (λ m. let p : k ≡ i = omega arith in let z = bit_at_above e i i h.below (omega arith) in
      subst (λ n. byte c n ≡ 255 * bit_at e n) (sym p) (omega (arith, is, z)))
      (cases_lt k i);
}

pub masks_full : (c e i : ℕ) → MasksBelow c e i → byte c i ≡ 255 → MasksBelow c (1 * 2 ^ i + e) (i + 1)
masks_full c e i h is = record {
  below = let p : 2 ^ (i + 1) ≡ 2 ^ i + 2 ^ i = doubled i in let b = h.below in omega (arith, p, b);
  bytes = λ k l. ⊎_elim
      (λ m. h.bytes k m ∙ ap (λ n. 255 * n) (sym (bit_at_cat_low 1 i e k m)))
      (λ m. let p : k ≡ i = omega arith in
      let o : bit_at (1 * 2 ^ i + e) i ≡ 1 = bit_at_cat_high 1 i e i h.below (omega arith) ∙ (let z : i - i ≡ 0 = omega arith in ap (bit_at 1) z) in
      subst (λ n. byte c n ≡ 255 * bit_at (1 * 2 ^ i + e) n) (sym p) (omega (arith, is, o)))
      (cases_lt k i);
}
  where
    doubled : (i : ℕ) → 2 ^ (i + 1) ≡ 2 ^ i + 2 ^ i
    doubled i = omega (arith, pow-add 2 i 1)

pub masks_all : (c e : ℕ) → MasksBelow c e 8 → IsByteMask c e
masks_all c e h = (h.below, h.bytes)

pub no_mask : (c i : ℕ) → i < 8 → byte c i ≢ 0 → byte c i ≢ 255 → (e : ℕ) → IsByteMask c e → ⊥
no_mask c i l a b e h =
    let p = h.1 i l in
    let q = bit_at-lt e i in
    ⊎_elim
    (λ m. let z : byte c i ≡ 0 = omega (arith, p, m) in a z)
    (λ m. let z : byte c i ≡ 255 = omega (arith, p, q, m) in b z)
    (cases_lt (bit_at e i) 1)
