-- Where rows are true, what they show of a class is so.
use Rattle.std.proofs.Common.{◌≡◌, ℕ, ◌+◌, ◌-◌, ◌*◌, ◌/◌, ◌%◌, ◌^◌, ◌<◌, ◌≤◌, List, [], ◌∷◌, refl, sym, ◌∙◌, ap, subst, inl, inr, ◌⊎◌, arith, Bool, true, false, cond, Option, Some, None, min, max, map}
use Rattle.std.specs.Prelude.{◌==◌, bit_and, IfSome}
use Rattle.std.specs.Int.{bit_at}
use Rattle.std.proofs.lemmas.Bool.{cases_lt}
use Rattle.std.proofs.lemmas.Bool.Decides.{eqb_tells}
use Rattle.std.proofs.lemmas.Nat.{and_comm}
use Rattle.word_ops.specs.Worlds.{World, Value, word}
use Rattle.word_ops.specs.Meanings.{meaning, as_word}
use Rattle.word_ops.specs.Operators.{operate_value, value_at}
use Rattle.word_ops.specs.Values.{addq, subq, mulq, neg, s4addq, s8addq, s4subq, s8subq, sign_extended, and, bis, xor, bic, sll, zap, zapnot, byte_mask, lda, ldah}
use Rattle.word_ops.specs.declared.operates.Operate.{Operate as OperateOf}
use Rattle.word_ops.specs.declared.operates.Operate.TheVariants.{Addq, Subq, And, Bic, Bis, Xor, Zap, Zapnot, Sll, S4addq, S4subq, S8addq, S8subq, Mulq}
use Rattle.word_ops.specs.declared.operators.WordOp.{WordOp}
use Rattle.word_ops.specs.declared.operators.WordOp.TheVariants.{Operate, Neg, Lda, Ldah}
use Rattle.word_ops.specs.declared.sorts.Op.{Op}
use Rattle.word_ops.specs.declared.sorts.Op.TheVariants.{Constant, Word}
use Rattle.graph_meaning.specs.Graphs.{constant_among, AreTrueRows, IsTrueRow}
use Rattle.graph_meaning.specs.Multiples.{low_zeros, low_ones, operate_multiple, pair_multiple, HasRow, IsShown}
use Rattle.graph_meaning.specs.Multiples.IsShown.{by_nothing, by_constant, by_negation, by_operands, by_mask, by_mask_before}
use Rattle.graph_meaning.specs.declared.graphs.LaunchRow.{LaunchRow}
use Rattle.graph_meaning.proofs.Classes.{constant_row}
use Rattle.graph_meaning.proofs.Values.{constant_means}
use Rattle.graph_meaning.proofs.Shown.{at_row, few}
use Rattle.graph_meaning.proofs.Factors.{IsTimes, Four, four, times_of, lower, product, word_times, sum_times, negative_times, and_left, and_right, or_times, xor_times, zeros_times, inverted_times, masked_times}

pub one_times : (v : ℕ) → IsTimes 0 v
one_times v = omega arith

-- ---- sums

pub add_times : (a b v w : ℕ) → b ≤ 3 → IsTimes a v → IsTimes b w → IsTimes (min a b) ((v + w) % 2 ^ 64)
add_times a b v w m h g =
    let n : min a b ≤ 3 = omega arith in
    word_times (min a b) (v + w) n
    (sum_times (min a b) v w n (lower v a (min a b) (omega arith) h) (lower w b (min a b) (omega arith) g))

subtract_times : (a b v w : ℕ) → b ≤ 3 → IsTimes a v → IsTimes b w → IsTimes (min a b) ((v + (2 ^ 64 - w)) % 2 ^ 64)
subtract_times a b v w m h g = add_times a b v (2 ^ 64 - w) m h (negative_times b w m g)

scaled_by_4 : (a v : ℕ) → IsTimes a v → IsTimes (a + 2) (4 * v)
scaled_by_4 a v h =
    let e : 2 + a ≡ a + 2 = omega arith in subst (λ n. IsTimes n (4 * v)) e (product 4 v 2 a refl h)

scaled_by_8 : (a v : ℕ) → IsTimes a v → IsTimes (a + 3) (8 * v)
scaled_by_8 a v h =
    let e : 3 + a ≡ a + 3 = omega arith in subst (λ n. IsTimes n (8 * v)) e (product 8 v 3 a refl h)

multiply_times : (a b v w : ℕ) → IsTimes a v → IsTimes b w → IsTimes (min 3 (a + b)) ((v * w) % 2 ^ 64)
multiply_times a b v w h g =
    word_times (min 3 (a + b)) (v * w) (omega arith)
    (lower (v * w) (a + b) (min 3 (a + b)) (omega arith) (product v w a b h g))

shift_times : (a v d : ℕ) → IsTimes a v → IsTimes (min 3 (a + d)) (v * 2 ^ d % 2 ^ 64)
shift_times a v d h =
    let e : 1 * 2 ^ d ≡ 2 ^ d = omega arith in
    multiply_times a d v (2 ^ d) h (subst (IsTimes d) e (times_of 1 d))

extended_four : (w : ℕ) → Four (λ n. IsTimes n w → IsTimes n (w % 2 ^ 16) × IsTimes n (2 ^ 64 - 2 ^ 16 + w % 2 ^ 16))
extended_four w = (
  λ h. (omega arith, omega arith),
  λ h. (omega arith, omega arith),
  λ h. (omega arith, omega arith),
  λ h. (omega arith, omega arith),
)

chosen : (P : ℕ → Type 0) (b : Bool) (m n : ℕ) → P m → P n → P (cond b m n)
chosen P true m n h g = h
chosen P false m n h g = g

pub extended_times : (n w : ℕ) → n ≤ 3 → IsTimes n w → IsTimes n (sign_extended 16 w)
unfolding sign_extended
extended_times n w l h =
    let p =
    four (λ k. IsTimes k w → IsTimes k (w % 2 ^ 16) × IsTimes k (2 ^ 64 - 2 ^ 16 + w % 2 ^ 16))
    (extended_four w) n l h in
    chosen (IsTimes n) (bit_at w 15 == 0) (w % 2 ^ 16) (2 ^ 64 - 2 ^ 16 + w % 2 ^ 16) p.0 p.1

high_four : (v e : ℕ) → Four (λ n. IsTimes n v → IsTimes n ((v + 65536 * e) % 2 ^ 64))
high_four v e = (λ h. omega arith, λ h. omega arith, λ h. omega arith, λ h. omega arith)

-- ---- bit by bit

and_times : (a b v w : ℕ) → IsTimes a v → IsTimes b w → IsTimes (max a b) (bit_and v w)
and_times a b v w h g =
    elim (cases_lt a b) [
      | inl l ↦ (let e : b ≡ max a b = omega arith in subst (λ n. IsTimes n (bit_and v w)) e (and_right b v w g))
      | inr l ↦ (let e : a ≡ max a b = omega arith in subst (λ n. IsTimes n (bit_and v w)) e (and_left a v w h))
    ]

module _ (mask_bits : (mask i : ℕ) → i < 64 → bit_at (byte_mask mask) i ≡ bit_at mask (i / 8)) where
  even_mask : (k : ℕ) → k % 2 ≡ 0 → IsTimes 3 (byte_mask k)
  even_mask k h =
      let a : byte_mask k / 1 % 2 ≡ k / 1 % 2 = mask_bits k 0 (omega arith) in
      let b : byte_mask k / 2 % 2 ≡ k / 1 % 2 = mask_bits k 1 (omega arith) in
      let c : byte_mask k / 4 % 2 ≡ k / 1 % 2 = mask_bits k 2 (omega arith) in
      omega arith

  odd_mask : (k : ℕ) → k % 2 ≡ 1 → IsTimes 3 (2 ^ 64 - 1 - byte_mask k)
  odd_mask k h =
      let a : byte_mask k / 1 % 2 ≡ k / 1 % 2 = mask_bits k 0 (omega arith) in
      let b : byte_mask k / 2 % 2 ≡ k / 1 % 2 = mask_bits k 1 (omega arith) in
      let c : byte_mask k / 4 % 2 ≡ k / 1 % 2 = mask_bits k 2 (omega arith) in
      omega arith

  parity : (k : ℕ) (t : Bool) → (k % 2 == 0) ≡ t → ((t ≡ true) × (k % 2 ≡ 0)) ⊎ ((t ≡ false) × (k % 2 ≡ 1))
  parity k t e =
      elim (eqb_tells (k % 2) 0) [
        | inl h ↦ inl (sym e ∙ h.0, h.1)
        | inr h ↦ inr (sym e ∙ h.0, (let ne = h.1 in omega arith))
      ]

  kept_times : (a v k : ℕ) → IsTimes a v → IsTimes (cond (k % 2 == 0) 3 a) (bit_and v (byte_mask k))
  kept_times a v k h =
      elim (parity k (k % 2 == 0) refl) [
        | inl e ↦ subst (λ t. IsTimes (cond t 3 a) (bit_and v (byte_mask k))) (sym e.0)
            (and_right 3 v (byte_mask k) (even_mask k e.1))
        | inr e ↦ subst (λ t. IsTimes (cond t 3 a) (bit_and v (byte_mask k))) (sym e.0) (and_left a v (byte_mask k) h)
      ]

  cleared_times : (a v k : ℕ) → IsTimes a v → IsTimes (cond (k % 2 == 0) a 3) (bit_and v (2 ^ 64 - 1 - byte_mask k))
  cleared_times a v k h =
      elim (parity k (k % 2 == 0) refl) [
        | inl e ↦ subst (λ t. IsTimes (cond t a 3) (bit_and v (2 ^ 64 - 1 - byte_mask k))) (sym e.0)
            (and_left a v (2 ^ 64 - 1 - byte_mask k) h)
        | inr e ↦ subst (λ t. IsTimes (cond t a 3) (bit_and v (2 ^ 64 - 1 - byte_mask k))) (sym e.0)
            (and_right 3 v (2 ^ 64 - 1 - byte_mask k) (odd_mask k e.1))
      ]

  -- ---- what an operator gives

  operate_times : (op : OperateOf) (k : Option ℕ) (a b v w : ℕ) → b ≤ 3 → IfSome k (λ c. c ≡ w) → IsTimes a v
      → IsTimes b w
      → IsTimes (operate_multiple op k a b) (operate_value op v w)
  unfolding operate_value addq subq mulq s4addq s8addq s4subq s8subq and bis xor bic sll zap zapnot
  operate_times Addq k a b v w m c h g = add_times a b v w m h g
  operate_times Subq k a b v w m c h g = subtract_times a b v w m h g
  operate_times Bis k a b v w m c h g =
      or_times (min a b) v w (lower v a (min a b) (omega arith) h) (lower w b (min a b) (omega arith) g)
  operate_times Xor k a b v w m c h g =
      xor_times (min a b) v w (lower v a (min a b) (omega arith) h) (lower w b (min a b) (omega arith) g)
  operate_times And k a b v w m c h g = and_times a b v w h g
  operate_times Bic (Some k) a b v w m c h g =
      subst (λ x. IsTimes (max a (low_ones k)) (bit_and v (2 ^ 64 - 1 - x))) c
      (and_times a (low_ones k) v (2 ^ 64 - 1 - k) h (inverted_times k))
  operate_times Bic None a b v w m c h g = one_times (bit_and v (2 ^ 64 - 1 - w))
  operate_times Zapnot (Some k) a b v w m c h g =
      subst (λ x. IsTimes (cond (k % 2 == 0) 3 a) (bit_and v (byte_mask x))) c (kept_times a v k h)
  operate_times Zapnot None a b v w m c h g = one_times (bit_and v (byte_mask w))
  operate_times Zap (Some k) a b v w m c h g =
      subst (λ x. IsTimes (cond (k % 2 == 0) a 3) (bit_and v (2 ^ 64 - 1 - byte_mask x))) c (cleared_times a v k h)
  operate_times Zap None a b v w m c h g = one_times (bit_and v (2 ^ 64 - 1 - byte_mask w))
  operate_times Sll (Some k) a b v w m c h g =
      subst (λ x. IsTimes (min 3 (a + k % 64)) (v * 2 ^ (x % 64) % 2 ^ 64)) c (shift_times a v (k % 64) h)
  operate_times Sll None a b v w m c h g = one_times (v * 2 ^ (w % 64) % 2 ^ 64)
  operate_times S4addq k a b v w m c h g = add_times (a + 2) b (4 * v) w m (scaled_by_4 a v h) g
  operate_times S4subq k a b v w m c h g = subtract_times (a + 2) b (4 * v) w m (scaled_by_4 a v h) g
  operate_times S8addq k a b v w m c h g = add_times (a + 3) b (8 * v) w m (scaled_by_8 a v h) g
  operate_times S8subq k a b v w m c h g = subtract_times (a + 3) b (8 * v) w m (scaled_by_8 a v h) g
  operate_times Mulq k a b v w m c h g = multiply_times a b v w h g
  operate_times op k a b v w m c h g = one_times (operate_value op v w)

  value_times : (op : WordOp) (k : Option ℕ) (a b v w : ℕ) → a ≤ 3 → b ≤ 3 → IfSome k (λ c. c ≡ w) → IsTimes a v
      → IsTimes b w
      → IsTimes (pair_multiple (Word op) k a b) (value_at op v w 0)
  unfolding value_at lda ldah
  value_times (Operate op) k a b v w l m c h g = operate_times op k a b v w m c h g
  value_times Lda k a b v w l m c h g = add_times a b v (sign_extended 16 w) m h (extended_times b w m g)
  value_times Ldah k a b v w l m c h g =
      four (λ n. IsTimes n v → IsTimes n ((v + 65536 * sign_extended 16 w) % 2 ^ 64))
      (high_four v (sign_extended 16 w)) a l h
  value_times op k a b v w l m c h g = one_times (value_at op v w 0)

  pair_times : (world : World) (names : ℕ → List ℕ) (o : Op) (k : Option ℕ) (a b : ℕ) (x y : Value) → a ≤ 3 → b ≤ 3
      → IfSome k (λ c. c ≡ as_word y) → IsTimes a (as_word x) → IsTimes b (as_word y)
      → IsTimes (pair_multiple o k a b) (as_word (meaning world names o (x ∷ y ∷ [])))
  pair_times world names (Word op) k a b x y l m c h g = value_times op k a b (as_word x) (as_word y) l m c h g
  pair_times world names o k a b x y l m c h g = one_times (as_word (meaning world names o (x ∷ y ∷ [])))

  -- ---- rows that are true

  module _ (rows : List LaunchRow) (world : World) (value : ℕ → Value) (holds : AreTrueRows world value rows) where
    pub gives : (class : ℕ) (o : Op) (xs : List ℕ) → (h : HasRow rows class o xs)
        → (names : ℕ → List ℕ) × (value class ≡ meaning world names o (map value xs))
    gives class o xs h =
        let a : IsTrueRow world value h.0 = at_row (IsTrueRow world value) rows h.0 holds h.1 in (
          a.0,
          sym (ap value h.2) ∙ a.1
              ∙ ap (λ p. meaning world a.0 p (map value h.0.operands)) h.3
              ∙ ap (λ ys. meaning world a.0 o (map value ys)) h.4,
        )

    constant_is : (class k : ℕ) → constant_among rows class ≡ Some k → value class ≡ word k
    constant_is class k e =
        let h = constant_row rows class k e in
        let at : IsTrueRow world value h.1 = subst (IsTrueRow world value) h.3 (holds h.0 h.1 h.2) in
        sym (ap value h.4.0) ∙ at.1 ∙ constant_means world at.0 h.1.op (map value h.1.operands) k h.4.1

    constant_if : (class : ℕ) (o : Option ℕ) → constant_among rows class ≡ o → IfSome o (λ c. c ≡ as_word (value class))
    constant_if class None e = tt
    constant_if class (Some k) e = sym (ap as_word (constant_is class k e))

    and_is : (class x y : ℕ) → HasRow rows class (Word (Operate And)) (x ∷ y ∷ []) → constant_among rows class ≡ Some 0
        → bit_and (as_word (value x)) (as_word (value y)) ≡ 0
    unfolding value_at operate_value and
    and_is class x y h z =
        sym (ap as_word (gives class (Word (Operate And)) (x ∷ y ∷ []) h).1) ∙ ap as_word (constant_is class 0 z)

    negative_is : (class x a : ℕ) → HasRow rows class (Word Neg) (x ∷ []) → a ≤ 3 → IsTimes a (as_word (value x))
        → IsTimes a (as_word (value class))
    unfolding value_at neg
    negative_is class x a h l g =
        subst (λ v. IsTimes a (as_word v)) (sym (gives class (Word Neg) (x ∷ []) h).1)
        (word_times a (2 ^ 64 - as_word (value x)) l (negative_times a (as_word (value x)) l g))

    pub sound : {class n : ℕ} → IsShown rows class n → IsTimes n (as_word (value class))
    sound (by_nothing {class}) = one_times (as_word (value class))
    sound (by_constant {class} w h) =
        subst (λ v. IsTimes (low_zeros w) (as_word v)) (sym (gives class (Constant w) [] h).1) (zeros_times w)
    sound (by_negation {class} {x} {a} h s) = negative_is class x a h (few rows s) (sound s)
    sound (by_operands {class} {x} {y} {a} {b} o h s t) =
        subst (λ v. IsTimes (pair_multiple o (constant_among rows y) a b) (as_word v))
        (sym (gives class o (x ∷ y ∷ []) h).1)
        (pair_times world (gives class o (x ∷ y ∷ []) h).0 o (constant_among rows y) a b (value x) (value y) (few rows s) (few rows t)
        (constant_if y (constant_among rows y) refl) (sound s) (sound t))
    sound (by_mask {class} {x} {y} {k} h z c) =
        masked_times (as_word (value x)) k
        (ap (λ w. bit_and (as_word (value x)) w) (sym (ap as_word (constant_is y k c))) ∙ and_is class x y h z)
    sound (by_mask_before {class} {x} {y} {k} h z c) =
        masked_times (as_word (value x)) k
        (and_comm (as_word (value x)) k ∙ ap (λ w. bit_and w (as_word (value x))) (sym (ap as_word (constant_is y k c)))
        ∙ and_is class y x h z)
