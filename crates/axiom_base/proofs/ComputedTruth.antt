-- Each computed rule is true at the constants that meet its condition, and these give one constant at most.
use Rattle.std.proofs.Common.{◌≡◌, ◌≢◌, ℕ, ◌+◌, ◌/◌, ◌*◌, ◌%◌, ◌^◌, ◌<◌, List, ◌++◌, length, get_or, refl, sym, ap, subst₂, ◌∙◌, arith, ⊎_elim}
use Rattle.std.specs.Prelude.{Contains}
use Rattle.std.specs.Int.{bit_at}
use Rattle.std.proofs.lemmas.Bool.{cases_lt}
use Rattle.std.proofs.Math.Pow.{pow-lt}
use Rattle.word_ops.specs.Words.{IsWord}
use Rattle.word_ops.specs.Values.{addq, mulq, and, bis, xor, srl, zapnot, msk_low, lda, ldah, byte_mask}
use Rattle.word_ops.specs.Memory.{Memory, word_at, put_word, select, store, loaded, stored}
use Rattle.word_ops.specs.Operators.{operate_value, value_at}
use Rattle.word_ops.specs.Meanings.{as_word, as_memory}
use Rattle.word_ops.specs.Worlds.{World, Value, word}
use Rattle.axiom_base.specs.declared.kinds.Calc.{Calc}
use Rattle.axiom_base.specs.declared.kinds.Calc.TheVariants.{C1, C2, C3, C4, C5, C6, C7, C8, C9, C10, C11, C12, C13, C14, C15, C16, C17, C18, C19, C20, C21, C22, C23, C24, C25, C26, C27, C28, C29, C30, C31, C32, C33, C34, C35, C36, C37}
use Rattle.axiom_base.specs.declared.kinds.Given.{Given}
use Rattle.axiom_base.specs.Rewrites.{IsTrueIn, AreValuesFor}
use Rattle.axiom_base.specs.Conditions.{IsDisplacement, IsByteDistance, IsOddTimesPower, IsCalc, constants_of}
use Rattle.axiom_base.specs.Computed.{calc_rewrite, first_constant}
use Rattle.axiom_base.specs.Schemes.{calc_kinds, further_kinds}
use Rattle.axiom_base.proofs.Variables.{value_at_number, in_range}
use Rattle.axiom_base.proofs.ConstantValues.{constant_value, constant_word}
use Rattle.axiom_base.proofs.Displacements as law
use Rattle.axiom_base.proofs.InvertedConstants as inverted
use Rattle.axiom_base.proofs.ByteFields as field
use Rattle.axiom_base.proofs.Factors as factor
use Rattle.axiom_base.proofs.Parities as parity
use Rattle.axiom_base.proofs.ByteMasks.{and_is_zapnot, one_byte_mask}
use Rattle.axiom_base.proofs.Addresses.{select_behind, select_before, select_beside}

module _ (kind : Calc) (cs : List ℕ) (given : Given) (is : IsCalc kind cs given) where
  has_first : 0 < length cs
  has_first = at_least_one kind (length cs) is.count
    where
      at_least_one : (kind : Calc) (n : ℕ) → n ≡ constants_of kind → 0 < n
      at_least_one C12 n h = omega (arith, h)
      at_least_one _ n h = omega (arith, h)

  pub first_word : IsWord (get_or cs 0 0)
  first_word = is.words 0 0 has_first

  module _ (values : List Value) (fits : AreValuesFor (calc_rewrite kind cs given) values) where
    pub first_value : value_at_number values (first_constant kind + 0) ≡ word (get_or cs 0 0)
    first_value = constant_value (calc_rewrite kind cs given) values (first_constant kind) cs fits refl 0 has_first

    pub second_is : constants_of kind ≡ 2 → as_word (value_at_number values (first_constant kind + 1)) ≡ get_or cs 1 0
    second_is two = constant_word (calc_rewrite kind cs given) values (first_constant kind) cs fits refl 1 (omega (arith, is.count, two))

    pub first_is : as_word (value_at_number values (first_constant kind + 0)) ≡ get_or cs 0 0
    first_is = ap as_word first_value

module _
    (world : World) (names : ℕ → List ℕ)
    (masked : (mask i : ℕ) → i < 64 → bit_at (byte_mask mask) i ≡ bit_at mask (i / 8))
    (others : (m : Memory) (place v other : ℕ) → other ≢ place → word_at (put_word m place v) other ≡ word_at m other)
  where
    pub calc_is_true : (kind : Calc) (cs : List ℕ) (given : Given) → IsCalc kind cs given → IsTrueIn world names (calc_rewrite kind cs given)
    unfolding value_at operate_value loaded stored
    calc_is_true C1 cs g is = λ vs f. ap word
        (ap (addq (as_word (value_at_number vs 0))) (first_is C1 cs g is vs f)
        ∙ law.addq_is_lda _ _ (first_word C1 cs g is) is.condition.0 ∙ ap (lda (as_word (value_at_number vs 0))) (sym is.condition.2))
    calc_is_true C2 cs g is = λ vs f. ap word
        (ap (addq (as_word (value_at_number vs 0))) (first_is C2 cs g is vs f)
        ∙ law.addq_is_ldah _ _ g.e is.first is.condition.1 is.condition.0)
    calc_is_true C3 cs g is = λ vs f.
        first_value C3 cs g is vs f ∙ ap word (law.word_is_lda _ (first_word C3 cs g is) is.condition.0 ∙ ap (lda 0) (sym is.condition.2))
    calc_is_true C4 cs g is = λ vs f.
        first_value C4 cs g is vs f ∙ ap word (law.word_is_ldah _ g.e is.first is.condition.1 is.condition.0)
    calc_is_true C5 cs g is = λ vs f.
        first_value C5 cs g is vs f
        ∙ ap word
        (law.word_is_lda_of_rest _ (first_word C5 cs g is)
        ∙ ap (λ n. lda n (get_or cs 0 0)) (sym is.condition.2) ∙ ap (lda g.e) (sym (first_is C5 cs g is vs f)))
    calc_is_true C6 cs g is = λ vs f. ap word
        (ap (mulq (as_word (value_at_number vs 0))) (first_is C6 cs g is vs f)
        ∙ law.mulq_is_sll _ _ g.e is.condition.2 is.condition.0)
    calc_is_true C7 cs g is = λ vs f. ap word
        (ap (mulq (as_word (value_at_number vs 0))) (first_is C7 cs g is vs f)
        ∙ law.mulq_is_sll_less _ _ g.e is.condition.2 is.condition.0 (in_range (calc_rewrite C7 cs g) vs f 0 (omega arith) refl))
    calc_is_true C8 cs g is = λ vs f. ap word
        (ap (mulq (as_word (value_at_number vs 0))) (first_is C8 cs g is vs f)
        ∙ law.mulq_is_sll_more _ _ g.e is.condition.2 is.condition.0)
    calc_is_true C9 cs g is = λ vs f. ap word
        (ap (and (as_word (value_at_number vs 0))) (first_is C9 cs g is vs f)
        ∙ and_is_zapnot masked _ _ g.e (in_range (calc_rewrite C9 cs g) vs f 0 (omega arith) refl) is.condition)
    calc_is_true C10 cs g is = λ vs f.
        let m = as_memory (value_at_number vs 0) in
        let x = as_word (value_at_number vs 1) in
        let v = as_word (value_at_number vs 2) in
        let c = first_is C10 cs g is vs f in
        ap word
        (ap (λ n. select (store m x v) (addq x n)) c
        ∙ select_behind others m x v (get_or cs 0 0) (in_range (calc_rewrite C10 cs g) vs f 1 (omega arith) refl) is.condition.0
        ∙ ap (λ n. select m (addq x n)) (sym c))
    calc_is_true C11 cs g is = λ vs f.
        let m = as_memory (value_at_number vs 0) in
        let x = as_word (value_at_number vs 1) in
        let v = as_word (value_at_number vs 2) in
        let c = first_is C11 cs g is vs f in
        ap word
        (ap (λ n. select (store m (addq x n) v) x) c
        ∙ select_before others m x v (get_or cs 0 0) (in_range (calc_rewrite C11 cs g) vs f 1 (omega arith) refl) is.condition.0)
    calc_is_true C12 cs g is = λ vs f.
        let m = as_memory (value_at_number vs 0) in
        let x = as_word (value_at_number vs 1) in
        let v = as_word (value_at_number vs 2) in
        let c = first_is C12 cs g is vs f in
        let two : 1 < length cs = omega (arith, is.count) in
        let d : as_word (value_at_number vs 4) ≡ get_or cs 1 0 = constant_word (calc_rewrite C12 cs g) vs 3 cs f refl 1 two in
        ap word
        (ap (λ n. select (store m (addq x n) v) (addq x (as_word (value_at_number vs 4)))) c
        ∙ ap (λ n. select (store m (addq x (get_or cs 0 0)) v) (addq x n)) d
        ∙ select_beside others m x v (get_or cs 0 0) (get_or cs 1 0) (in_range (calc_rewrite C12 cs g) vs f 1 (omega arith) refl) (first_word C12 cs g is) (is.words 1 0 two) is.condition.0
        ∙ ap (λ n. select m (addq x n)) (sym d))
    calc_is_true C13 cs g is = λ vs f. ap word
        (ap (and (as_word (value_at_number vs 0))) (first_is C13 cs g is vs f)
        ∙ inverted.and_is_bic _ _ g.e (first_word C13 cs g is) is.condition.0)
    calc_is_true C14 cs g is = λ vs f. ap word
        (ap (bis (as_word (value_at_number vs 0))) (first_is C14 cs g is vs f)
        ∙ inverted.bis_is_ornot _ _ g.e (first_word C14 cs g is) is.condition.0)
    calc_is_true C15 cs g is = λ vs f. ap word
        (ap (xor (as_word (value_at_number vs 0))) (first_is C15 cs g is vs f)
        ∙ inverted.xor_is_eqv _ _ g.e (first_word C15 cs g is) is.condition.0)
    calc_is_true C16 cs g is = λ vs f.
        first_value C16 cs g is vs f ∙ ap word (field.mask_is_zapnot masked _ g.e (first_word C16 cs g is) is.condition.0)
    calc_is_true C17 cs g is = λ vs f. ap word
        (ap (addq (as_word (value_at_number vs 0))) (first_is C17 cs g is vs f)
        ∙ law.addq_is_lda_of_ldah _ _ g.e (first_word C17 cs g is) is.first is.condition.2 is.condition.1
        ∙ ap (lda (ldah (as_word (value_at_number vs 0)) g.e)) (sym (first_is C17 cs g is vs f)))
    calc_is_true C18 cs g is = λ vs f.
        let x = as_word (value_at_number vs 0) in
        ap word
        (ap (λ n. and (srl x n) (as_word (value_at_number vs 2))) (first_is C18 cs g is vs f)
        ∙ ap (and (srl x (get_or cs 0 0))) (second_is C18 cs g is vs f refl)
        ∙ field.field_by_and 1 x _ _ g.e is.condition.0 is.condition.1)
    calc_is_true C19 cs g is = λ vs f.
        let x = as_word (value_at_number vs 0) in
        ap word
        (ap (λ n. and (srl x n) (as_word (value_at_number vs 2))) (first_is C19 cs g is vs f)
        ∙ ap (and (srl x (get_or cs 0 0))) (second_is C19 cs g is vs f refl)
        ∙ field.field_by_and 2 x _ _ g.e is.condition.0 is.condition.1)
    calc_is_true C20 cs g is = λ vs f.
        let x = as_word (value_at_number vs 0) in
        ap word
        (ap (λ n. and (srl x n) (as_word (value_at_number vs 2))) (first_is C20 cs g is vs f)
        ∙ ap (and (srl x (get_or cs 0 0))) (second_is C20 cs g is vs f refl)
        ∙ field.field_by_and 4 x _ _ g.e is.condition.0 is.condition.1)
    calc_is_true C21 cs g is = λ vs f. ap word
        (ap (mulq (as_word (value_at_number vs 0))) (first_is C21 cs g is vs f)
        ∙ factor.mulq_is_shifted _ _ g.e g.f (factor.few_zeros _ g.e g.f (let w = (first_word C21 cs g is) in omega (arith, w)) is.condition) is.condition.0)
    calc_is_true C22 cs g is = λ vs f. ap word
        (ap (mulq (as_word (value_at_number vs 0))) (first_is C22 cs g is vs f)
        ∙ factor.mulq_is_s4subq _ _ g.e is.condition.0)
    calc_is_true C23 cs g is = λ vs f. ap word
        (ap (mulq (as_word (value_at_number vs 0))) (first_is C23 cs g is vs f)
        ∙ factor.mulq_is_s4addq _ _ g.e is.condition.0)
    calc_is_true C24 cs g is = λ vs f. ap word
        (ap (mulq (as_word (value_at_number vs 0))) (first_is C24 cs g is vs f)
        ∙ factor.mulq_is_s8subq _ _ g.e is.condition.0)
    calc_is_true C25 cs g is = λ vs f. ap word
        (ap (mulq (as_word (value_at_number vs 0))) (first_is C25 cs g is vs f)
        ∙ factor.mulq_is_s8addq _ _ g.e is.condition.0)
    calc_is_true C26 cs g is = λ vs f.
        let x = as_word (value_at_number vs 0) in
        ap word
        (ap (λ n. msk_low 1 (and x n) (as_word (value_at_number vs 2))) (first_is C26 cs g is vs f)
        ∙ ap (msk_low 1 (and x (get_or cs 0 0))) (second_is C26 cs g is vs f refl)
        ∙ field.cleared_after_and 1 x _ _ g.e is.condition.1)
    calc_is_true C27 cs g is = λ vs f.
        let x = as_word (value_at_number vs 0) in
        ap word
        (ap (λ n. msk_low 2 (and x n) (as_word (value_at_number vs 2))) (first_is C27 cs g is vs f)
        ∙ ap (msk_low 2 (and x (get_or cs 0 0))) (second_is C27 cs g is vs f refl)
        ∙ field.cleared_after_and 2 x _ _ g.e is.condition.1)
    calc_is_true C28 cs g is = λ vs f.
        let x = as_word (value_at_number vs 0) in
        ap word
        (ap (λ n. msk_low 4 (and x n) (as_word (value_at_number vs 2))) (first_is C28 cs g is vs f)
        ∙ ap (msk_low 4 (and x (get_or cs 0 0))) (second_is C28 cs g is vs f refl)
        ∙ field.cleared_after_and 4 x _ _ g.e is.condition.1)
    calc_is_true C29 cs g is = λ vs f.
        let x = as_word (value_at_number vs 0) in
        ap word
        (ap (λ n. zapnot (srl x n) (as_word (value_at_number vs 2))) (first_is C29 cs g is vs f)
        ∙ ap (zapnot (srl x (get_or cs 0 0))) (second_is C29 cs g is vs f refl)
        ∙ field.field_by_zapnot 1 x _ _ g.e (in_range (calc_rewrite C29 cs g) vs f 0 (omega arith) refl) is.condition.0 is.condition.1)
    calc_is_true C30 cs g is = λ vs f.
        let x = as_word (value_at_number vs 0) in
        ap word
        (ap (λ n. zapnot (srl x n) (as_word (value_at_number vs 2))) (first_is C30 cs g is vs f)
        ∙ ap (zapnot (srl x (get_or cs 0 0))) (second_is C30 cs g is vs f refl)
        ∙ field.field_by_zapnot 2 x _ _ g.e (in_range (calc_rewrite C30 cs g) vs f 0 (omega arith) refl) is.condition.0 is.condition.1)
    calc_is_true C31 cs g is = λ vs f.
        let x = as_word (value_at_number vs 0) in
        ap word
        (ap (λ n. zapnot (srl x n) (as_word (value_at_number vs 2))) (first_is C31 cs g is vs f)
        ∙ ap (zapnot (srl x (get_or cs 0 0))) (second_is C31 cs g is vs f refl)
        ∙ field.field_by_zapnot 4 x _ _ g.e (in_range (calc_rewrite C31 cs g) vs f 0 (omega arith) refl) is.condition.0 is.condition.1)
    calc_is_true C32 cs g is = λ vs f. ap word
        (ap (mulq (as_word (value_at_number vs 0))) (first_is C32 cs g is vs f)
        ∙ factor.mulq_is_shifted_more _ _ g.e g.f (factor.few_zeros _ g.e g.f (let w = (first_word C32 cs g is) in omega (arith, w)) is.condition.1) is.condition.0 is.condition.1.0)
    calc_is_true C33 cs g is = λ vs f. ap word
        (ap (mulq (as_word (value_at_number vs 0))) (first_is C33 cs g is vs f)
        ∙ factor.mulq_is_shifted_less _ _ g.e g.f (in_range (calc_rewrite C33 cs g) vs f 0 (omega arith) refl) (factor.few_zeros _ g.e g.f (let w = (first_word C33 cs g is) in omega (arith, w)) is.condition.1) is.condition.1.0)
    calc_is_true C34 cs g is = λ vs f. ap word
        (ap (mulq (as_word (value_at_number vs 0))) (first_is C34 cs g is vs f)
        ∙ factor.mulq_is_neg _ _ g.e (first_word C34 cs g is) is.condition.2)
    calc_is_true C35 cs g is = λ vs f.
        first_value C35 cs g is vs f ∙ ap word (is.condition.2.1)
    calc_is_true C36 cs g is = λ vs f.
        first_value C36 cs g is vs f
        ∙ ap word
        (law.word_is_lda_of_rest _ (first_word C36 cs g is)
        ∙ ap (λ n. lda n (get_or cs 0 0)) (sym is.condition.1) ∙ ap (lda g.e) (sym (first_is C36 cs g is vs f)))
    calc_is_true C37 cs g is = λ vs f.
        first_value C37 cs g is vs f ∙ ap word (field.low_half_is_zapnot _ g.e is.condition.1 is.condition.2)

-- ---- one constant at most

one_exponent : (a b : ℕ) → 2 ^ a ≡ 2 ^ b → a ≡ b
one_exponent a b h = ⊎_elim
    (λ l. let p : 2 ^ a < 2 ^ b = pow-lt l in absurd (omega (arith, p, h)))
    (λ l. ⊎_elim (λ m. let p : 2 ^ b < 2 ^ a = pow-lt m in absurd (omega (arith, p, h))) (λ m. omega (arith, l, m)) (cases_lt b a))
    (cases_lt a b)

one_high : (c e other : ℕ) → IsWord e → IsWord other → IsDisplacement e → IsDisplacement other → c ≡ 65536 * e % 2 ^ 64 → c ≡ 65536 * other % 2 ^ 64 → e ≡ other
one_high c e other f g s t h k =
    ⊎_elim
    (λ a. ⊎_elim (λ b. omega (arith, a, b, h, k)) (λ b. omega (arith, a, b, h, k)) t)
    (λ a. ⊎_elim (λ b. omega (arith, a, b, h, k)) (λ b. omega (arith, a, b, h, k)) t)
    s

one_distance : (c e other : ℕ) → IsByteDistance c e → IsByteDistance c other → e ≡ other
one_distance c e other h k = omega (arith, h.0, k.0)

one_power_of : (n : ℕ) (g k : Given) → IsOddTimesPower n g.e g.f → IsOddTimesPower n k.e k.f → g.f ≡ k.f
one_power_of n g k h j = parity.one_power n g.e g.f k.e k.f h.0 h.1.0 j.0 j.1.0

one_factor_of : (n : ℕ) (g k : Given) → IsOddTimesPower n g.e g.f → IsOddTimesPower n k.e k.f → g.e ≡ k.e
one_factor_of n g k h j = parity.one_factor n g.e g.f k.e k.f h.0 j.0 (one_power_of n g k h j)

-- the first of the constants, and the second where a kind gives two
one_first : (kind : Calc) (cs : List ℕ) (g k : Given) → IsCalc kind cs g → IsCalc kind cs k → g.e ≡ k.e
one_first C1 cs g k h j = h.condition.2 ∙ sym j.condition.2
one_first C2 cs g k h j = one_high _ g.e k.e h.first j.first h.condition.1 j.condition.1 h.condition.0 j.condition.0
one_first C3 cs g k h j = h.condition.2 ∙ sym j.condition.2
one_first C4 cs g k h j = one_high _ g.e k.e h.first j.first h.condition.1 j.condition.1 h.condition.0 j.condition.0
one_first C5 cs g k h j = h.condition.2 ∙ sym j.condition.2
one_first C6 cs g k h j = one_exponent g.e k.e (sym h.condition.0 ∙ j.condition.0)
one_first C7 cs g k h j = one_exponent g.e k.e (sym h.condition.0 ∙ j.condition.0)
one_first C8 cs g k h j = one_exponent g.e k.e (let a = h.condition.0 in let b = j.condition.0 in omega (arith, a, b))
one_first C9 cs g k h j = one_byte_mask _ g.e k.e h.condition j.condition
one_first C10 cs g k h j = h.condition.1 ∙ sym j.condition.1
one_first C11 cs g k h j = h.condition.1 ∙ sym j.condition.1
one_first C12 cs g k h j = h.condition.1 ∙ sym j.condition.1
one_first C13 cs g k h j = h.condition.0 ∙ sym j.condition.0
one_first C14 cs g k h j = h.condition.0 ∙ sym j.condition.0
one_first C15 cs g k h j = h.condition.0 ∙ sym j.condition.0
one_first C16 cs g k h j = one_byte_mask _ g.e k.e h.condition.0 j.condition.0
one_first C17 cs g k h j = one_high _ g.e k.e h.first j.first h.condition.2 j.condition.2 h.condition.1 j.condition.1
one_first C18 cs g k h j = one_distance _ g.e k.e h.condition.0 j.condition.0
one_first C19 cs g k h j = one_distance _ g.e k.e h.condition.0 j.condition.0
one_first C20 cs g k h j = one_distance _ g.e k.e h.condition.0 j.condition.0
one_first C21 cs g k h j = one_factor_of _ g k h.condition j.condition
one_first C22 cs g k h j = (let a = h.condition.0 in let b = j.condition.0 in omega (arith, a, b))
one_first C23 cs g k h j = (let a = h.condition.0 in let b = j.condition.0 in omega (arith, a, b))
one_first C24 cs g k h j = (let a = h.condition.0 in let b = j.condition.0 in omega (arith, a, b))
one_first C25 cs g k h j = (let a = h.condition.0 in let b = j.condition.0 in omega (arith, a, b))
one_first C26 cs g k h j = h.condition.1 ∙ sym j.condition.1
one_first C27 cs g k h j = h.condition.1 ∙ sym j.condition.1
one_first C28 cs g k h j = h.condition.1 ∙ sym j.condition.1
one_first C29 cs g k h j = one_distance _ g.e k.e h.condition.0 j.condition.0
one_first C30 cs g k h j = one_distance _ g.e k.e h.condition.0 j.condition.0
one_first C31 cs g k h j = one_distance _ g.e k.e h.condition.0 j.condition.0
one_first C32 cs g k h j = one_factor_of _ g k h.condition.1 j.condition.1
one_first C33 cs g k h j = one_factor_of _ g k h.condition.1 j.condition.1
one_first C34 cs g k h j = h.condition.2 ∙ sym j.condition.2
one_first C35 cs g k h j = parity.one_signed_factor _ g.e g.f k.e k.f h.condition.2 j.condition.2
one_first C36 cs g k h j = h.condition.1 ∙ sym j.condition.1
one_first C37 cs g k h j = h.condition.2 ∙ sym j.condition.2

one_second : (kind : Calc) (cs : List ℕ) (g k : Given) → IsCalc kind cs g → IsCalc kind cs k → g.f ≡ k.f
one_second C21 cs g k h j = one_power_of _ g k h.condition j.condition
one_second C32 cs g k h j = one_power_of _ g k h.condition.1 j.condition.1
one_second C33 cs g k h j = one_power_of _ g k h.condition.1 j.condition.1
one_second C35 cs g k h j = parity.one_signed_power _ g.e g.f k.e k.f h.condition.2 j.condition.2
one_second _ cs g k h j = h.alone refl ∙ sym (j.alone refl)

same_given : (g k : Given) → g.e ≡ k.e → g.f ≡ k.f → g ≡ k
same_given g k a b = subst₂ (λ e f. g ≡ record { e = e; f = f }) a b refl

pub one_constant : (kind : Calc) (cs : List ℕ) (given other : Given) → IsCalc kind cs given → IsCalc kind cs other → given ≡ other
one_constant kind cs given other h k = same_given given other (one_first kind cs given other h k) (one_second kind cs given other h k)

-- ---- the list of kinds

pub kind_is_listed : (kind : Calc) → Contains (calc_kinds ++ further_kinds) kind
kind_is_listed C1 = (0, omega arith, refl)
kind_is_listed C2 = (1, omega arith, refl)
kind_is_listed C3 = (2, omega arith, refl)
kind_is_listed C4 = (3, omega arith, refl)
kind_is_listed C5 = (4, omega arith, refl)
kind_is_listed C6 = (5, omega arith, refl)
kind_is_listed C7 = (6, omega arith, refl)
kind_is_listed C8 = (7, omega arith, refl)
kind_is_listed C9 = (8, omega arith, refl)
kind_is_listed C10 = (9, omega arith, refl)
kind_is_listed C11 = (10, omega arith, refl)
kind_is_listed C12 = (11, omega arith, refl)
kind_is_listed C13 = (12, omega arith, refl)
kind_is_listed C14 = (13, omega arith, refl)
kind_is_listed C15 = (14, omega arith, refl)
kind_is_listed C16 = (15, omega arith, refl)
kind_is_listed C17 = (16, omega arith, refl)
kind_is_listed C18 = (17, omega arith, refl)
kind_is_listed C19 = (18, omega arith, refl)
kind_is_listed C20 = (19, omega arith, refl)
kind_is_listed C21 = (20, omega arith, refl)
kind_is_listed C22 = (21, omega arith, refl)
kind_is_listed C23 = (22, omega arith, refl)
kind_is_listed C24 = (23, omega arith, refl)
kind_is_listed C25 = (24, omega arith, refl)
kind_is_listed C26 = (25, omega arith, refl)
kind_is_listed C27 = (26, omega arith, refl)
kind_is_listed C28 = (27, omega arith, refl)
kind_is_listed C29 = (28, omega arith, refl)
kind_is_listed C30 = (29, omega arith, refl)
kind_is_listed C31 = (30, omega arith, refl)
kind_is_listed C32 = (31, omega arith, refl)
kind_is_listed C33 = (32, omega arith, refl)
kind_is_listed C34 = (33, omega arith, refl)
kind_is_listed C35 = (34, omega arith, refl)
kind_is_listed C36 = (35, omega arith, refl)
kind_is_listed C37 = (36, omega arith, refl)
