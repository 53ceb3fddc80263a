-- What the constants of a computed rule give, in the shapes of the calls that find it.
use Rattle.std.proofs.Common.{◌≡◌, ◌≢◌, ℕ, ◌+◌, ◌-◌, ◌*◌, ◌/◌, ◌%◌, ◌^◌, ◌<◌, ◌≤◌, List, [], ◌∷◌, length, get_or, Option, Some, None, refl, sym, ap, subst, subst₂, ◌∙◌, arith, ⊎_elim, inl, inr}
use Rattle.std.specs.Prelude.{All, MatchOption, IfSome, true, false, is_some, ◌↔◌}
use Rattle.std.specs.Int.{trailing_zeros, w64}
use Rattle.std.proofs.lemmas.Nat.{pow_pos}
use Rattle.std.proofs.lemmas.Nat.Bits.{bit_at-trailing_zeros, bit_at_lowest}
use Rattle.std.proofs.Math.Nat.{mul-le-mul}
use Rattle.std.proofs.lemmas.Bool.{cases_lt}
use Rattle.std.proofs.lemmas.Bool.Decides.{nat_tests}
use Rattle.word_ops.specs.Words.{IsWord}
use Rattle.word_ops.specs.Values.{subq, sextw, sign_extended, sra, msk_low}
use Rattle.word_ops.specs.Operators.{operate_value, value_of, value_at}
use Rattle.word_ops.specs.declared.operators.WordOp.TheVariants.{Operate}
use Rattle.word_ops.specs.declared.operates.Operate.TheVariants.{Subq, Sextw, Sra, Mskbl, Mskwl, Mskll}
use Rattle.axiom_base.specs.declared.kinds.Calc.{Calc}
use Rattle.axiom_base.specs.declared.kinds.Calc.TheVariants.{C2, C5, C12, C17, C21, C32, C33, C35, C36}
use Rattle.axiom_base.specs.declared.kinds.Given.{Given}
use Rattle.axiom_base.specs.Conditions.{IsDisplacement, IsFar, IsByteMask, IsHigh, high_part, IsPlainMask, IsMade, IsOddTimesPower, IsSignedOddTimesPower, Condition, IsCalc, constants_of, given_of}
use Rattle.axiom_base.proofs.Parities.{is_doubled, is_signed, one_power, one_factor, below}

pub low_bits : (c : ℕ) → value_of (Operate Sextw) (c ∷ []) ≡ sign_extended 16 c
unfolding value_at operate_value sextw
low_bits c = refl

pub difference_is : (a b : ℕ) → value_of (Operate Subq) (a ∷ b ∷ []) ≡ subq a b
unfolding value_at operate_value
difference_is a b = refl

rest_is_not_0 : (c : ℕ) → IsWord c → (IsDisplacement c → ⊥) → subq c (sign_extended 16 c) ≡ 0 → ⊥
unfolding subq sign_extended
rest_is_not_0 c f n e =
    let low : 2 ^ 15 ≤ c = ⊎_elim (λ l. absurd (n (inl l))) (λ l. l) (cases_lt c (2 ^ 15)) in
    let high : c < 2 ^ 64 - 2 ^ 15 = ⊎_elim (λ l. l) (λ l. absurd (n (inr l))) (cases_lt c (2 ^ 64 - 2 ^ 15)) in
    grind (arith, nat_tests, low, high)

-- no displacement is 65536 times less than the rest
module _ (c rest : ℕ) (f : IsWord c) (parts : Condition C36 c 0 rest 0) (none : (h : ℕ) → IsWord h → Condition C2 rest 0 h 0 → ⊥) where
  no_high : (h : ℕ) → IsWord h → IsDisplacement h → high_part c ≡ 65536 * h % 2 ^ 64 → ⊥
  no_high h w s q =
      none h w (parts.1 ∙ q, s, λ z. rest_is_not_0 c f parts.0.0 (q ∙ ap (λ n. 65536 * n % 2 ^ 64) z))

  pub no_rest : (e : ℕ) → Condition C5 c 0 e 0 → ⊥
  no_rest e s = no_high s.3.0 s.3.1 s.3.2 (sym s.2 ∙ s.3.3)

  pub no_sum : (e : ℕ) → IsWord e → Condition C17 c 0 e 0 → ⊥
  no_sum e w s = no_high e w s.2 s.1

pub sum_given : (c rest : ℕ) (r : Option ℕ) → IsWord c → Condition C36 c 0 rest 0 →
    MatchOption r ((e : ℕ) → IsWord e → Condition C2 rest 0 e 0 → ⊥) (λ e. Condition C2 rest 0 e 0) →
    MatchOption r ((e : ℕ) → IsWord e → Condition C17 c 0 e 0 → ⊥) (λ e. Condition C17 c 0 e 0)
sum_given c rest None f parts h = no_sum c rest f parts h
sum_given c rest (Some e) f parts h = (parts.0, sym parts.1 ∙ h.0, h.1)

pub mask_given : (c : ℕ) (r : Option ℕ) → (IsDisplacement c → ⊥) → (IsHigh c → ⊥) →
    MatchOption r ((e : ℕ) → IsByteMask c e → ⊥) (IsByteMask c) →
    MatchOption r ((e : ℕ) → IsPlainMask c e → ⊥) (IsPlainMask c)
mask_given c None low high h = λ e m. h e m.0
mask_given c (Some e) low high h = (h, low, high)

-- ---- constants that other rules make

pub never_made : IsMade 0 → ⊥
never_made (inl x) = x.1 refl
never_made (inr (inl x)) = x.1 refl
never_made (inr (inr (inl x))) = x.0.0 (inl (omega arith))
never_made (inr (inr (inr x))) = x.1.1 (inl (omega arith))

pub not_made : (c : ℕ) → (IsDisplacement c → ⊥) → (IsHigh c → ⊥) → ((e : ℕ) → Condition C5 c 0 e 0 → ⊥) → ((e : ℕ) → IsPlainMask c e → ⊥) → IsMade c → ⊥
not_made c low high sum mask (inl x) = low x.0
not_made c low high sum mask (inr (inl x)) = high x.0
not_made c low high sum mask (inr (inr (inl x))) = sum (high_part c) (x.0.0, x.0.1, refl, x.1)
not_made c low high sum mask (inr (inr (inr x))) = mask x.0 x.1

pub made_by_sum : (c : ℕ) (r : Option ℕ) → MatchOption r ((e : ℕ) → Condition C5 c 0 e 0 → ⊥) (λ e. Condition C5 c 0 e 0) → is_some r ≡ true → IsMade c
made_by_sum c None h t = absurd (cc)
made_by_sum c (Some e) h t = inr (inr (inl ((h.0, h.1), (h.3.0, h.3.1, h.3.2, sym h.2 ∙ h.3.3))))

pub no_sum_if : (c : ℕ) (r : Option ℕ) → MatchOption r ((e : ℕ) → Condition C5 c 0 e 0 → ⊥) (λ e. Condition C5 c 0 e 0) → is_some r ≡ false → (e : ℕ) → Condition C5 c 0 e 0 → ⊥
no_sum_if c None h t = h
no_sum_if c (Some e) h t = absurd (cc)

pub made_by_mask : (c : ℕ) (r : Option ℕ) → (IsDisplacement c → ⊥) → (IsHigh c → ⊥) → ((e : ℕ) → Condition C5 c 0 e 0 → ⊥) →
    MatchOption r ((e : ℕ) → IsPlainMask c e → ⊥) (IsPlainMask c) → (is_some r ≡ true) ↔ IsMade c
made_by_mask c None low high sum h = (λ t. absurd (cc), λ m. absurd (not_made c low high sum h m))
made_by_mask c (Some e) low high sum h = (λ t. inr (inr (inr (e, h))), λ m. refl)

-- ---- an odd number times a power of two

pub found_odd : (half f e : ℕ) → 0 < half → IsWord half → f ≡ trailing_zeros w64 half → e ≡ half / 2 ^ trailing_zeros w64 half → 3 ≤ e → IsOddTimesPower (2 * half) e (f + 1)
found_odd half f e p w z q l =
    let t = bit_at-trailing_zeros w64 half p w in
    subst₂ (λ x y. IsOddTimesPower (2 * half) x (y + 1)) (sym q) (sym z)
    (is_doubled half (trailing_zeros w64 half) t.2, (t.1, omega (arith, l, q)), omega arith)

pub found_one : (half : ℕ) → 0 < half → IsWord half → half / 2 ^ trailing_zeros w64 half < 3 → (e f : ℕ) → IsOddTimesPower (2 * half) e f → ⊥
found_one half p w l e f h =
    let z = trailing_zeros w64 half in
    let q = half / 2 ^ z in
    let t = bit_at-trailing_zeros w64 half p w in
    let d = is_doubled half z t.2 in
    let s = one_power (2 * half) e f q (z + 1) h.0 h.1.0 d t.1 in
    let same : e ≡ q = one_factor (2 * half) e f q (z + 1) h.0 d s in
    absurd (omega (arith, same, l, h.1.1))

pub none_of_0 : (e f : ℕ) → IsOddTimesPower 0 e f → ⊥
none_of_0 e f h = let p = pow_pos f in let q : 3 * 1 ≤ e * 2 ^ f = mul-le-mul h.1.1 p in absurd (omega (arith, q, h.0))

-- an odd number is none
pub odd_is_none : (c e f : ℕ) → c % 2 ≡ 1 → IsOddTimesPower c e f → ⊥
odd_is_none c e f odd h = let p = below c e f 0 h.0 h.2 in absurd (omega (arith, odd, bit_at_lowest c, p))

pub halved : (c half : ℕ) (r : Option Given) → c ≡ 2 * half →
    MatchOption r ((e f : ℕ) → IsOddTimesPower (2 * half) e f → ⊥) (λ g. IsOddTimesPower (2 * half) g.e g.f) →
    MatchOption r ((e f : ℕ) → IsOddTimesPower c e f → ⊥) (λ g. IsOddTimesPower c g.e g.f)
halved c half r is h = subst (λ n. MatchOption r ((e f : ℕ) → IsOddTimesPower n e f → ⊥) (λ g. IsOddTimesPower n g.e g.f)) (sym is) h

pub halved_odd : (c n half : ℕ) (r : Option Given) → c % 2 ≡ 1 → n ≡ 2 * half →
    MatchOption r ((e f : ℕ) → IsOddTimesPower (2 * half) e f → ⊥) (λ g. IsOddTimesPower (2 * half) g.e g.f) →
    MatchOption r ((e f : ℕ) → c % 2 ≡ 1 → IsOddTimesPower n e f → ⊥) (λ g. (c % 2 ≡ 1) × IsOddTimesPower n g.e g.f)
halved_odd c n half None odd is h = λ e f k s. h e f (subst (λ m. IsOddTimesPower m e f) is s)
halved_odd c n half (Some g) odd is h = (odd, subst (λ m. IsOddTimesPower m g.e g.f) (sym is) h)

right_shift_is : (a b : ℕ) → value_of (Operate Sra) (a ∷ b ∷ []) ≡ sra a b
unfolding value_at operate_value
right_shift_is a b = refl

pub found_signed : (c f e : ℕ) → 0 < c → IsWord c → f ≡ trailing_zeros w64 c → e ≡ value_of (Operate Sra) (c ∷ f ∷ []) → IsSignedOddTimesPower c e f
found_signed c f e p w z q =
    let t = bit_at-trailing_zeros w64 c p w in
    let s = is_signed c (trailing_zeros w64 c) t.2 w t.0 t.1 in
    let is : sra c (trailing_zeros w64 c) ≡ e = sym (q ∙ right_shift_is c f ∙ ap (sra c) z) in
    subst₂ (λ x y. IsSignedOddTimesPower c x y) is (sym z) s

pub hard_given : (c : ℕ) (r : Option Given) → c % 2 ≡ 0 → (IsMade c → ⊥) →
    MatchOption r ((e f : ℕ) → IsSignedOddTimesPower c e f → ⊥) (λ g. IsSignedOddTimesPower c g.e g.f) →
    MatchOption r ((e f : ℕ) → c % 2 ≡ 0 → (IsMade c → ⊥) → IsSignedOddTimesPower c e f → ⊥) (λ g. (c % 2 ≡ 0) × (IsMade c → ⊥) × IsSignedOddTimesPower c g.e g.f)
hard_given c None even n h = λ e f a b s. h e f s
hard_given c (Some g) even n h = (even, n, h)

-- ---- by kind

abbrev pub GivesOne : Calc → ℕ → ℕ → Option ℕ → Type 0
GivesOne kind c d r = MatchOption r ((e : ℕ) → IsWord e → Condition kind c d e 0 → ⊥) (λ e. Condition kind c d e 0)

abbrev pub GivesTwo : Calc → ℕ → ℕ → Option Given → Type 0
GivesTwo kind c d r = MatchOption r ((e f : ℕ) → IsWord e → IsWord f → Condition kind c d e f → ⊥) (λ g. Condition kind c d g.e g.f)

pub of_words : (P : ℕ → Type 0) (r : Option ℕ) → MatchOption r ((e : ℕ) → P e → ⊥) P → MatchOption r ((e : ℕ) → IsWord e → P e → ⊥) P
of_words P None h = λ e w. h e
of_words P (Some e) h = h

pub far_given : (c d difference : ℕ) (r : Option ℕ) → difference ≡ value_of (Operate Subq) (d ∷ c ∷ []) →
    MatchOption r (IsFar difference → ⊥) (λ e. IsFar difference × (e ≡ d)) → GivesOne C12 c d r
far_given c d difference None is h = λ e w k. h (subst IsFar (sym (is ∙ difference_is d c)) k.0)
far_given c d difference (Some e) is h = (subst IsFar (is ∙ difference_is d c) h.0, h.1)

pub cleared_given : (cleared value d : ℕ) (r : Option ℕ) → value ≡ cleared →
    MatchOption r (8 ≤ d) (λ e. (d < 8) × (e ≡ value)) → MatchOption r ((e : ℕ) → IsWord e → ((d < 8) × (e ≡ cleared)) → ⊥) (λ e. (d < 8) × (e ≡ cleared))
cleared_given cleared value d None is h = λ e w k. absurd (omega (arith, h, k.0))
cleared_given cleared value d (Some e) is h = (h.0, h.1 ∙ is)

pub mskbl_is : (c d : ℕ) → value_of (Operate Mskbl) (c ∷ d ∷ []) ≡ msk_low 1 c d
unfolding value_at operate_value
mskbl_is c d = refl

pub mskwl_is : (c d : ℕ) → value_of (Operate Mskwl) (c ∷ d ∷ []) ≡ msk_low 2 c d
unfolding value_at operate_value
mskwl_is c d = refl

pub mskll_is : (c d : ℕ) → value_of (Operate Mskll) (c ∷ d ∷ []) ≡ msk_low 4 c d
unfolding value_at operate_value
mskll_is c d = refl

pub only_four : (kind : Calc) → given_of kind ≡ 2 → kind ≢ C21 → kind ≢ C32 → kind ≢ C33 → kind ≢ C35 → ⊥
only_four C21 h a b c d = a refl
only_four C32 h a b c d = b refl
only_four C33 h a b c d = c refl
only_four C35 h a b c d = d refl
only_four _ h a b c d = absurd (omega (arith, h))

-- ---- as rules

pub one_exact : (kind : Calc) (cs : List ℕ) (e : ℕ) → given_of kind ≡ 1 → length cs ≡ constants_of kind → All IsWord cs → IsWord e →
    Condition kind (get_or cs 0 0) (get_or cs 1 0) e 0 → IsCalc kind cs (record { e = e; f = 0 })
one_exact kind cs e one count words first h = record { count = count; words = words; first = first; second = omega arith; alone = λ k. refl; condition = h }

pub none_exact : (kind : Calc) (cs : List ℕ) → given_of kind ≡ 1 → ((e : ℕ) → IsWord e → Condition kind (get_or cs 0 0) (get_or cs 1 0) e 0 → ⊥) →
    (given : Given) → IsCalc kind cs given → ⊥
none_exact kind cs one none given is = none given.e is.first (subst (Condition kind (get_or cs 0 0) (get_or cs 1 0) given.e) (is.alone one) is.condition)

pub two_exact : (kind : Calc) (cs : List ℕ) (r : Option Given) → given_of kind ≡ 2 → length cs ≡ constants_of kind → All IsWord cs → IfSome r (λ g. IsWord g.e × IsWord g.f) →
    GivesTwo kind (get_or cs 0 0) (get_or cs 1 0) r → MatchOption r ((given : Given) → IsCalc kind cs given → ⊥) (IsCalc kind cs)
two_exact kind cs None two count words given h = λ g is. h g.e g.f is.first is.second is.condition
two_exact kind cs (Some g) two count words given h = record { count = count; words = words; first = given.0; second = given.1; alone = λ one. absurd (omega (arith, one, two)); condition = h }

pub some_from_match : (P : Type 0) (Q R : Given → Type 0) (r : Option Given) → ((g : Given) → Q g → R g) → MatchOption r P Q → IfSome r R
some_from_match P Q R None f h = tt
some_from_match P Q R (Some g) f h = f g h
