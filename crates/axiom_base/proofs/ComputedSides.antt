-- Each computed rule is over words and memories, each side well formed.
use Rattle.std.proofs.Common.{◌≡◌, ℕ, zero, suc, ◌+◌, ◌<◌, List, [], ◌∷◌, length, get_or, refl, inl, inr, ◌⊎◌, arith, rules}
use Rattle.std.specs.Prelude.{Contains}
use Rattle.word_ops.specs.Words.{IsWord}
use Rattle.word_ops.specs.declared.sorts.Op.{Op}
use Rattle.word_ops.specs.declared.sorts.Sort.TheVariants as sorts
use Rattle.word_terms.specs.Keys.{op_signature}
use Rattle.word_terms.specs.Tree.{variable, none, more}
use Rattle.word_terms.specs.Sorting.{HasSort, sort_at, Occurs, OccursInOne, IsApplication}
use Rattle.axiom_base.specs.declared.kinds.Calc.{Calc}
use Rattle.axiom_base.specs.declared.kinds.Calc.TheVariants.{C1, C2, C3, C4, C5, C6, C7, C8, C9, C10, C11, C12, C13, C14, C15, C16, C17, C18, C19, C20, C21, C22, C23, C24, C25, C26, C27, C28, C29, C30, C31, C32, C33, C34, C35, C36, C37}
use Rattle.axiom_base.specs.declared.kinds.Given.{Given}
use Rattle.axiom_base.specs.Rewrites.{IsUsable}
use Rattle.axiom_base.specs.Conditions.{constants_of}
use Rattle.axiom_base.specs.Computed.{calc_rewrite, calc_variables, calc_left, calc_right, first_constant, constants_from}
use Rattle.axiom_base.proofs.ConstantValues.{contains_constant, constants_are_from}

calc_left_sort : (kind : Calc) → HasSort op_signature (calc_variables kind) sorts.Word (calc_left kind)
calc_left_sort _ = search rules

calc_right_sort : (kind : Calc) (given : Given) → IsWord given.e → IsWord given.f → HasSort op_signature (calc_variables kind) sorts.Word (calc_right kind given)
calc_right_sort _ given h k = search rules

-- the left side has each variable
two : (n : ℕ) → n < 2 → OccursInOne {O = Op} n (more (variable 0) (more (variable 1) none))
two zero l = inl refl
two (suc zero) l = inr (inl refl)
two (suc (suc n)) l = absurd (omega (arith, l))

-- whatever the operators are
three : (n : ℕ) → n < 3 → Occurs n (calc_left C18)
three zero l = inl (inl refl)
three (suc zero) l = inl (inr (inl refl))
three (suc (suc zero)) l = inr (inl refl)
three (suc (suc (suc n))) l = absurd (omega (arith, l))

one : (n : ℕ) → n < 1 → Occurs {O = Op} n (variable 0)
one zero l = refl
one (suc n) l = absurd (omega (arith, l))

calc_all : (kind : Calc) (n : ℕ) → n < length (calc_variables kind) → Occurs n (calc_left kind)
calc_all C3 n l = one n l
calc_all C4 n l = one n l
calc_all C5 n l = one n l
calc_all C10 zero l = inl (inl refl)
calc_all C10 (suc zero) l = inl (inr (inl refl))
calc_all C10 (suc (suc zero)) l = inl (inr (inr (inl refl)))
calc_all C10 (suc (suc (suc zero))) l = inr (inl (inr (inl refl)))
calc_all C10 (suc (suc (suc (suc n)))) l = absurd (omega (arith, l))
calc_all C11 zero l = inl (inl refl)
calc_all C11 (suc zero) l = inr (inl refl)
calc_all C11 (suc (suc zero)) l = inl (inr (inr (inl refl)))
calc_all C11 (suc (suc (suc zero))) l = inl (inr (inl (inr (inl refl))))
calc_all C11 (suc (suc (suc (suc n)))) l = absurd (omega (arith, l))
calc_all C12 zero l = inl (inl refl)
calc_all C12 (suc zero) l = inr (inl (inl refl))
calc_all C12 (suc (suc zero)) l = inl (inr (inr (inl refl)))
calc_all C12 (suc (suc (suc zero))) l = inl (inr (inl (inr (inl refl))))
calc_all C12 (suc (suc (suc (suc zero)))) l = inr (inl (inr (inl refl)))
calc_all C12 (suc (suc (suc (suc (suc n))))) l = absurd (omega (arith, l))
calc_all C1 n l = two n l
calc_all C2 n l = two n l
calc_all C6 n l = two n l
calc_all C7 n l = two n l
calc_all C8 n l = two n l
calc_all C9 n l = two n l
calc_all C16 n l = one n l
calc_all C35 n l = one n l
calc_all C36 n l = one n l
calc_all C37 n l = one n l
calc_all C18 n l = three n l
calc_all C19 n l = three n l
calc_all C20 n l = three n l
calc_all C26 n l = three n l
calc_all C27 n l = three n l
calc_all C28 n l = three n l
calc_all C29 n l = three n l
calc_all C30 n l = three n l
calc_all C31 n l = three n l
calc_all C13 n l = two n l
calc_all C14 n l = two n l
calc_all C15 n l = two n l
calc_all C17 n l = two n l
calc_all C21 n l = two n l
calc_all C22 n l = two n l
calc_all C23 n l = two n l
calc_all C24 n l = two n l
calc_all C25 n l = two n l
calc_all C32 n l = two n l
calc_all C33 n l = two n l
calc_all C34 n l = two n l

-- the constants' variables are the last ones
pub variables_end : (kind : Calc) → length (calc_variables kind) ≡ first_constant kind + constants_of kind
variables_end C1 = refl
variables_end _ = refl

only_zero : (cs : List ℕ) → length cs ≡ 1 → (n : ℕ) → n < 1 → (c : ℕ) × Contains {X = ℕ × ℕ} (constants_from 0 cs) (n, c) × (sort_at (sorts.Word ∷ []) n ≡ sorts.Word)
only_zero cs one zero l = (get_or cs 0 0, contains_constant 0 cs 0 (omega (arith, one)), refl)
only_zero cs one (suc n) l = absurd (omega (arith, l))

calc_grounded : (kind : Calc) (cs : List ℕ) → length cs ≡ constants_of kind →
    IsApplication (calc_left kind) ⊎ ((n : ℕ) → n < length (calc_variables kind) → (c : ℕ) × Contains {X = ℕ × ℕ} (constants_from (first_constant kind) cs) (n, c) × (sort_at (calc_variables kind) n ≡ sorts.Word))
calc_grounded C3 cs h = inr (only_zero cs h)
calc_grounded C4 cs h = inr (only_zero cs h)
calc_grounded C5 cs h = inr (only_zero cs h)
calc_grounded C16 cs h = inr (only_zero cs h)
calc_grounded C35 cs h = inr (only_zero cs h)
calc_grounded C36 cs h = inr (only_zero cs h)
calc_grounded C37 cs h = inr (only_zero cs h)
calc_grounded _ cs h = inl tt

pub calc_usable : (kind : Calc) (cs : List ℕ) (given : Given) → length cs ≡ constants_of kind → IsWord given.e → IsWord given.f → IsUsable (calc_rewrite kind cs given)
calc_usable kind cs given count first second = record {
  sort = sorts.Word;
  left = calc_left_sort kind;
  right = calc_right_sort kind given first second;
  all = calc_all kind;
  constants = λ n c h. let k = constants_are_from (first_constant kind) cs n c h in omega (arith, k.1, k.2, count, variables_end kind);
  grounded = calc_grounded kind cs count;
}
