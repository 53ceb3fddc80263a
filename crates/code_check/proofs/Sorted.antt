-- The terms that well-formed instructions write are well formed.
use Rattle.std.proofs.Common.{◌≡◌, ℕ, ℤ, List, [], ◌∷◌, refl, sym, ap, subst, inl, inr, ◌⊎◌, arith, Bool, true, false, ◌==◌}
use Rattle.std.specs.Prelude.{All, FitsSigned, if◌then◌else◌}
use Rattle.std.specs.Int.{w16}
use Rattle.std.proofs.lemmas.Bool.Decides.{nat_tests}
use Rattle.std.proofs.lemmas.Int.{ints}
use Rattle.std.proofs.lemmas.List.Elements.{All-nil, All-cons, All-head, All-tail, All-append}
use Rattle.word_ops.specs.declared.operates.Operate.{Operate as OperateOf}
use Rattle.word_ops.specs.declared.operates.Operate.TheVariants as operates
use Rattle.word_ops.specs.declared.sorts.Access.{Access}
use Rattle.word_ops.specs.declared.sorts.Access.TheVariants.{Quad}
use Rattle.word_ops.specs.declared.operators.WordOp.{WordOp}
use Rattle.word_ops.specs.declared.operators.WordOp.TheVariants as ops
use Rattle.word_ops.specs.declared.sorts.Op.{Op}
use Rattle.word_ops.specs.declared.sorts.Sort.{Sort}
use Rattle.word_ops.specs.declared.sorts.Sort.TheVariants as sorts
use Rattle.word_ops.specs.Operators.{arity_of}
use Rattle.word_ops.specs.Words.{IsWord}
use Rattle.word_terms.specs.Keys.{op_signature}
use Rattle.word_terms.specs.Sorting.{HasSort}
use Rattle.word_terms.specs.Tree.{Tree}
use Rattle.word_terms.specs.Building.{constant, w1, w2, o1, o2}
use Rattle.word_ops.specs.Operates.{row_of}
use Rattle.alpha_encode.specs.Codes.{is_unary}
use Rattle.alpha_encode.specs.Formats.{IsWellFormed, IsSecond}
use Rattle.alpha_encode.specs.declared.instructions.Second.{Second}
use Rattle.alpha_encode.specs.declared.instructions.Second.TheVariants.{Reg, Literal}
use Rattle.alpha_encode.specs.declared.instructions.Instr.{Instr}
use Rattle.alpha_encode.specs.declared.instructions.Instr.TheVariants.{Operate, Lda, Ldah, Load, Store, Ldq, Stq, Beq}
use Rattle.saturation.specs.AtStart.{IsSorted}
use Rattle.saturation.specs.GoalTerms.{input_term}
use Rattle.code_check.specs.Terms.{TermState, loaded_term, stored_term, terms_at_entry, term_step, terms_written, terms_written_from, unless_zero_register, second_term, operate_term, address_term, sign_extended}

abbrev IsOf : Sort → Tree Op → Type 0
IsOf sort t = HasSort op_signature [] sort t

-- an operate has one operand or two
operate_arity : (op : OperateOf) → ((is_unary op ≡ true) × ((row_of op).arity ≡ 1)) ⊎ ((is_unary op ≡ false) × ((row_of op).arity ≡ 2))
operate_arity operates.Sextb = inl (refl, refl)
operate_arity operates.Sextw = inl (refl, refl)
operate_arity _ = inr (refl, refl)

constant_is : (n : ℕ) → IsWord n → IsOf sorts.Word (constant n)
constant_is n is = (refl, is, refl, tt)

extended_word : (disp : ℤ) → FitsSigned w16 disp → IsWord (sign_extended disp)
extended_word disp fits = grind (arith, nat_tests, ints)

w2_is : (op : WordOp) (t u : Tree Op) → arity_of op ≡ 2 → IsOf sorts.Word t → IsOf sorts.Word u → IsOf sorts.Word (w2 op t u)
w2_is op t u two a b = (refl, tt, sym two, (a, (b, tt)))

w1_is : (op : WordOp) (t : Tree Op) → arity_of op ≡ 1 → IsOf sorts.Word t → IsOf sorts.Word (w1 op t)
w1_is op t one a = (refl, tt, sym one, (a, tt))

operate_is : (op : OperateOf) (t u : Tree Op) → IsOf sorts.Word t → IsOf sorts.Word u → IsOf sorts.Word (operate_term op t u)
operate_is op t u a b = elim (operate_arity op) [
  | inl k ↦ subst (IsOf sorts.Word) (sym (ap (λ c. if c then o1 op u else o2 op t u) k.0)) (w1_is (ops.Operate op) u k.1 b)
  | inr k ↦ subst (IsOf sorts.Word) (sym (ap (λ c. if c then o1 op u else o2 op t u) k.0)) (w2_is (ops.Operate op) t u k.1 a b)
]

address_is : (t : Tree Op) (disp : ℤ) → FitsSigned w16 disp → IsOf sorts.Word t → IsOf sorts.Word (address_term t disp)
address_is t disp fits a = by (sign_extended disp == 0)
  where
    by : (b : Bool) → IsOf sorts.Word (if b then t else w2 ops.Lda t (constant (sign_extended disp)))
    by true = a
    by false = w2_is ops.Lda t (constant (sign_extended disp)) refl a (constant_is (sign_extended disp) (extended_word disp fits))

-- each register's term is a word, and the memory's a memory
record AreSortedTerms (ts : TermState) : Type 0 where
  pub registers : (r : ℕ) → IsOf sorts.Word (ts.registers r)
  pub memory_is : IsOf sorts.Memory ts.memory

first_sorted : AreSortedTerms terms_at_entry
first_sorted = record { registers = λ r. by r (r == 31); memory_is = (refl, tt, refl, tt) }
  where
    by : (r : ℕ) (b : Bool) → IsOf sorts.Word (if b then constant 0 else input_term r)
    by r true = constant_is 0 (omega arith)
    by r false = (refl, tt, refl, tt)

one_given : (r : ℕ) (t : Tree Op) (sort : Sort) → IsOf sort t → All IsSorted (unless_zero_register r t)
one_given r t sort h = by (r == 31)
  where
    by : (b : Bool) → All IsSorted (if b then [] else t ∷ [])
    by true = All-nil IsSorted
    by false = All-cons IsSorted t [] (record { sort = sort; is = h }) (All-nil IsSorted)

module _ (ts : TermState) (h : AreSortedTerms ts) where
  with_sorted : (r : ℕ) (t : Tree Op) → IsOf sorts.Word t → AreSortedTerms (record { registers = λ q. if r == 31 then ts.registers q else (if q == r then t else ts.registers q); memory = ts.memory })
  with_sorted r t is = record { registers = λ q. by q (r == 31) (q == r); memory_is = h.memory_is }
    where
      by : (q : ℕ) (b c : Bool) → IsOf sorts.Word (if b then ts.registers q else (if c then t else ts.registers q))
      by q true c = h.registers q
      by q false true = is
      by q false false = h.registers q

  second_is : (second : Second) → IsSecond second → IsOf sorts.Word (second_term second ts.registers)
  second_is (Reg r) is = h.registers r
  second_is (Literal n) is = constant_is n (omega (arith, is))

  -- the term that an instruction gives
  operate_given : (op : OperateOf) (ra : ℕ) (second : Second) → IsSecond second → IsOf sorts.Word (operate_term op (ts.registers ra) (second_term second ts.registers))
  operate_given op ra second is = operate_is op (ts.registers ra) (second_term second ts.registers) (h.registers ra) (second_is second is)

  lda_given : (op : WordOp) (rb : ℕ) (disp : ℤ) → arity_of op ≡ 2 → FitsSigned w16 disp → IsOf sorts.Word (w2 op (ts.registers rb) (constant (sign_extended disp)))
  lda_given op rb disp two fits = w2_is op (ts.registers rb) (constant (sign_extended disp)) two (h.registers rb) (constant_is (sign_extended disp) (extended_word disp fits))

  load_given : (access : Access) (rb : ℕ) (disp : ℤ) → FitsSigned w16 disp → IsOf sorts.Word (loaded_term access ts rb disp)
  load_given access rb disp fits = (refl, tt, refl, (h.memory_is, (address_is (ts.registers rb) disp fits (h.registers rb), tt)))

  store_given : (access : Access) (ra rb : ℕ) (disp : ℤ) → FitsSigned w16 disp → IsOf sorts.Memory (stored_term access ts ra rb disp)
  store_given access ra rb disp fits = (refl, tt, refl, (h.memory_is, (address_is (ts.registers rb) disp fits (h.registers rb), (h.registers ra, tt))))

  one_stored : (access : Access) (ra rb : ℕ) (disp : ℤ) → FitsSigned w16 disp → All IsSorted (stored_term access ts ra rb disp ∷ [])
  one_stored access ra rb disp fits =
      All-cons IsSorted (stored_term access ts ra rb disp) [] (record { sort = sorts.Memory; is = store_given access ra rb disp fits }) (All-nil IsSorted)

  next_sorted : (i : Instr) → IsWellFormed i → AreSortedTerms (term_step i ts)
  next_sorted (Operate op ra second rc) wf = with_sorted rc (operate_term op (ts.registers ra) (second_term second ts.registers)) (operate_given op ra second wf.1)
  next_sorted (Lda ra rb disp) wf = with_sorted ra (w2 ops.Lda (ts.registers rb) (constant (sign_extended disp))) (lda_given ops.Lda rb disp refl wf.2)
  next_sorted (Ldah ra rb disp) wf = with_sorted ra (w2 ops.Ldah (ts.registers rb) (constant (sign_extended disp))) (lda_given ops.Ldah rb disp refl wf.2)
  next_sorted (Load access ra rb disp) wf = with_sorted ra (loaded_term access ts rb disp) (load_given access rb disp wf.2)
  next_sorted (Store access ra rb disp) wf = record { registers = h.registers; memory_is = store_given access ra rb disp wf.2 }
  next_sorted (Ldq ra rb disp) wf = with_sorted ra (loaded_term Quad ts rb disp) (load_given Quad rb disp wf.2)
  next_sorted (Stq ra rb disp) wf = record { registers = h.registers; memory_is = store_given Quad ra rb disp wf.2 }
  next_sorted (Beq ra disp) wf = record { registers = h.registers; memory_is = h.memory_is }

  given_sorted : (i : Instr) → IsWellFormed i → All IsSorted (terms_written i ts)
  given_sorted (Operate op ra second rc) wf = one_given rc (operate_term op (ts.registers ra) (second_term second ts.registers)) sorts.Word (operate_given op ra second wf.1)
  given_sorted (Lda ra rb disp) wf = one_given ra (w2 ops.Lda (ts.registers rb) (constant (sign_extended disp))) sorts.Word (lda_given ops.Lda rb disp refl wf.2)
  given_sorted (Ldah ra rb disp) wf = one_given ra (w2 ops.Ldah (ts.registers rb) (constant (sign_extended disp))) sorts.Word (lda_given ops.Ldah rb disp refl wf.2)
  given_sorted (Load access ra rb disp) wf = one_given ra (loaded_term access ts rb disp) sorts.Word (load_given access rb disp wf.2)
  given_sorted (Store access ra rb disp) wf = one_stored access ra rb disp wf.2
  given_sorted (Ldq ra rb disp) wf = one_given ra (loaded_term Quad ts rb disp) sorts.Word (load_given Quad rb disp wf.2)
  given_sorted (Stq ra rb disp) wf = one_stored Quad ra rb disp wf.2
  given_sorted (Beq ra disp) wf = All-nil IsSorted

all_sorted : (is : List Instr) (ts : TermState) → All IsWellFormed is → AreSortedTerms ts → All IsSorted (terms_written_from is ts)
all_sorted [] ts wf h = All-nil IsSorted
all_sorted (i ∷ is) ts wf h =
    let one = All-head IsWellFormed i is wf in
    All-append IsSorted (terms_written i ts) (terms_written_from is (term_step i ts)) (given_sorted ts h i one)
    (all_sorted is (term_step i ts) (All-tail IsWellFormed i is wf) (next_sorted ts h i one))

pub written_sorted : (is : List Instr) → All IsWellFormed is → All IsSorted (terms_written_from is terms_at_entry)
written_sorted is wf = all_sorted is terms_at_entry wf first_sorted
