-- One instruction: the terms after it have the values that it leaves.
use Rattle.std.proofs.Common.{◌≡◌, ℕ, zero, suc, ℤ, ◌+◌, ◌*◌, ◌%◌, ◌^◌, ◌<◌, ◌&&◌, not, List, [], ◌∷◌, refl, sym, ◌∙◌, ap, subst, inl, inr, arith, Bool, true, false, ◌==◌, set, Some, None}
use Rattle.std.specs.Prelude.{All, FitsSigned, IsFalse, slice_index, if◌then◌else◌}
use Rattle.std.specs.Int.{cast_signed, cast_unsigned, w16, w64}
use Rattle.std.proofs.lemmas.Bool.Decides.{eqb_tells, nat_tests}
use Rattle.std.proofs.lemmas.Int.{ints}
use Rattle.std.proofs.lemmas.List.{get_or-set_same, get_or-set_other, length-set}
use Rattle.std.proofs.lemmas.List.Elements.{All-nil, All-cons, All-head, All-tail, All-get_or}
use Rattle.word_ops.specs.declared.operators.WordOp.{WordOp}
use Rattle.word_ops.specs.declared.operators.WordOp.TheVariants as ops
use Rattle.word_ops.specs.declared.sorts.Op.{Op}
use Rattle.word_ops.specs.Memory as accesses
use Rattle.word_ops.specs.Memory.{Memory, IsMemory, loaded, stored}
use Rattle.word_ops.specs.declared.operates.Operate.{Operate as OperateOf}
use Rattle.word_ops.specs.declared.sorts.Access.{Access}
use Rattle.word_ops.specs.declared.sorts.Access.TheVariants.{Quad}
use Rattle.word_ops.specs.Operators.{value_at, value_of}
use Rattle.word_ops.specs.Values.{lda, ldah}
use Rattle.word_ops.specs.Words.{IsWord}
use Rattle.word_ops.specs.Worlds.{World, IsWorld, Value, word, memory}
use Rattle.word_ops.specs.Meanings.{as_word, as_memory}
use Rattle.word_terms.specs.Tree.{Tree}
use Rattle.word_terms.specs.Building.{constant, o1, o2, w2}
use Rattle.axiom_base.specs.Rewrites.{value_in}
use Rattle.alpha_encode.specs.Codes.{is_unary}
use Rattle.alpha_encode.specs.Formats.{IsWellFormed, IsSecond}
use Rattle.alpha_encode.specs.declared.instructions.Second.{Second}
use Rattle.alpha_encode.specs.declared.instructions.Second.TheVariants.{Reg, Literal}
use Rattle.alpha_encode.specs.declared.instructions.Instr.{Instr}
use Rattle.alpha_encode.specs.declared.instructions.Instr.TheVariants.{Operate, Lda, Ldah, Load, Store, Ldq, Stq, Beq}
use Rattle.alpha_machine.specs.States.{MachineState}
use Rattle.alpha_machine.specs.Steps.{step, second_value, operate_result, address, is_multiple, place_of, traps, with_loaded, with_register, with_stored, next_pc}
use Rattle.saturation.specs.GoalTerms.{input_term}
use Rattle.code_check.specs.Outcomes.{entry_state}
use Rattle.code_check.specs.Terms.{TermState, alignment, needed_alignment, loaded_term, place_term, stored_term, terms_at_entry, term_step, terms_from, with_memory, with_term, second_term, operate_term, address_term, sign_extended}
use Rattle.code_check.specs.Values.{HaveValues, after_all}

lda_value : (a b c : ℕ) → value_at ops.Lda a b c ≡ lda a b
unfolding value_at
lda_value a b c = refl

ldah_value : (a b c : ℕ) → value_at ops.Ldah a b c ≡ ldah a b
unfolding value_at
ldah_value a b c = refl

-- a displacement of 16 bits is the low bits of its word
low_bits : (disp : ℤ) → FitsSigned w16 disp → cast_signed w16 (cast_unsigned w64 disp % 2 ^ 16) ≡ disp
low_bits disp fits = grind (arith, nat_tests, ints)

module _ (w : World) (names : ℕ → List ℕ)
    (low : (x k : ℕ) → address x 1 (cast_signed w16 (k % 2 ^ 16)) ≡ lda x k)
    (high : (x k : ℕ) → address x 65536 (cast_signed w16 (k % 2 ^ 16)) ≡ ldah x k)
    (is_word : (op : WordOp) (vs : List ℕ) → All IsWord vs → IsWord (value_of op vs))
    (is_loaded : (access : Access) (m : Memory) (a : ℕ) → IsMemory m → IsWord (loaded access m a))
    (is_stored : (access : Access) (m : Memory) (a v : ℕ) → IsMemory m → IsWord a → IsWord v → IsMemory (stored access m a v)) where
  abbrev V : Tree Op → Value
  V t = value_in w names [] t

  abbrev Fine : TermState → MachineState → Type 0
  Fine ts s = HaveValues w names ts s

  module _ (ts : TermState) (s : MachineState) (h : Fine ts s) where
    module _ (r v : ℕ) (t : Tree Op) (below : r < 32) (is : IsWord v) (e : V t ≡ word v) where
      abbrev now : ℕ → ℕ
      now q = slice_index (set s.registers r v) q

      now_same : (q : ℕ) → q ≡ r → now q ≡ v
      now_same q k = ap (slice_index (set s.registers r v)) k ∙ get_or-set_same s.registers r v 0 (let c = h.count in omega arith)

      word_now : (q : ℕ) → q < 32 → IsWord (now q)
      word_now q low = elim (eqb_tells q r) [
        | inl k ↦ subst IsWord (sym (now_same q k.1)) is
        | inr k ↦ subst IsWord (sym (get_or-set_other s.registers r q v 0 k.1)) (h.words q low)
      ]

      value_now : (q : ℕ) → q < 32 → V (if q == r then t else ts.registers q) ≡ word (now q)
      value_now q low = elim (eqb_tells q r) [
        | inl k ↦ ap (λ b. V (if b then t else ts.registers q)) k.0 ∙ e ∙ sym (ap word (now_same q k.1))
        | inr k ↦ ap (λ b. V (if b then t else ts.registers q)) k.0 ∙ h.registers q low ∙ sym (ap word (get_or-set_other s.registers r q v 0 k.1))
      ]

      wrote_by : (b : Bool) →
          Fine (record { registers = λ q. if b then ts.registers q else (if q == r then t else ts.registers q); memory = ts.memory })
          (record { registers = if b then s.registers else set s.registers r v; memory = s.memory; pc = next_pc s.pc })
      wrote_by true = record { count = h.count; words = h.words; registers = h.registers; is_memory = h.is_memory; memory_is = h.memory_is }
      wrote_by false = record {
        count = length-set s.registers r v ∙ h.count;
        words = word_now;
        registers = value_now;
        is_memory = h.is_memory;
        memory_is = h.memory_is;
      }

    -- a register is written
    wrote : (r v : ℕ) (t : Tree Op) → r < 32 → IsWord v → V t ≡ word v → Fine (with_term ts r t) (with_register s r v)
    wrote r v t below is e = wrote_by r v t below is e (r == 31)

    second_word : (second : Second) → IsSecond second → IsWord (second_value second s.registers)
    second_word (Reg r) is = h.words r is
    second_word (Literal n) is = omega (arith, is)

    second_is : (second : Second) → IsSecond second → V (second_term second ts.registers) ≡ word (second_value second s.registers)
    second_is (Reg r) is = h.registers r is
    second_is (Literal n) is = refl

    operate_word : (op : OperateOf) (a b : ℕ) → IsWord a → IsWord b → IsWord (operate_result op a b)
    operate_word op a b is_a is_b = by (is_unary op)
      where
        by : (u : Bool) → IsWord (if u then value_at (ops.Operate op) b 0 0 else value_at (ops.Operate op) a b 0)
        by true = is_word (ops.Operate op) (b ∷ []) (All-cons IsWord b [] is_b (All-nil IsWord))
        by false = is_word (ops.Operate op) (a ∷ b ∷ []) (All-cons IsWord a (b ∷ []) is_a (All-cons IsWord b [] is_b (All-nil IsWord)))

    operate_is : (op : OperateOf) (t u : Tree Op) (a b : ℕ) → V t ≡ word a → V u ≡ word b → V (operate_term op t u) ≡ word (operate_result op a b)
    operate_is op t u a b e f = by (is_unary op)
      where
        by : (k : Bool) → V (if k then o1 op u else o2 op t u) ≡ word (if k then value_at (ops.Operate op) b 0 0 else value_at (ops.Operate op) a b 0)
        by true = ap (λ x. word (value_at (ops.Operate op) (as_word x) 0 0)) f
        by false = ap (λ x. word (value_at (ops.Operate op) (as_word x) (as_word (V u)) 0)) e ∙ ap (λ x. word (value_at (ops.Operate op) a (as_word x) 0)) f

    lda_is : (x : ℕ) (disp : ℤ) → FitsSigned w16 disp → lda x (sign_extended disp) ≡ address x 1 disp
    lda_is x disp fits = sym (low x (sign_extended disp)) ∙ ap (address x 1) (low_bits disp fits)

    ldah_is : (x : ℕ) (disp : ℤ) → FitsSigned w16 disp → ldah x (sign_extended disp) ≡ address x 65536 disp
    ldah_is x disp fits = sym (high x (sign_extended disp)) ∙ ap (address x 65536) (low_bits disp fits)

    lda_term_is : (t : Tree Op) (x : ℕ) (disp : ℤ) → FitsSigned w16 disp → V t ≡ word x → V (w2 ops.Lda t (constant (sign_extended disp))) ≡ word (address x 1 disp)
    lda_term_is t x disp fits e = ap (λ y. word (value_at ops.Lda (as_word y) (sign_extended disp) 0)) e ∙ ap word (lda_value x (sign_extended disp) 0 ∙ lda_is x disp fits)

    ldah_term_is : (t : Tree Op) (x : ℕ) (disp : ℤ) → FitsSigned w16 disp → V t ≡ word x → V (w2 ops.Ldah t (constant (sign_extended disp))) ≡ word (address x 65536 disp)
    ldah_term_is t x disp fits e = ap (λ y. word (value_at ops.Ldah (as_word y) (sign_extended disp) 0)) e ∙ ap word (ldah_value x (sign_extended disp) 0 ∙ ldah_is x disp fits)

    -- the address with a displacement of 0 is the base
    at_base : (x : ℕ) (disp : ℤ) → IsWord x → sign_extended disp ≡ 0 → x ≡ address x 1 disp
    at_base x disp is none = let e : (x + 1 * 0) % 2 ^ 64 ≡ x = omega (arith, is) in sym (ap (λ k. (x + 1 * k) % 2 ^ 64) none ∙ e)

    address_is : (t : Tree Op) (x : ℕ) (disp : ℤ) → FitsSigned w16 disp → IsWord x → V t ≡ word x → V (address_term t disp) ≡ word (address x 1 disp)
    address_is t x disp fits is e = elim (eqb_tells (sign_extended disp) 0) [
      | inl k ↦ ap (λ b. V (if b then t else w2 ops.Lda t (constant (sign_extended disp)))) k.0 ∙ e ∙ ap word (at_base x disp is k.1)
      | inr k ↦ ap (λ b. V (if b then t else w2 ops.Lda t (constant (sign_extended disp)))) k.0 ∙ lda_term_is t x disp fits e
    ]

    word_address : (x scale : ℕ) (disp : ℤ) → IsWord (address x scale disp)
    word_address x scale disp = omega arith

    -- the address of a load or a store
    place_is : (rb : ℕ) (disp : ℤ) → rb < 32 → FitsSigned w16 disp → V (address_term (ts.registers rb) disp) ≡ word (place_of s rb disp)
    place_is rb disp below fits = address_is (ts.registers rb) (slice_index s.registers rb) disp fits (h.words rb below) (h.registers rb below)

    load_step : (access : Access) (ra rb : ℕ) (disp : ℤ) → ra < 32 → rb < 32 → FitsSigned w16 disp → Fine (with_term ts ra (loaded_term access ts rb disp)) (with_loaded access ra rb disp s)
    load_step access ra rb disp low below fits =
        let a = place_of s rb disp in
        wrote ra (loaded access s.memory a) (loaded_term access ts rb disp) low (is_loaded access s.memory a h.is_memory)
        (ap (λ m. word (loaded access (as_memory m) (as_word (V (address_term (ts.registers rb) disp))))) h.memory_is
        ∙ ap (λ y. word (loaded access s.memory (as_word y))) (place_is rb disp below fits))

    store_step : (access : Access) (ra rb : ℕ) (disp : ℤ) → ra < 32 → rb < 32 → FitsSigned w16 disp → Fine (with_memory ts (stored_term access ts ra rb disp)) (with_stored access ra rb disp s)
    store_step access ra rb disp low below fits =
        let a = place_of s rb disp in
        let v = slice_index s.registers ra in
        let t = address_term (ts.registers rb) disp in
        record {
          count = h.count;
          words = h.words;
          registers = h.registers;
          is_memory = is_stored access s.memory a v h.is_memory (word_address (slice_index s.registers rb) 1 disp) (h.words ra low);
          memory_is =
              ap (λ m. memory (stored access (as_memory m) (as_word (V t)) (as_word (V (ts.registers ra))))) h.memory_is
              ∙ ap (λ y. memory (stored access s.memory (as_word y) (as_word (V (ts.registers ra))))) (place_is rb disp below fits)
              ∙ ap (λ y. memory (stored access s.memory a (as_word y))) (h.registers ra low);
        }

    -- one instruction
    pub one_step : (i : Instr) → IsWellFormed i → Fine (term_step i ts) (step i s)
    one_step (Operate op ra second rc) wf =
        let a = slice_index s.registers ra in
        let b = second_value second s.registers in
        wrote rc (operate_result op a b) (operate_term op (ts.registers ra) (second_term second ts.registers)) wf.2
        (operate_word op a b (h.words ra wf.0) (second_word second wf.1))
        (operate_is op (ts.registers ra) (second_term second ts.registers) a b (h.registers ra wf.0) (second_is second wf.1))
    one_step (Lda ra rb disp) wf =
        let x = slice_index s.registers rb in
        wrote ra (address x 1 disp) (w2 ops.Lda (ts.registers rb) (constant (sign_extended disp))) wf.0 (word_address x 1 disp)
        (lda_term_is (ts.registers rb) x disp wf.2 (h.registers rb wf.1))
    one_step (Ldah ra rb disp) wf =
        let x = slice_index s.registers rb in
        wrote ra (address x 65536 disp) (w2 ops.Ldah (ts.registers rb) (constant (sign_extended disp))) wf.0 (word_address x 65536 disp)
        (ldah_term_is (ts.registers rb) x disp wf.2 (h.registers rb wf.1))
    one_step (Load access ra rb disp) wf = load_step access ra rb disp wf.0 wf.1 wf.2
    one_step (Store access ra rb disp) wf = store_step access ra rb disp wf.0 wf.1 wf.2
    one_step (Ldq ra rb disp) wf = load_step Quad ra rb disp wf.0 wf.1 wf.2
    one_step (Stq ra rb disp) wf = store_step Quad ra rb disp wf.0 wf.1 wf.2
    one_step (Beq ra disp) wf = record { count = h.count; words = h.words; registers = h.registers; is_memory = h.is_memory; memory_is = h.memory_is }

    -- an address whose term has such a multiple for its value is one
    at_multiple : (n rb : ℕ) (disp : ℤ) → rb < 32 → FitsSigned w16 disp → as_word (V (address_term (ts.registers rb) disp)) % 2 ^ n ≡ 0 → is_multiple n (place_of s rb disp) ≡ true
    at_multiple zero rb disp below fits e = refl
    at_multiple (suc n) rb disp below fits e =
        let zero_rest : place_of s rb disp % 2 ^ suc n ≡ 0 = sym (ap (λ v. as_word v % 2 ^ suc n) (place_is rb disp below fits)) ∙ e in
        ap (λ k. k == 0) zero_rest

    at_needed : (n rb : ℕ) (disp : ℤ) → rb < 32 → FitsSigned w16 disp → ((k : ℕ) → needed_alignment n ≡ Some k → as_word (V (address_term (ts.registers rb) disp)) % 2 ^ k ≡ 0) → is_multiple n (place_of s rb disp) ≡ true
    at_needed zero rb disp below fits multiple = refl
    at_needed (suc n) rb disp below fits multiple = at_multiple (suc n) rb disp below fits (multiple (suc n) refl)

    -- a load to register 31 doesn't trap
    prefetch : (b : Bool) → not b && not true ≡ false
    prefetch true = refl
    prefetch false = refl

    loads : (n ra rb : ℕ) (disp : ℤ) → ((ra == 31) ≡ false → is_multiple n (place_of s rb disp) ≡ true) → (not (is_multiple n (place_of s rb disp)) && not (ra == 31)) ≡ false
    loads n ra rb disp h = elim (eqb_tells ra 31) [
      | inl k ↦ ap (λ b. not (is_multiple n (place_of s rb disp)) && not b) k.0 ∙ prefetch (is_multiple n (place_of s rb disp))
      | inr k ↦ ap (λ b. not b && not (ra == 31)) (h k.0)
    ]

    -- an instruction whose address is the multiple that it must be doesn't trap
    pub no_trap : (i : Instr) → IsWellFormed i → ((n : ℕ) → alignment i ≡ Some n → as_word (V (place_term i ts)) % 2 ^ n ≡ 0) → IsFalse (traps i s)
    no_trap (Operate op ra second rc) wf multiple = refl
    no_trap (Lda ra rb disp) wf multiple = refl
    no_trap (Ldah ra rb disp) wf multiple = refl
    no_trap (Load access ra rb disp) wf multiple =
        loads (accesses.alignment access) ra rb disp
        (λ e. at_needed (accesses.alignment access) rb disp wf.1 wf.2 (λ k f. multiple k (ap (λ b. if b then None else needed_alignment (accesses.alignment access)) e ∙ f)))
    no_trap (Store access ra rb disp) wf multiple = ap not (at_needed (accesses.alignment access) rb disp wf.1 wf.2 multiple)
    no_trap (Ldq ra rb disp) wf multiple =
        loads 3 ra rb disp (λ e. at_multiple 3 rb disp wf.1 wf.2 (multiple 3 (ap (λ b. if b then None else Some 3) e)))
    no_trap (Stq ra rb disp) wf multiple = ap not (at_multiple 3 rb disp wf.1 wf.2 (multiple 3 refl))
    no_trap (Beq ra disp) wf multiple = refl

  -- instructions in a line
  pub all_steps : (is : List Instr) (ts : TermState) (s : MachineState) → All IsWellFormed is → Fine ts s → Fine (terms_from is ts) (after_all is s)
  all_steps [] ts s wf h = h
  all_steps (i ∷ is) ts s wf h =
      all_steps is (term_step i ts) (step i s) (All-tail IsWellFormed i is wf) (one_step ts s h i (All-head IsWellFormed i is wf))

-- before the first word
pub first_values : (w : World) (names : ℕ → List ℕ) → IsWorld w → HaveValues w names terms_at_entry (entry_state w)
first_values w names is = record {
  count = is.registers;
  words = λ r below. All-get_or IsWord w.registers r 0 (let c = is.registers in omega arith) is.each;
  registers = λ r below. by r;
  is_memory = is.memory_is;
  memory_is = refl;
}
  where
    by : (r : ℕ) → value_in w names [] (if r == 31 then constant 0 else input_term r) ≡ word (slice_index w.registers r)
    by r = elim (eqb_tells r 31) [
      | inl k ↦ ap (λ b. value_in w names [] (if b then constant 0 else input_term r)) k.0 ∙ sym (ap word (ap (slice_index w.registers) k.1 ∙ is.zero_register))
      | inr k ↦ ap (λ b. value_in w names [] (if b then constant 0 else input_term r)) k.0
    ]
