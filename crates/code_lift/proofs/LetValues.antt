-- The lets of a lift have the values that its words compute, one word after the other.
use Rattle.std.proofs.Common.{◌≡◌, ◌≢◌, ℕ, ℤ, ◌+◌, ◌*◌, ◌%◌, ◌^◌, ◌<◌, ◌≤◌, List, [], ◌∷◌, ◌++◌, length, refl, sym, ◌∙◌, ap, subst, inl, inr, arith, Bool, true, false, ◌==◌, set, Option, Some, None}
use Rattle.std.specs.Prelude.{◌||◌, FitsSigned, is_some, slice_index, slice_index_or, if◌then◌else◌}
use Rattle.std.specs.Int.{cast_unsigned, w16, w64}
use Rattle.std.proofs.lemmas.Bool.Decides.{eqb_tells, nat_tests}
use Rattle.std.proofs.lemmas.Int.{ints}
use Rattle.std.proofs.lemmas.List.{get_or-set_other, get_or-set_same, get_or_append_left, length-append, length-map, length-set, map-append}
use Rattle.std.proofs.Math.Seq.{get_or-append_seam}
use Rattle.word_ops.specs.declared.operates.Operate.{Operate as OperateOf}
use Rattle.word_ops.specs.declared.operates.Operate.TheVariants.{Addq}
use Rattle.word_ops.specs.declared.operators.WordOp.TheVariants as ops
use Rattle.word_ops.specs.declared.sorts.Access.{Access}
use Rattle.word_ops.specs.declared.sorts.Access.TheVariants.{Quad}
use Rattle.word_ops.specs.declared.sorts.Op.{Op}
use Rattle.word_ops.specs.Meanings.{as_memory, as_word}
use Rattle.word_ops.specs.Memory.{Memory, loaded, stored}
use Rattle.word_ops.specs.Operators.{operate_value, value_at}
use Rattle.word_ops.specs.Values.{addq}
use Rattle.word_ops.specs.Words.{IsWord}
use Rattle.word_ops.specs.Worlds.{Value as WorldValue, World, memory, word}
use Rattle.word_terms.specs.Building.{constant, o1, o2, read_of, written_of}
use Rattle.word_terms.specs.Tree.{Tree, substituted, variable}
use Rattle.alpha_encode.specs.Codes.{is_unary}
use Rattle.alpha_encode.specs.Formats.{IsSecond, IsWellFormed}
use Rattle.alpha_encode.specs.declared.instructions.Instr.{Instr}
use Rattle.alpha_encode.specs.declared.instructions.Instr.TheVariants.{Operate, Lda, Ldah, Load, Store, Ldq, Stq, Beq}
use Rattle.alpha_encode.specs.declared.instructions.Second.{Second}
use Rattle.alpha_encode.specs.declared.instructions.Second.TheVariants.{Literal, Reg}
use Rattle.alpha_machine.specs.States.{MachineState}
use Rattle.alpha_machine.specs.Steps.{address, next_pc, operate_result, place_of, second_value, step}
use Rattle.goal_meaning.specs.Expanded.{expanded_terms, let_values}
use Rattle.goal_meaning.specs.Holds.{goal_value}
use Rattle.goal_meaning.specs.Views.{LetTree}
use Rattle.register_assign.specs.Obeys.{reads}
use Rattle.code_check.specs.Terms.{operate_term, second_term, sign_extended}
use Rattle.code_lift.specs.Lifted.{Lifting, counts, high_word, latest_of, latest_with, let_of, lift_step, lifted_by, lifted_term, memory_term, memory_value, displaced_term, read_also, register_term, sum_term, trapping_address, value_term, with_address}
use Rattle.code_lift.specs.declared.lifting.Value.{Value}
use Rattle.code_lift.specs.declared.lifting.Value.TheVariants.{Entry, Let, Zero}

-- ---- terms of lets

pub expanded_push : (before ts : List (Tree Op)) (t : Tree Op) → expanded_terms before (ts ++ t ∷ []) ≡ expanded_terms before ts ++ substituted (expanded_terms before ts) t ∷ []
expanded_push before [] t = refl
expanded_push before (u ∷ ts) t = expanded_push (before ++ substituted before u ∷ []) ts t

expanded_long : (before ts : List (Tree Op)) → length (expanded_terms before ts) ≡ length before + length ts
expanded_long before [] = omega arith
expanded_long before (u ∷ ts) =
    let more = length-append before (substituted before u ∷ []) in
    let rest = expanded_long (before ++ substituted before u ∷ []) ts in
    omega (arith, more, rest)

-- what each let stands for
abbrev pub terms_of : Lifting → List (Tree Op)
terms_of s = expanded_terms [] (let_values s.lets)

pub terms_count : (s : Lifting) → length (terms_of s) ≡ length s.lets
terms_count s =
    let many = expanded_long [] (let_values s.lets) in
    let lets = length-map s.lets (λ (l : LetTree). l.value) in
    omega (arith, many, lets)

-- the value is that of no let from number n on
abbrev pub IsBelow : ℕ → Value → Type 0
IsBelow n (Let k) = k < n
IsBelow n _ = Unit {0}

abbrev pub IsMemoryBelow : ℕ → Option ℕ → Type 0
IsMemoryBelow n None = Unit {0}
IsMemoryBelow n (Some k) = k < n

pub below_more : (n : ℕ) (v : Value) → IsBelow n v → IsBelow (n + 1) v
below_more n (Let k) h = omega (arith, h)
below_more n (Entry r) h = tt
below_more n Zero h = tt

memory_below_more : (n : ℕ) (o : Option ℕ) → IsMemoryBelow n o → IsMemoryBelow (n + 1) o
memory_below_more n None h = tt
memory_below_more n (Some k) h = omega (arith, h)

stays : (es : List (Tree Op)) (t : Tree Op) (v : Value) → IsBelow (length es) v → substituted (es ++ t ∷ []) (value_term v) ≡ substituted es (value_term v)
stays es t (Let k) h = get_or_append_left es (t ∷ []) (variable k) k h
stays es t (Entry r) h = refl
stays es t Zero h = refl

memory_stays : (es : List (Tree Op)) (t : Tree Op) (o : Option ℕ) → IsMemoryBelow (length es) o → substituted (es ++ t ∷ []) (memory_value o) ≡ substituted es (memory_value o)
memory_stays es t (Some k) h = get_or_append_left es (t ∷ []) (variable k) k h
memory_stays es t None h = refl

new_let : (es : List (Tree Op)) (t : Tree Op) (n : ℕ) → length es ≡ n → substituted (es ++ t ∷ []) (variable n) ≡ t
new_let es t n e = ap (λ k. slice_index_or (es ++ t ∷ []) k (variable n)) (sym e) ∙ get_or-append_seam es t [] (variable n)

-- ---- behind one let more

module _ (at : ℕ) (i : Instr) (s : Lifting) where
  abbrev n : ℕ
  n = length s.lets

  abbrev made : Tree Op
  made = substituted (terms_of s) (lifted_term i s)

  terms_more : expanded_terms [] (let_values (s.lets ++ let_of at i s ∷ [])) ≡ terms_of s ++ made ∷ []
  terms_more = ap (expanded_terms []) (map-append (λ (l : LetTree). l.value) s.lets (let_of at i s ∷ [])) ∙ expanded_push [] (let_values s.lets) (lifted_term i s)

  lets_more : length (s.lets ++ let_of at i s ∷ []) ≡ n + 1
  lets_more = length-append s.lets (let_of at i s ∷ [])

  abbrev later : List (Tree Op)
  later = expanded_terms [] (let_values (s.lets ++ let_of at i s ∷ []))

  pub old_value : (v : Value) → IsBelow n v → substituted later (value_term v) ≡ substituted (terms_of s) (value_term v)
  old_value v h =
      ap (λ es. substituted es (value_term v)) terms_more
      ∙ stays (terms_of s) made v (subst (λ k. IsBelow k v) (sym (terms_count s)) h)

  old_memory : (o : Option ℕ) → IsMemoryBelow n o → substituted later (memory_value o) ≡ substituted (terms_of s) (memory_value o)
  old_memory o h =
      ap (λ es. substituted es (memory_value o)) terms_more
      ∙ memory_stays (terms_of s) made o (subst (λ k. IsMemoryBelow k o) (sym (terms_count s)) h)

  new_value : substituted later (variable n) ≡ made
  new_value = ap (λ es. substituted es (variable n)) terms_more ∙ new_let (terms_of s) made n (terms_count s)

  -- the lifting behind the instruction, by whether it stores and by the register that it writes
  abbrev behind : Bool → Option ℕ → Lifting
  behind st o = if st || is_some o then record {
    latest = latest_with s.latest (Let n) o;
    memory = if st then Some n else s.memory;
    is_read = read_also (reads i) s.latest s.is_read;
    lets = s.lets ++ let_of at i s ∷ [];
    addresses = with_address s.addresses (trapping_address i s);
  } else s

-- what was known before is so behind it
pub record IsKept (s t : Lifting) : Type 0 where
  pub long : length s.lets ≤ length t.lets
  pub same : (v : Value) → IsBelow (length s.lets) v → substituted (terms_of t) (value_term v) ≡ substituted (terms_of s) (value_term v)

pub kept_step : (at : ℕ) (i : Instr) (s : Lifting) → IsKept s (lift_step at i s)
kept_step at i s = by (counts i)
  where
    by : (b : Bool) → IsKept s (if b then lifted_by at i s else s)
    by true = record { long = (let more = lets_more at i s in omega (arith, more)); same = old_value at i s }
    by false = record { long = omega arith; same = λ v h. refl }

-- ---- arithmetic

addq_value : (a b c : ℕ) → value_at (ops.Operate Addq) a b c ≡ (a + b) % 2 ^ 64
unfolding value_at operate_value addq
addq_value a b c = refl

pub one_times : (x k : ℕ) → (x + k) % 2 ^ 64 ≡ (x + 1 * k) % 2 ^ 64
one_times x k = (let e : k ≡ 1 * k = omega arith in ap (λ j. (x + j) % 2 ^ 64) e)

high_is : (disp : ℤ) → FitsSigned w16 disp → high_word disp ≡ (65536 * cast_unsigned w64 disp) % 2 ^ 64
high_is disp fits = grind (arith, nat_tests, ints)

high_sum : (x h k : ℕ) → h ≡ (65536 * k) % 2 ^ 64 → (x + h) % 2 ^ 64 ≡ (x + 65536 * k) % 2 ^ 64
high_sum x h k e = omega (arith, e)

-- ---- values

-- registers and memory of the machine are words
pub record AreWords (m : MachineState) : Type 0 where
  pub count : length m.registers ≡ 32
  pub words : (r : ℕ) → r < 32 → IsWord (slice_index m.registers r)

module _ (w : World) where
  abbrev pub V : Tree Op → WorldValue
  V t = goal_value [] w t

  -- the latest values are those of the machine
  pub record Fits (s : Lifting) (m : MachineState) : Type 0 where
    pub count : length s.latest ≡ 32
    pub below : (r : ℕ) → IsBelow (length s.lets) (latest_of s r)
    pub memory_below : IsMemoryBelow (length s.lets) s.memory
    pub registers : (r : ℕ) → r < 32 → V (substituted (terms_of s) (register_term s r)) ≡ word (slice_index m.registers r)
    pub memory_is : V (substituted (terms_of s) (memory_term s)) ≡ memory m.memory

  pub sum_is : (es : List (Tree Op)) (base : Tree Op) (x k : ℕ) → IsWord x → V (substituted es base) ≡ word x → V (substituted es (sum_term base k)) ≡ word ((x + k) % 2 ^ 64)
  sum_is es base x k is e = elim (eqb_tells k 0) [
    | inl z ↦ (
        let none = z.1 in
        let same : x ≡ (x + k) % 2 ^ 64 = omega (arith, is, none) in
        ap (λ b. V (substituted es (if b then base else o2 Addq base (constant k)))) z.0 ∙ e ∙ ap word same)
    | inr z ↦
        ap (λ b. V (substituted es (if b then base else o2 Addq base (constant k)))) z.0
        ∙ ap (λ y. word (value_at (ops.Operate Addq) (as_word y) k 0)) e ∙ ap word (addq_value x k 0)
  ]

  module _ (s : Lifting) (m : MachineState) (h : Fits s m) (are : AreWords m) where
    abbrev es : List (Tree Op)
    es = terms_of s

    abbrev reg : ℕ → ℕ
    reg r = slice_index m.registers r

    pub place_is : (rb : ℕ) (disp : ℤ) → rb < 32 → V (substituted es (displaced_term s rb disp)) ≡ word (place_of m rb disp)
    place_is rb disp low =
        sum_is es (register_term s rb) (reg rb) (sign_extended disp) (are.words rb low) (h.registers rb low)
        ∙ ap word (one_times (reg rb) (sign_extended disp))

    second_is : (second : Second) → IsSecond second → V (substituted es (second_term second (register_term s))) ≡ word (second_value second m.registers)
    second_is (Reg r) is = h.registers r is
    second_is (Literal k) is = refl

    operate_is : (op : OperateOf) (ra : ℕ) (second : Second) → ra < 32 → IsSecond second
        → V (substituted es (operate_term op (register_term s ra) (second_term second (register_term s)))) ≡ word (operate_result op (reg ra) (second_value second m.registers))
    operate_is op ra second low is = by (is_unary op)
      where
        by : (u : Bool) → V (substituted es (if u then o1 op (second_term second (register_term s)) else o2 op (register_term s ra) (second_term second (register_term s))))
            ≡ word (if u then value_at (ops.Operate op) (second_value second m.registers) 0 0 else value_at (ops.Operate op) (reg ra) (second_value second m.registers) 0)
        by true = ap (λ y. word (value_at (ops.Operate op) (as_word y) 0 0)) (second_is second is)
        by false =
            ap (λ x. word (value_at (ops.Operate op) (as_word x) (as_word (V (substituted es (second_term second (register_term s))))) 0)) (h.registers ra low)
            ∙ ap (λ y. word (value_at (ops.Operate op) (reg ra) (as_word y) 0)) (second_is second is)

    loaded_is : (access : Access) (rb : ℕ) (disp : ℤ) → rb < 32 → V (substituted es (read_of access (memory_term s) (displaced_term s rb disp))) ≡ word (loaded access m.memory (place_of m rb disp))
    loaded_is access rb disp low =
        ap (λ x. word (loaded access (as_memory x) (as_word (V (substituted es (displaced_term s rb disp)))))) h.memory_is
        ∙ ap (λ y. word (loaded access m.memory (as_word y))) (place_is rb disp low)

    stored_is : (access : Access) (ra rb : ℕ) (disp : ℤ) → ra < 32 → rb < 32
        → V (substituted es (written_of access (memory_term s) (displaced_term s rb disp) (register_term s ra))) ≡ memory (stored access m.memory (place_of m rb disp) (reg ra))
    stored_is access ra rb disp low below =
        ap (λ x. memory (stored access (as_memory x) (as_word (V (substituted es (displaced_term s rb disp)))) (as_word (V (substituted es (register_term s ra)))))) h.memory_is
        ∙ ap (λ y. memory (stored access m.memory (as_word y) (as_word (V (substituted es (register_term s ra)))))) (place_is rb disp below)
        ∙ ap (λ y. memory (stored access m.memory (place_of m rb disp) (as_word y))) (h.registers ra low)

    module _ (at : ℕ) (i : Instr) where
      abbrev value_now : ℕ → ℕ → Value
      value_now r q = slice_index_or (set s.latest r (Let (n at i s))) q Zero

      at_r : (r q : ℕ) → r < 32 → q ≡ r → value_now r q ≡ Let (n at i s)
      at_r r q low k = ap (value_now r) k ∙ get_or-set_same s.latest r (Let (n at i s)) Zero (let c = h.count in omega (arith, c, low))

      other : (r q : ℕ) → q ≢ r → value_now r q ≡ latest_of s q
      other r q k = get_or-set_other s.latest r q (Let (n at i s)) Zero k

      new_below : n at i s < n at i s + 1
      new_below = omega arith

      below_now : (r q : ℕ) → r < 32 → IsBelow (length (s.lets ++ let_of at i s ∷ [])) (value_now r q)
      below_now r q low = subst (λ k. IsBelow k (value_now r q)) (sym (lets_more at i s)) (elim (eqb_tells q r) [
        | inl k ↦ subst (IsBelow (n at i s + 1)) (sym (at_r r q low k.1)) new_below
        | inr k ↦ subst (IsBelow (n at i s + 1)) (sym (other r q k.1)) (below_more (n at i s) (latest_of s q) (h.below q))
      ])

      registers_now : (r v : ℕ) → r < 32 → V (made at i s) ≡ word v → (q : ℕ) → q < 32
          → V (substituted (later at i s) (value_term (value_now r q))) ≡ word (slice_index (set m.registers r v) q)
      registers_now r v low e q below = elim (eqb_tells q r) [
        | inl k ↦
            ap (λ x. V (substituted (later at i s) (value_term x))) (at_r r q low k.1) ∙ ap V (new_value at i s) ∙ e
            ∙ sym (ap word (ap (slice_index (set m.registers r v)) k.1 ∙ get_or-set_same m.registers r v 0 (let c = are.count in omega (arith, c, low))))
        | inr k ↦
            ap (λ x. V (substituted (later at i s) (value_term x))) (other r q k.1) ∙ ap V (old_value at i s (latest_of s q) (h.below q)) ∙ h.registers q below
            ∙ sym (ap word (get_or-set_other m.registers r q v 0 k.1))
      ]

      -- a register is written
      wrote : (r v : ℕ) → r < 32 → V (made at i s) ≡ word v → (b : Bool)
          → Fits (behind at i s false (if b then None else Some r)) (record { registers = if b then m.registers else set m.registers r v; memory = m.memory; pc = next_pc m.pc })
      wrote r v low e true = record { count = h.count; below = h.below; memory_below = h.memory_below; registers = h.registers; memory_is = h.memory_is }
      wrote r v low e false = record {
        count = length-set s.latest r (Let (n at i s)) ∙ h.count;
        below = λ q. below_now r q low;
        memory_below = subst (λ k. IsMemoryBelow k s.memory) (sym (lets_more at i s)) (memory_below_more (n at i s) s.memory h.memory_below);
        registers = registers_now r v low e;
        memory_is = ap V (old_memory at i s s.memory h.memory_below) ∙ h.memory_is;
      }

      -- the memory is written
      left : (m2 : Memory) → V (made at i s) ≡ memory m2 → Fits (behind at i s true None) (record { registers = m.registers; memory = m2; pc = next_pc m.pc })
      left m2 e = record {
        count = h.count;
        below = λ r. subst (λ k. IsBelow k (latest_of s r)) (sym (lets_more at i s)) (below_more (n at i s) (latest_of s r) (h.below r));
        memory_below = subst (λ k. IsMemoryBelow k (Some (n at i s))) (sym (lets_more at i s)) new_below;
        registers = λ r low. ap V (old_value at i s (latest_of s r) (h.below r)) ∙ h.registers r low;
        memory_is = ap V (new_value at i s) ∙ e;
      }

    -- one instruction
    pub fits_step : (at : ℕ) (i : Instr) → IsWellFormed i → Fits (lift_step at i s) (step i m)
    fits_step at (Operate op ra second rc) wf =
        wrote at (Operate op ra second rc) rc (operate_result op (reg ra) (second_value second m.registers)) wf.2
        (operate_is op ra second wf.0 wf.1) (rc == 31)
    fits_step at (Lda ra rb disp) wf = wrote at (Lda ra rb disp) ra (address (reg rb) 1 disp) wf.0 (place_is rb disp wf.1) (ra == 31)
    fits_step at (Ldah ra rb disp) wf =
        wrote at (Ldah ra rb disp) ra (address (reg rb) 65536 disp) wf.0
        (sum_is es (register_term s rb) (reg rb) (high_word disp) (are.words rb wf.1) (h.registers rb wf.1)
        ∙ ap word (high_sum (reg rb) (high_word disp) (cast_unsigned w64 disp) (high_is disp wf.2))) (ra == 31)
    fits_step at (Load access ra rb disp) wf =
        wrote at (Load access ra rb disp) ra (loaded access m.memory (place_of m rb disp)) wf.0 (loaded_is access rb disp wf.1) (ra == 31)
    fits_step at (Store access ra rb disp) wf =
        left at (Store access ra rb disp) (stored access m.memory (place_of m rb disp) (reg ra)) (stored_is access ra rb disp wf.0 wf.1)
    fits_step at (Ldq ra rb disp) wf =
        wrote at (Ldq ra rb disp) ra (loaded Quad m.memory (place_of m rb disp)) wf.0 (loaded_is Quad rb disp wf.1) (ra == 31)
    fits_step at (Stq ra rb disp) wf =
        left at (Stq ra rb disp) (stored Quad m.memory (place_of m rb disp) (reg ra)) (stored_is Quad ra rb disp wf.0 wf.1)
    fits_step at (Beq ra disp) wf = record { count = h.count; below = h.below; memory_below = h.memory_below; registers = h.registers; memory_is = h.memory_is }
