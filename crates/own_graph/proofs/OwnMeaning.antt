-- What each class of the rows of words has as its value in a world: what the lets of their goal have.
use Rattle.std.proofs.Common.{◌≡◌, ℕ, ℤ, ◌+◌, ◌-◌, ◌*◌, ◌%◌, ◌^◌, ◌<◌, ◌≤◌, ◌==◌, Bool, true, false, List, [], ◌∷◌, ◌++◌, length, map, Option, Some, None, refl, sym, ap, ap₂, ◌∙◌, subst, inl, inr, arith, FitsSigned, w16, fold, is_some, if◌then◌else◌, slice_index, All}
use Rattle.std.specs.Int.{cast_signed, cast_unsigned, w64}
use Rattle.std.proofs.lemmas.Bool.{cases_lt}
use Rattle.std.proofs.lemmas.Bool.Decides.{eqb_tells, nat_tests}
use Rattle.std.proofs.lemmas.Int.{ints}
use Rattle.std.proofs.lemmas.List.{get_or_append_left, get_or_push, length-append, length-map, length_push, map-append}
use Rattle.std.proofs.lemmas.List.Elements.{All-head, All-tail, All-weaker}
use Rattle.std.proofs.lemmas.Nat.{and_comm}
use Rattle.word_ops.specs.Meanings.{as_memory, as_word, sort_of}
use Rattle.word_ops.specs.Memory.{Memory, load, loaded, put, stored}
use Rattle.word_ops.specs.Operators.{operate_value, value_at}
use Rattle.word_ops.specs.Values.{addq, and, lda, ldah}
use Rattle.word_ops.specs.Words.{IsWord}
use Rattle.word_ops.specs.Worlds.{IsValue, Value as WorldValue, World, memory, word}
use Rattle.word_ops.specs.declared.operates.Operate.{Operate as OperateOf}
use Rattle.word_ops.specs.declared.operates.Operate.TheVariants.{Addq, And}
use Rattle.word_ops.specs.declared.operators.WordOp.TheVariants as words
use Rattle.word_ops.specs.declared.sorts.Access.{Access}
use Rattle.word_ops.specs.declared.sorts.Access.TheVariants.{Quad}
use Rattle.word_ops.specs.declared.sorts.Op.{Op}
use Rattle.word_ops.specs.declared.sorts.Op.TheVariants as ops
use Rattle.word_ops.specs.declared.sorts.Sort.TheVariants as sorts
use Rattle.word_terms.specs.Building.{constant, o1, o2, read_of, written_of}
use Rattle.word_terms.specs.Tree.{Tree, substituted, variable}
use Rattle.alpha_encode.specs.Codes.{is_unary}
use Rattle.alpha_encode.specs.Formats.{IsWellFormed}
use Rattle.alpha_encode.specs.declared.instructions.Instr.{Instr}
use Rattle.alpha_encode.specs.declared.instructions.Instr.TheVariants.{Operate, Lda, Ldah, Load, Store, Ldq, Stq, Beq}
use Rattle.alpha_encode.specs.declared.instructions.Second.{Second}
use Rattle.alpha_encode.specs.declared.instructions.Second.TheVariants.{Literal, Reg}
use Rattle.alpha_machine.specs.Steps.{address}
use Rattle.goal_meaning.specs.Expanded.{expanded_terms, let_values}
use Rattle.goal_meaning.specs.Holds.{goal_value}
use Rattle.goal_meaning.specs.Views.{LetTree}
use Rattle.graph_meaning.specs.Graphs.{plain_row}
use Rattle.graph_meaning.specs.declared.graphs.LaunchRow.{LaunchRow}
use Rattle.code_check.specs.Terms.{second_term, sign_extended}
use Rattle.code_lift.specs.Lifted.{Lifting, assume_of, at_start, counts, high_word, latest_of, let_of, lift_step, lifted_by, lifted_from, lifted_term, memory_term, memory_value, register_term, sum_term, value_term}
use Rattle.code_lift.specs.declared.lifting.Address.{Address}
use Rattle.code_lift.specs.declared.lifting.Value.{Value}
use Rattle.code_lift.specs.declared.lifting.Value.TheVariants.{Entry, Let, Zero}
use Rattle.own_graph.specs.Own.{Own, address_part, and_op, memory_part, number, operand_parts, own_by, own_from, own_op, own_start, own_step, register_part, second_part, stands_in, value_part, with_address, with_low_bits, with_multiple, with_row_of}
use Rattle.own_graph.specs.Rows.{HasItsRow, applied_class, class_in, class_of_part, with_applied, with_leaves, with_row}
use Rattle.own_graph.specs.declared.operands.Part.{Part}
use Rattle.own_graph.specs.declared.operands.Part.TheVariants.{Class}
use Rattle.own_graph.proofs.FoundRows.{IsLonger, applied_behind, have_rows, leaves_behind, not_longer}
use Rattle.own_graph.proofs.OwnAddresses.{IsKnownAddress, IsKnownValue, IsShort, address_is, address_keeps, address_stays, low_mask, multiple_behind, multiple_keeps, number_is, own_entry, own_input_op, own_word, short_word, two_sorts, value_is}
use Rattle.own_graph.proofs.OwnRows.{AreOwnRows, HasSort, IsPart, applied_sort, leaves_keep, part_sort, part_stays_own, row_keeps}
use Rattle.own_graph.proofs.OwnSteps.{Fits, IsKnown, IsKnownMemory, entry_rows, known_latest, known_step, no_rows, operands_fit}
use Rattle.own_graph.proofs.OwnValues.{AreTold, M, MeaningsAreInRange, P, V, applied_says, applied_told, class_low, class_value, leaves_told, more_values, part_says, row_told, told_again, value_stays, values_of}

-- ---- terms of lets

expanded_push : (before ts : List (Tree Op)) (t : Tree Op) → expanded_terms before (ts ++ t ∷ []) ≡ expanded_terms before ts ++ substituted (expanded_terms before ts) t ∷ []
expanded_push before [] t = refl
expanded_push before (u ∷ ts) t = expanded_push (before ++ substituted before u ∷ []) ts t

expanded_long : (before ts : List (Tree Op)) → length (expanded_terms before ts) ≡ length before + length ts
expanded_long before [] = omega arith
expanded_long before (u ∷ ts) =
    let more = length-append before (substituted before u ∷ []) in
    let rest = expanded_long (before ++ substituted before u ∷ []) ts in
    omega (arith, more, rest)

-- what each let stands for
abbrev pub terms_of : List LetTree → List (Tree Op)
terms_of lets = expanded_terms [] (let_values lets)

terms_count : (lets : List LetTree) → length (terms_of lets) ≡ length lets
terms_count lets =
    let many = expanded_long [] (let_values lets) in
    let same = length-map lets (λ (l : LetTree). l.value) in
    omega (arith, many, same)

terms_more : (lets : List LetTree) (l : LetTree) → terms_of (lets ++ l ∷ []) ≡ terms_of lets ++ substituted (terms_of lets) l.value ∷ []
terms_more lets l = ap (expanded_terms []) (map-append (λ (k : LetTree). k.value) lets (l ∷ [])) ∙ expanded_push [] (let_values lets) l.value

-- ---- arithmetic

addq_value : (a b c : ℕ) → value_at (words.Operate Addq) a b c ≡ (a + b) % 2 ^ 64
unfolding value_at operate_value addq
addq_value a b c = refl

and_value : (a b c : ℕ) → value_at (words.Operate And) a b c ≡ and a b
unfolding value_at operate_value
and_value a b c = refl

and_turned : (a b : ℕ) → and a b ≡ and b a
unfolding and
and_turned a b = and_comm a b

lda_value : (a b c : ℕ) → value_at words.Lda a b c ≡ lda a b
unfolding value_at
lda_value a b c = refl

ldah_value : (a b c : ℕ) → value_at words.Ldah a b c ≡ ldah a b
unfolding value_at
ldah_value a b c = refl

load_value : (access : Access) (m : Memory) (x k : ℕ) → load access m x k ≡ loaded access m (lda x k)
unfolding load
load_value access m x k = refl

put_value : (access : Access) (m : Memory) (x k v : ℕ) → put access m x k v ≡ stored access m (lda x k) v
unfolding put
put_value access m x k v = refl

low_bits : (disp : ℤ) → FitsSigned w16 disp → cast_signed w16 (cast_unsigned w64 disp % 2 ^ 16) ≡ disp
low_bits disp fits = grind (arith, nat_tests, ints)

one_times : (x k : ℕ) → (x + 1 * k) % 2 ^ 64 ≡ (x + k) % 2 ^ 64
one_times x k = (let e : 1 * k ≡ k = omega arith in ap (λ j. (x + j) % 2 ^ 64) e)

high_is : (disp : ℤ) → FitsSigned w16 disp → high_word disp ≡ (65536 * cast_unsigned w64 disp) % 2 ^ 64
high_is disp fits = grind (arith, nat_tests, ints)

high_sum : (x h k : ℕ) → h ≡ (65536 * k) % 2 ^ 64 → (x + 65536 * k) % 2 ^ 64 ≡ (x + h) % 2 ^ 64
high_sum x h k e = omega (arith, e)

-- what lda and ldah give for the words of displacements
pub record AreDisplaced : Type 0 where
  pub low : (x k : ℕ) → address x 1 (cast_signed w16 (k % 2 ^ 16)) ≡ lda x k
  pub high : (x k : ℕ) → address x 65536 (cast_signed w16 (k % 2 ^ 16)) ≡ ldah x k

word_again : (v : WorldValue) → IsValue sorts.Word v → v ≡ word (as_word v)
word_again (word n) h = refl
word_again (memory m) h = absurd h

is_word : (v : WorldValue) → IsValue sorts.Word v → IsWord (as_word v)
is_word (word n) h = h
is_word (memory m) h = absurd h

module _ (w : World) (in_range : MeaningsAreInRange w) (displaced : AreDisplaced) where
  lda_is : (x : ℕ) (disp : ℤ) → FitsSigned w16 disp → lda x (sign_extended disp) ≡ (x + sign_extended disp) % 2 ^ 64
  lda_is x disp fits = sym (displaced.low x (sign_extended disp)) ∙ ap (address x 1) (low_bits disp fits) ∙ one_times x (sign_extended disp)

  ldah_is : (x : ℕ) (disp : ℤ) → FitsSigned w16 disp → ldah x (sign_extended disp) ≡ (x + high_word disp) % 2 ^ 64
  ldah_is x disp fits =
      sym (displaced.high x (sign_extended disp)) ∙ ap (address x 65536) (low_bits disp fits)
      ∙ high_sum x (high_word disp) (cast_unsigned w64 disp) (high_is disp fits)

  lda_short : (x n : ℕ) → IsShort n → lda x n ≡ (x + n) % 2 ^ 64
  lda_short x n h = subst (λ k. lda x k ≡ (x + k) % 2 ^ 64) (sym h.is) (lda_is x h.disp h.fits)

  -- the value of a term without lets
  abbrev pub G : List (Tree Op) → Tree Op → WorldValue
  G es t = goal_value [] w (substituted es t)

  sum_says : (es : List (Tree Op)) (t : Tree Op) (v : WorldValue) (n : ℕ) → IsValue sorts.Word v → v ≡ G es t → word ((as_word v + n) % 2 ^ 64) ≡ G es (sum_term t n)
  sum_says es t v n is e = elim (eqb_tells n 0) [
    | inl z ↦ (
        let low : as_word v < 2 ^ 64 = is_word v is in
        let none = z.1 in
        let same : (as_word v + n) % 2 ^ 64 ≡ as_word v = omega (arith, low, none) in
        ap word same ∙ sym (word_again v is) ∙ e ∙ sym (ap (λ b. G es (if b then t else o2 Addq t (constant n))) z.0))
    | inr z ↦
        ap word (sym (addq_value (as_word v) n 0)) ∙ ap (λ x. word (value_at (words.Operate Addq) (as_word x) n 0)) e
        ∙ sym (ap (λ b. G es (if b then t else o2 Addq t (constant n))) z.0)
  ]

  -- ---- what is known of the classes of lets

  pub record Say (es : List (Tree Op)) (rows : List LaunchRow) (values : List ℕ) : Type 0 where
    pub told : AreTold w rows
    pub low : (n : ℕ) → n < length values → slice_index values n < length (values_of w rows)
    pub lets : (n : ℕ) → n < length values → V w rows (slice_index values n) ≡ G es (variable n)

  say_behind : (es : List (Tree Op)) (rows longer : List LaunchRow) (values : List ℕ) → IsLonger rows longer → AreTold w longer → Say es rows values → Say es longer values
  say_behind es rows longer values h told say = record {
    told = told;
    low = λ n l. (let below = say.low n l in let more = more_values w rows longer h in omega (arith, below, more));
    lets = λ n l. value_stays w rows longer (slice_index values n) h (say.low n l) ∙ say.lets n l;
  }

  module _ (es : List (Tree Op)) (rows : List LaunchRow) (values : List ℕ) (say : Say es rows values) where
    pub value_says : (v : Value) → IsKnownValue rows values v → P w in_range rows (value_part values v) ≡ G es (value_term v)
    value_says (Entry r) h = refl
    value_says Zero h = refl
    value_says (Let n) h = say.lets n h.0

    pub memory_says : (m : Option ℕ) → IsKnownMemory rows values m → P w in_range rows (memory_part values m) ≡ G es (memory_value m)
    memory_says None h = refl
    memory_says (Some n) h = say.lets n h.0

    pub value_is_word : (v : Value) → IsKnownValue rows values v → IsValue sorts.Word (P w in_range rows (value_part values v))
    value_is_word (Entry r) h = in_range (ops.Input r) [] tt (record { count = refl; each = λ k l. absurd (omega (arith, l)) })
    value_is_word Zero h = omega arith
    value_is_word (Let n) h = class_value w rows say.told sorts.Word (slice_index values n) h.1

  -- ---- one instruction

  module _ (inputs : List ℕ) (s : Lifting) (o : Own) (known : IsKnown inputs s o) (say : Say (terms_of s.lets) o.rows o.values) where
    abbrev es : List (Tree Op)
    es = terms_of s.lets

    abbrev Q : Part → WorldValue
    Q part = P w in_range o.rows part

    register_says : (r : ℕ) → Q (register_part s o.values r) ≡ G es (register_term s r)
    register_says r = value_says es o.rows o.values say (latest_of s r) (known_latest inputs s o known r)

    register_is_word : (r : ℕ) → IsValue sorts.Word (Q (register_part s o.values r))
    register_is_word r = value_is_word es o.rows o.values say (latest_of s r) (known_latest inputs s o known r)

    memory_part_says : Q (memory_part o.values s.memory) ≡ G es (memory_term s)
    memory_part_says = memory_says es o.rows o.values say s.memory known.memory_is

    second_says : (second : Second) → Q (second_part s o.values second) ≡ G es (second_term second (register_term s))
    second_says (Reg r) = register_says r
    second_says (Literal n) = refl

    operate_says : (op : OperateOf) (a b : Part) (t u : Tree Op) (one : Bool) → Q a ≡ G es t → Q b ≡ G es u
        → M w (ops.Word (words.Operate op)) (map (λ p. Q p) (if one then b ∷ [] else a ∷ b ∷ [])) ≡ G es (if one then o1 op u else o2 op t u)
    operate_says op a b t u true e f = ap (λ y. M w (ops.Word (words.Operate op)) (y ∷ [])) f
    operate_says op a b t u false e f = ap₂ (λ x y. M w (ops.Word (words.Operate op)) (x ∷ y ∷ [])) e f

    -- the value of a base and a displacement
    module _ (access : Access) (rb : ℕ) (disp : ℤ) (fits : FitsSigned w16 disp) where
      abbrev n : ℕ
      n = sign_extended disp

      abbrev base : Part
      base = register_part s o.values rb

      abbrev t : Tree Op
      t = register_term s rb

      sum_at : (x : ℕ) → lda x n ≡ value_at (words.Operate Addq) x n 0
      sum_at x = lda_is x disp fits ∙ sym (addq_value x n 0)

      load_says : (none : Bool) → M w (if none then ops.Select access else ops.Load access) (map (λ p. Q p) (memory_part o.values s.memory ∷ base ∷ (if none then [] else number n ∷ [])))
          ≡ G es (read_of access (memory_term s) (if none then t else o2 Addq t (constant n)))
      load_says true = ap₂ (λ x y. M w (ops.Select access) (x ∷ y ∷ [])) memory_part_says (register_says rb)
      load_says false =
          ap₂ (λ x y. M w (ops.Load access) (x ∷ y ∷ word n ∷ [])) memory_part_says (register_says rb)
          ∙ ap word (load_value access (as_memory (G es (memory_term s))) (as_word (G es t)) n ∙ ap (loaded access (as_memory (G es (memory_term s)))) (sum_at (as_word (G es t))))

      store_says : (ra : ℕ) (none : Bool) → M w (if none then ops.Store access else ops.Put access) (map (λ p. Q p) ((memory_part o.values s.memory ∷ base ∷ (if none then [] else number n ∷ [])) ++ register_part s o.values ra ∷ []))
          ≡ G es (written_of access (memory_term s) (if none then t else o2 Addq t (constant n)) (register_term s ra))
      store_says ra true =
          ap₂ (λ x y. M w (ops.Store access) (x ∷ y ∷ Q (register_part s o.values ra) ∷ [])) memory_part_says (register_says rb)
          ∙ ap (λ v. M w (ops.Store access) (G es (memory_term s) ∷ G es t ∷ v ∷ [])) (register_says ra)
      store_says ra false =
          ap₂ (λ x y. M w (ops.Put access) (x ∷ y ∷ word n ∷ Q (register_part s o.values ra) ∷ [])) memory_part_says (register_says rb)
          ∙ ap (λ v. M w (ops.Put access) (G es (memory_term s) ∷ G es t ∷ word n ∷ v ∷ [])) (register_says ra)
          ∙ ap memory (put_value access (as_memory (G es (memory_term s))) (as_word (G es t)) n (as_word (G es (register_term s ra)))
          ∙ ap (λ a. stored access (as_memory (G es (memory_term s))) a (as_word (G es (register_term s ra)))) (sum_at (as_word (G es t))))

    operands_say : (i : Instr) → IsWellFormed i → counts i ≡ true → M w (own_op i) (map (λ p. Q p) (operand_parts s o.values i)) ≡ G es (lifted_term i s)
    operands_say (Operate op ra second rc) wf c = operate_says op (register_part s o.values ra) (second_part s o.values second) (register_term s ra) (second_term second (register_term s)) (is_unary op) (register_says ra) (second_says second)
    operands_say (Lda ra rb disp) wf c =
        ap word (lda_value (as_word (Q (register_part s o.values rb))) (sign_extended disp) 0 ∙ lda_is (as_word (Q (register_part s o.values rb))) disp wf.2)
        ∙ sum_says es (register_term s rb) (Q (register_part s o.values rb)) (sign_extended disp) (register_is_word rb) (register_says rb)
    operands_say (Ldah ra rb disp) wf c =
        ap word (ldah_value (as_word (Q (register_part s o.values rb))) (sign_extended disp) 0 ∙ ldah_is (as_word (Q (register_part s o.values rb))) disp wf.2)
        ∙ sum_says es (register_term s rb) (Q (register_part s o.values rb)) (high_word disp) (register_is_word rb) (register_says rb)
    operands_say (Load access ra rb disp) wf c = load_says access rb disp wf.2 (sign_extended disp == 0)
    operands_say (Store access ra rb disp) wf c = store_says access rb disp wf.2 ra (sign_extended disp == 0)
    operands_say (Ldq ra rb disp) wf c = load_says Quad rb disp wf.2 (sign_extended disp == 0)
    operands_say (Stq ra rb disp) wf c = store_says Quad rb disp wf.2 ra (sign_extended disp == 0)
    operands_say (Beq ra disp) wf c = absurd (let e : false ≡ true = c in cc)

    module _ (place : ℕ) (i : Instr) (formed : IsWellFormed i) where
      abbrev parts : List Part
      parts = operand_parts s o.values i

      abbrev rows : List LaunchRow
      rows = with_applied o.rows (own_op i) parts

      abbrev class : ℕ
      class = applied_class o.rows (own_op i) parts

      abbrev values : List ℕ
      values = o.values ++ class ∷ []

      abbrev made : Tree Op
      made = substituted es (lifted_term i s)

      fits : Fits inputs s o known (own_op i) parts
      fits = operands_fit inputs s o known i formed

      told : AreTold w rows
      told = applied_told w in_range o.rows (own_op i) parts say.told known.rows fits.own fits.many fits.parts_are

      class_says : counts i ≡ true → V w rows class ≡ goal_value [] w made
      class_says c = applied_says w in_range o.rows (own_op i) parts say.told known.rows fits.own fits.many fits.parts_are ∙ operands_say i formed c

      class_is_low : class < length (values_of w rows)
      class_is_low = class_low w rows told (sort_of (own_op i)) class (applied_sort o.rows (own_op i) parts)

      old : (n : ℕ) → n < length o.values → slice_index values n ≡ slice_index o.values n
      old n l = get_or_append_left o.values (class ∷ []) 0 n l

      last : (n : ℕ) → length o.values ≡ n → slice_index values n ≡ class
      last n e = get_or_push o.values class 0 n e

      terms_now : terms_of (s.lets ++ let_of place i s ∷ []) ≡ es ++ made ∷ []
      terms_now = terms_more s.lets (let_of place i s)

      as_many : length es ≡ length o.values
      as_many = terms_count s.lets ∙ sym known.counted

      longer : IsLonger o.rows rows
      longer = applied_behind o.rows (own_op i) parts

      at_end : (n : ℕ) → n < length values → length o.values ≤ n → length o.values ≡ n
      at_end n l h = (let many = length_push o.values class in omega (arith, l, h, many))

      low_now : (n : ℕ) → n < length values → slice_index values n < length (values_of w rows)
      low_now n l = elim (cases_lt n (length o.values)) [
        | inl h ↦ subst (λ c. c < length (values_of w rows)) (sym (old n h)) (let below = say.low n h in let more = more_values w o.rows rows longer in omega (arith, below, more))
        | inr h ↦ subst (λ c. c < length (values_of w rows)) (sym (last n (at_end n l h))) class_is_low
      ]

      lets_now : counts i ≡ true → (n : ℕ) → n < length values → V w rows (slice_index values n) ≡ G (es ++ made ∷ []) (variable n)
      lets_now c n l = elim (cases_lt n (length o.values)) [
        | inl h ↦
            ap (V w rows) (old n h) ∙ value_stays w o.rows rows (slice_index o.values n) longer (say.low n h) ∙ say.lets n h
            ∙ sym (ap (goal_value [] w) (get_or_append_left es (made ∷ []) (variable n) n (let many = as_many in omega (arith, h, many))))
        | inr h ↦
            ap (V w rows) (last n (at_end n l h)) ∙ class_says c
            ∙ sym (ap (goal_value [] w) (get_or_push es made (variable n) n (as_many ∙ at_end n l h)))
      ]

      say_by : counts i ≡ true → Say (terms_of (lifted_by place i s).lets) (own_by s i o).rows (own_by s i o).values
      say_by c = subst (λ ts. Say ts rows values) (sym terms_now) (record { told = told; low = low_now; lets = lets_now c })

      pub say_step : Say (terms_of (lift_step place i s).lets) (own_step s i o).rows (own_step s i o).values
      say_step = by (counts i) refl
        where
          by : (b : Bool) → counts i ≡ b → Say (terms_of (if b then lifted_by place i s else s).lets) (if b then own_by s i o else o).rows (if b then own_by s i o else o).values
          by true c = say_by c
          by false c = say

  pub say_from : (inputs : List ℕ) (place : ℕ) (instrs : List Instr) (s : Lifting) (o : Own) → All IsWellFormed instrs → IsKnown inputs s o → Say (terms_of s.lets) o.rows o.values
      → Say (terms_of (lifted_from place instrs s).lets) (own_from place instrs s o).rows (own_from place instrs s o).values
  say_from inputs place [] s o formed known say = say
  say_from inputs place (i ∷ instrs) s o formed known say =
      let first = All-head IsWellFormed i instrs formed in
      say_from inputs (place + 1) instrs (lift_step place i s) (own_step s i o) (All-tail IsWellFormed i instrs formed)
      (known_step inputs s o known place i first) (say_step inputs s o known say place i first)

  -- ---- the start

  none_told : AreTold w []
  none_told = record { count = refl; is_true = λ k d l. absurd (omega (arith, l)); sorts = λ k d l. absurd (omega (arith, l)) }

  inputs_told : (rows : List LaunchRow) (inputs : List ℕ) → AreTold w rows → AreOwnRows rows → All (λ r. r < 31) inputs → AreTold w (fold (λ rows r. with_row rows (ops.Input r) []) rows inputs)
  inputs_told rows [] told own low = told
  inputs_told rows (r ∷ inputs) told own low =
      let is = own_input_op r (All-head (λ r. r < 31) r inputs low) in
      inputs_told (with_row rows (ops.Input r) []) inputs
      (row_told w in_range rows (ops.Input r) [] told own is refl (λ k l. absurd (omega (arith, l))))
      (row_keeps rows (ops.Input r) [] own is refl (λ k l. absurd (omega (arith, l))))
      (All-tail (λ r. r < 31) r inputs low)

  pub say_start : (inputs : List ℕ) → All (λ r. r < 31) inputs → Say (terms_of at_start.lets) (own_start inputs).rows (own_start inputs).values
  say_start inputs low = record {
    told = inputs_told (plain_row 0 ops.Entry [] ∷ []) inputs
        (row_told w in_range [] ops.Entry [] none_told no_rows own_entry refl (λ k l. absurd (omega (arith, l)))) entry_rows low;
    low = λ n l. absurd (omega (arith, l));
    lets = λ n l. absurd (omega (arith, l));
  }

  -- ---- addresses

  -- the value of an address, and that its low bits are 0
  abbrev IsClear : WorldValue → ℕ → Type 0
  IsClear v mask = and (as_word v) mask ≡ 0

  module _ (rows : List LaunchRow) (zero_class x y : ℕ) (told : AreTold w rows) (own : AreOwnRows rows) (there : HasSort rows sorts.Word zero_class)
      (x_is : HasSort rows sorts.Word x) (y_is : HasSort rows sorts.Word y) (none : V w rows zero_class ≡ word 0) (clear : and (as_word (V w rows x)) (as_word (V w rows y)) ≡ 0) where
    and_told : AreTold w (with_row_of zero_class rows and_op (x ∷ y ∷ []))
    and_told = by (is_some (class_in rows and_op (x ∷ y ∷ [])))
      where
        by : (b : Bool) → AreTold w (if b then rows else rows ++ plain_row zero_class and_op (x ∷ y ∷ []) ∷ [])
        by true = told
        by false =
            told_again w rows told own zero_class and_op (x ∷ y ∷ []) there (two_sorts rows x y x_is y_is)
            (none ∙ sym (ap word (and_value (as_word (V w rows x)) (as_word (V w rows y)) 0 ∙ clear)))

  low_bits_told : (rows : List LaunchRow) (address : Part) (mask : ℕ) → AreTold w rows → AreOwnRows rows → IsPart rows sorts.Word address → IsWord mask
      → IsClear (P w in_range rows address) mask → AreTold w (with_low_bits rows address mask)
  low_bits_told rows address mask told own is low clear = by (stands_in all z and_op (a ∷ k ∷ [])) (is_some (class_in all and_op (a ∷ k ∷ [])))
    where
      parts : List Part
      parts = address ∷ number mask ∷ number 0 ∷ []

      all : List LaunchRow
      all = with_leaves rows parts

      a : ℕ
      a = class_of_part all address

      k : ℕ
      k = class_of_part all (number mask)

      z : ℕ
      z = class_of_part all (number 0)

      behind : IsLonger rows all
      behind = leaves_behind rows parts

      own_all : AreOwnRows all
      own_all = leaves_keep (λ n. sorts.Word) rows parts own (is, (number_is rows mask low, (number_is rows 0 (omega arith), tt)))

      told_all : AreTold w all
      told_all = leaves_told w in_range (λ n. sorts.Word) rows parts told own (is, (number_is rows mask low, (number_is rows 0 (omega arith), tt)))

      says : (part : Part) → (n : ℕ) → IsPart rows sorts.Word part → HasItsRow all part → V w all (class_of_part all part) ≡ P w in_range rows part
      says part n part_is has = part_says w in_range rows all all behind (not_longer all) told told_all own_all sorts.Word part part_is has

      a_is : HasSort all sorts.Word a
      a_is = part_sort all sorts.Word address (part_stays_own rows all sorts.Word address behind is) (have_rows rows parts 0 (Class 0) (omega arith))

      k_is : HasSort all sorts.Word k
      k_is = part_sort all sorts.Word (number mask) (number_is all mask low) (have_rows rows parts 1 (Class 0) (omega arith))

      z_is : HasSort all sorts.Word z
      z_is = part_sort all sorts.Word (number 0) (number_is all 0 (omega arith)) (have_rows rows parts 2 (Class 0) (omega arith))

      a_says : V w all a ≡ P w in_range rows address
      a_says = says address 0 is (have_rows rows parts 0 (Class 0) (omega arith))

      k_says : V w all k ≡ word mask
      k_says = says (number mask) 1 (number_is rows mask low) (have_rows rows parts 1 (Class 0) (omega arith))

      z_says : V w all z ≡ word 0
      z_says = says (number 0) 2 (number_is rows 0 (omega arith)) (have_rows rows parts 2 (Class 0) (omega arith))

      first : and (as_word (V w all a)) (as_word (V w all k)) ≡ 0
      first = ap₂ (λ u v. and (as_word u) (as_word v)) a_says k_says ∙ clear

      by : (b c : Bool) → AreTold w (if b then all else if c then with_row_of z all and_op (k ∷ a ∷ []) else with_row_of z all and_op (a ∷ k ∷ []))
      by true c = told_all
      by false true = and_told all z k a told_all own_all z_is k_is a_is z_says (and_turned (as_word (V w all k)) (as_word (V w all a)) ∙ first)
      by false false = and_told all z a k told_all own_all z_is a_is k_is z_says first

  -- the sum of a base and a displacement
  module _ (rows : List LaunchRow) (base : Part) (n : ℕ) (told : AreTold w rows) (own : AreOwnRows rows) (is : IsPart rows sorts.Word base) (short : IsShort n) where
    address_told : AreTold w (with_address rows base n)
    address_told = by (n == 0)
      where
        by : (b : Bool) → AreTold w (if b then rows else with_applied rows (ops.Word words.Lda) (base ∷ number n ∷ []))
        by true = told
        by false = applied_told w in_range rows (ops.Word words.Lda) (base ∷ number n ∷ []) told own (own_word words.Lda) refl (is, (number_is rows n (short_word n short), tt))

    address_says : (es : List (Tree Op)) (t : Tree Op) → IsValue sorts.Word (P w in_range rows base) → P w in_range rows base ≡ G es t
        → P w in_range (with_address rows base n) (address_part rows base n) ≡ G es (sum_term t n)
    address_says es t sort e = by (n == 0) refl
      where
        by : (b : Bool) → (n == 0) ≡ b → P w in_range (if b then rows else with_applied rows (ops.Word words.Lda) (base ∷ number n ∷ [])) (if b then base else Class (applied_class rows (ops.Word words.Lda) (base ∷ number n ∷ [])))
            ≡ G es (sum_term t n)
        by true z = e ∙ sym (ap (λ b. G es (if b then t else o2 Addq t (constant n))) z)
        by false z =
            applied_says w in_range rows (ops.Word words.Lda) (base ∷ number n ∷ []) told own (own_word words.Lda) refl (is, (number_is rows n (short_word n short), tt))
            ∙ ap word (lda_value (as_word (P w in_range rows base)) n 0 ∙ lda_short (as_word (P w in_range rows base)) n short)
            ∙ sum_says es t (P w in_range rows base) n sort e

  -- the assumption of an address holds
  abbrev pub IsClearAddress : List (Tree Op) → Address → Type 0
  IsClearAddress es a = G es (assume_of a).left ≡ G es (assume_of a).right

  as_zero : (n : ℕ) → word n ≡ word 0 → n ≡ 0
  as_zero n e = ap as_word e

  multiple_told : (es : List (Tree Op)) (rows : List LaunchRow) (values : List ℕ) (a : Address) → Say es rows values → AreOwnRows rows → IsKnownAddress rows values a → IsClearAddress es a → AreTold w (with_multiple values rows a)
  multiple_told es rows values a say own is clear =
      let base = value_part values a.value in
      let base_is = value_is rows values a.value is.value in
      let mask = 2 ^ a.power - 1 in
      let sum = address_says rows base a.displacement say.told own base_is is.short es (value_term a.value) (value_is_word es rows values say a.value is.value) (value_says es rows values say a.value is.value) in
      low_bits_told (with_address rows base a.displacement) (address_part rows base a.displacement) mask
      (address_told rows base a.displacement say.told own base_is is.short)
      (address_keeps rows base a.displacement own base_is (short_word a.displacement is.short))
      (address_is rows base a.displacement base_is) (low_mask a.power is.power)
      (ap (λ v. and (as_word v) mask) sum ∙ sym (and_value (as_word (G es (sum_term (value_term a.value) a.displacement))) mask 0) ∙ as_zero _ clear)

  pub multiples_told : (es : List (Tree Op)) (rows : List LaunchRow) (values : List ℕ) (addresses : List Address) → Say es rows values → AreOwnRows rows → All (IsKnownAddress rows values) addresses → All (IsClearAddress es) addresses
      → AreTold w (fold (with_multiple values) rows addresses)
  multiples_told _ _ _ [] say own is clear = say.told
  multiples_told es rows values (a ∷ addresses) say own is clear =
      let first = with_multiple values rows a in
      let here = All-head (IsKnownAddress rows values) a addresses is in
      let behind = multiple_behind rows values a in
      let told = multiple_told es rows values a say own here (All-head (IsClearAddress es) a addresses clear) in
      multiples_told es first values addresses (say_behind es rows first values behind told say) (multiple_keeps rows values a own here)
      (All-weaker (IsKnownAddress rows values) (IsKnownAddress first values) (address_stays rows first values behind) addresses (All-tail (IsKnownAddress rows values) a addresses is))
      (All-tail (IsClearAddress es) a addresses clear)
