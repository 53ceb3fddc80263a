-- The terms of a lift's goal are well formed, and each input that they name is one of the goal's.
use Rattle.std.proofs.Common.{◌≡◌, ℕ, zero, suc, ℤ, ◌+◌, ◌-◌, ◌%◌, ◌<◌, ◌≤◌, ◌^◌, ◌==◌, ◌++◌, ◌⊎◌, if◌then◌else◌, Bool, true, false, Option, None, Some, List, [], ◌∷◌, length, map, set, refl, sym, ap, ◌∙◌, subst, arith, inl, inr}
use Rattle.std.specs.Prelude.{All, Contains, FitsSigned, IfSome, option_map, slice_index_or}
use Rattle.std.specs.Int.{w16}
use Rattle.std.specs.List.{list_any}
use Rattle.std.proofs.lemmas.Bool.{cases_lt}
use Rattle.std.proofs.lemmas.Bool.Decides.{Decides-eqb, nat_tests}
use Rattle.std.proofs.lemmas.Int.{ints}
use Rattle.std.proofs.lemmas.List.{get_or-set_other, get_or-set_same, get_or_append_left, get_or_past, length-append, length-map, length-set, map-append}
use Rattle.std.proofs.lemmas.List.Elements.{All-append, All-cons, All-head, All-map, All-nil, All-tail, All-weaker}
use Rattle.std.proofs.lemmas.Option.{none-some}
use Rattle.std.proofs.Math.Pow.{pow_mono}
use Rattle.std.proofs.Math.Seq.{get_or-append_seam}
use Rattle.word_ops.specs.Operates.{row_of}
use Rattle.word_ops.specs.Words.{IsWord}
use Rattle.word_ops.specs.declared.operates.Operate.{Operate as OperateOf}
use Rattle.word_ops.specs.declared.operates.Operate.TheVariants as operates
use Rattle.word_ops.specs.declared.sorts.Access.{Access}
use Rattle.word_ops.specs.declared.sorts.Access.TheVariants.{Quad}
use Rattle.word_ops.specs.declared.sorts.Op.{Op}
use Rattle.word_ops.specs.declared.sorts.Sort.{Sort}
use Rattle.word_ops.specs.declared.sorts.Sort.TheVariants as sorts
use Rattle.word_terms.specs.Building.{constant, o1, o2, read_of, written_of}
use Rattle.word_terms.specs.Keys.{op_signature}
use Rattle.word_terms.specs.Sorting.{HasSort, sort_at}
use Rattle.word_terms.specs.Tree.{Tree, application, variable}
use Rattle.alpha_encode.specs.Codes.{is_unary}
use Rattle.alpha_encode.specs.Formats.{IsSecond, IsWellFormed}
use Rattle.alpha_encode.specs.declared.instructions.Second.{Second}
use Rattle.alpha_encode.specs.declared.instructions.Second.TheVariants.{Literal, Reg}
use Rattle.alpha_encode.specs.declared.instructions.Instr.{Instr}
use Rattle.alpha_encode.specs.declared.instructions.Instr.TheVariants.{Operate, Lda, Ldah, Load, Store, Ldq, Stq, Beq}
use Rattle.goal_meaning.specs.Expanded.{let_values}
use Rattle.goal_meaning.specs.Views.{LetTree}
use Rattle.goal_meaning.specs.WellFormed.{AreLets, IsTermOver, input_registers, sort_of_tree, sorts_of_lets}
use Rattle.goal_meaning.specs.declared.goals.InputReg.{InputReg}
use Rattle.register_assign.specs.Obeys.{reads, second_reads, stores}
use Rattle.code_check.specs.Terms.{alignment, operate_term, second_term, sign_extended}
use Rattle.code_lift.specs.Lifted.{Lifting, assume_of, at_start, counts, displaced_term, first_numbers, high_word, is_entry, is_same_address, latest_of, latest_with, let_of, lift_step, lifted_by, lifted_from, lifted_term, memory_value, multiple_from, read_also, register_term, register_written, sum_term, trapping_address, value_term, with_address}
use Rattle.code_lift.specs.declared.lifting.Address.{Address}
use Rattle.code_lift.specs.declared.lifting.Value.{Value}
use Rattle.code_lift.specs.declared.lifting.Value.TheVariants.{Entry, Let, Zero}
use Rattle.code_lift.proofs.LiftedRuns.{start_value}
use Rattle.code_lift.proofs.OneStep.{when_it_counts}
use Rattle.code_lift.proofs.Prefixes.{from_keeps, read_keeps}

-- ---- sorts of lets

pub sorts_more : (before : List Sort) (ts : List (Tree Op)) (t : Tree Op) → sorts_of_lets before (ts ++ t ∷ []) ≡ sorts_of_lets before ts ++ sort_of_tree (sorts_of_lets before ts) t ∷ []
sorts_more before [] t = refl
sorts_more before (x ∷ ts) t = sorts_more (before ++ sort_of_tree before x ∷ []) ts t

sorts_length : (before : List Sort) (ts : List (Tree Op)) → length (sorts_of_lets before ts) ≡ length before + length ts
sorts_length before [] = omega arith
sorts_length before (t ∷ ts) =
    let rest = sorts_length (before ++ sort_of_tree before t ∷ []) ts in
    let one = length-append before (sort_of_tree before t ∷ []) in
    omega (arith, rest, one)

lets_more : (inputs : List InputReg) (before : List Sort) (ts : List (Tree Op)) (t : Tree Op) → AreLets [] inputs before ts
    → IsTermOver [] inputs (sorts_of_lets before ts) (sort_of_tree (sorts_of_lets before ts) t) t → AreLets [] inputs before (ts ++ t ∷ [])
lets_more inputs before [] t h is = (is, tt)
lets_more inputs before (x ∷ ts) t h is = (h.0, lets_more inputs (before ++ sort_of_tree before x ∷ []) ts t h.1 is)

-- ---- values

-- a let is one of a word
abbrev pub IsWordValue : List Sort → Value → Type 0
IsWordValue known (Entry r) = Unit {0}
IsWordValue known Zero = Unit {0}
IsWordValue known (Let n) = (n < length known) × (sort_at known n ≡ sorts.Word)

abbrev pub IsMemoryLet : List Sort → Option ℕ → Type 0
IsMemoryLet known o = IfSome o (λ n. (n < length known) × (sort_at known n ≡ sorts.Memory))

-- a register at entry is an input
abbrev pub IsOfInputs : List InputReg → Value → Type 0
IsOfInputs inputs (Entry r) = Contains (input_registers inputs) r
IsOfInputs inputs Zero = Unit {0}
IsOfInputs inputs (Let n) = Unit {0}

sort_kept : (known : List Sort) (n : ℕ) (sort new : Sort) → (n < length known) × (sort_at known n ≡ sort) → (n < length (known ++ new ∷ [])) × (sort_at (known ++ new ∷ []) n ≡ sort)
sort_kept known n sort new h =
    let low = h.0 in
    let more = length-append known (new ∷ []) in
    (omega (arith, low, more), get_or_append_left known (new ∷ []) sorts.Word n low ∙ h.1)

sort_new : (known : List Sort) (new : Sort) → (length known < length (known ++ new ∷ [])) × (sort_at (known ++ new ∷ []) (length known) ≡ new)
sort_new known new = (let more = length-append known (new ∷ []) in omega (arith, more), get_or-append_seam known new [] sorts.Word)

word_kept : (known : List Sort) (new : Sort) (v : Value) → IsWordValue known v → IsWordValue (known ++ new ∷ []) v
word_kept known new (Entry r) h = tt
word_kept known new Zero h = tt
word_kept known new (Let n) h = sort_kept known n sorts.Word new h

memory_kept_let : (known : List Sort) (new : Sort) (o : Option ℕ) → IsMemoryLet known o → IsMemoryLet (known ++ new ∷ []) o
memory_kept_let known new None h = tt
memory_kept_let known new (Some n) h = sort_kept known n sorts.Memory new h

-- ---- terms

module _ (inputs : List InputReg) (known : List Sort) where
  abbrev IsA : Sort → Tree Op → Type 0
  IsA sort t = IsTermOver [] inputs known sort t

  constant_made : (n : ℕ) → IsWord n → IsA sorts.Word (constant n)
  constant_made n is = record { sorted = (refl, is, refl, tt); operators = (tt, tt) }

  pub value_made : (v : Value) → IsWordValue known v → IsOfInputs inputs v → IsA sorts.Word (value_term v)
  value_made (Entry r) is of = record { sorted = (refl, tt, refl, tt); operators = (of, tt) }
  value_made Zero is of = constant_made 0 (omega arith)
  value_made (Let n) is of = record { sorted = is; operators = tt }

  pub memory_made : (o : Option ℕ) → IsMemoryLet known o → IsA sorts.Memory (memory_value o)
  memory_made None is = record { sorted = (refl, tt, refl, tt); operators = (tt, tt) }
  memory_made (Some n) is = record { sorted = is; operators = tt }

  one_made : (op : OperateOf) (t : Tree Op) → (row_of op).arity ≡ 1 → IsA sorts.Word t → IsA sorts.Word (o1 op t)
  one_made op t one a = record { sorted = (refl, tt, sym one, (a.sorted, tt)); operators = (refl, (a.operators, tt)) }

  two_made : (op : OperateOf) (t u : Tree Op) → (row_of op).arity ≡ 2 → IsA sorts.Word t → IsA sorts.Word u → IsA sorts.Word (o2 op t u)
  two_made op t u two a b = record { sorted = (refl, tt, sym two, (a.sorted, (b.sorted, tt))); operators = (refl, (a.operators, (b.operators, tt))) }

  pub sum_made : (t : Tree Op) (n : ℕ) → IsWord n → IsA sorts.Word t → IsA sorts.Word (sum_term t n)
  sum_made t n is a = by (n == 0)
    where
      by : (b : Bool) → IsA sorts.Word (if b then t else o2 operates.Addq t (constant n))
      by true = a
      by false = two_made operates.Addq t (constant n) refl a (constant_made n is)

  operate_arity : (op : OperateOf) → ((is_unary op ≡ true) × ((row_of op).arity ≡ 1)) ⊎ ((is_unary op ≡ false) × ((row_of op).arity ≡ 2))
  operate_arity operates.Sextb = inl (refl, refl)
  operate_arity operates.Sextw = inl (refl, refl)
  operate_arity _ = inr (refl, refl)

  operate_made : (op : OperateOf) (t u : Tree Op) → (is_unary op ≡ false → IsA sorts.Word t) → IsA sorts.Word u → IsA sorts.Word (operate_term op t u)
  operate_made op t u a b = elim (operate_arity op) [
    | inl k ↦ subst (IsA sorts.Word) (sym (ap (λ c. if c then o1 op u else o2 op t u) k.0)) (one_made op u k.1 b)
    | inr k ↦ subst (IsA sorts.Word) (sym (ap (λ c. if c then o1 op u else o2 op t u) k.0)) (two_made op t u k.1 (a k.0) b)
  ]

  read_made : (access : Access) (m a : Tree Op) → IsA sorts.Memory m → IsA sorts.Word a → IsA sorts.Word (read_of access m a)
  read_made access m a in_memory at = record { sorted = (refl, tt, refl, (in_memory.sorted, (at.sorted, tt))); operators = (tt, (in_memory.operators, (at.operators, tt))) }

  written_made : (access : Access) (m a v : Tree Op) → IsA sorts.Memory m → IsA sorts.Word a → IsA sorts.Word v → IsA sorts.Memory (written_of access m a v)
  written_made access m a v in_memory at value =
      record { sorted = (refl, tt, refl, (in_memory.sorted, (at.sorted, (value.sorted, tt)))); operators = (tt, (in_memory.operators, (at.operators, (value.operators, tt)))) }

extended_word : (disp : ℤ) → FitsSigned w16 disp → IsWord (sign_extended disp)
extended_word disp fits = grind (arith, nat_tests, ints)

high_is_word : (disp : ℤ) → FitsSigned w16 disp → IsWord (high_word disp)
high_is_word disp fits = grind (arith, nat_tests, ints)

small_mask : (p : ℕ) → p < 4 → IsWord (2 ^ p - 1)
small_mask p low =
    let most = pow_mono {i = p} {j = 4} (omega (arith, low)) in
    omega (arith, most)

-- ---- what is known behind words

-- an address of a word value, that of an input or of a let
pub record IsGoalAddress (inputs : List InputReg) (known : List Sort) (a : Address) : Type 0 where
  pub value : IsWordValue known a.value
  pub of_inputs : IsOfInputs inputs a.value
  pub displacement : IsWord a.displacement

abbrev pub known_sorts : Lifting → List Sort
known_sorts s = sorts_of_lets [] (let_values s.lets)

-- The lets are well formed over the inputs, registers and memory have lets of their sorts, and so do the addresses.
pub record IsMade (inputs : List InputReg) (s : Lifting) : Type 0 where
  pub count : length s.latest ≡ 32
  pub flags : length s.is_read ≡ 32
  pub lets : AreLets [] inputs [] (let_values s.lets)
  pub values : (r : ℕ) → IsWordValue (known_sorts s) (latest_of s r)
  pub own : (r q : ℕ) → latest_of s r ≡ Entry q → (q ≡ r) × (r < 31)
  pub memory_is : IsMemoryLet (known_sorts s) s.memory
  pub addresses : All (IsGoalAddress inputs (known_sorts s)) s.addresses

-- ---- at the start

at_or : (P : Value → Type 0) → P Zero → (vs : List Value) → All P vs → (r : ℕ) → P (slice_index_or vs r Zero)
at_or P zero_is [] h r = zero_is
at_or P zero_is (v ∷ vs) h zero = All-head P v vs h
at_or P zero_is (v ∷ vs) h (suc r) = at_or P zero_is vs (All-tail P v vs h) r

no_entry : (q : ℕ) → Zero ≡ Entry q → ⊥
no_entry q e = cc

same_entry : (q r : ℕ) → Entry q ≡ Entry r → q ≡ r
same_entry q r e = cc

past_entries : (r : ℕ) → 31 ≤ r → slice_index_or at_start.latest r Zero ≡ Zero
past_entries r from = elim (cases_lt r 32) [
  | inl low ↦ (let last : r ≡ 31 = omega (arith, from, low) in ap (λ k. slice_index_or at_start.latest k Zero) last)
  | inr high ↦ get_or_past at_start.latest r Zero high
]

pub start_made : (inputs : List InputReg) → IsMade inputs at_start
start_made inputs = record {
  count = refl;
  flags = refl;
  lets = tt;
  values = at_or (IsWordValue []) tt at_start.latest
      (All-append (IsWordValue []) (map Entry (first_numbers 31)) (Zero ∷ []) (All-map (IsWordValue []) Entry (first_numbers 31) (λ k d lt. tt)) (All-cons (IsWordValue []) Zero [] tt (All-nil (IsWordValue []))));
  own = λ r q e. elim (cases_lt r 31) [
    | inl low ↦ (same_entry q r (sym e ∙ start_value r low), low)
    | inr high ↦ absurd (no_entry q (sym (past_entries r high) ∙ e))
  ];
  memory_is = tt;
  addresses = All-nil (IsGoalAddress inputs []);
}

-- ---- behind one instruction more

-- the sort of what the instruction writes
abbrev written_sort : Instr → Sort
written_sort i = if stores i then sorts.Memory else sorts.Word

sort_told : (known : List Sort) (sort : Sort) (t : Tree Op) → HasSort op_signature known sort t → sort_of_tree known t ≡ sort
sort_told known sort (variable n) h = h.1
sort_told known sort (application op ts) h = h.0

-- registers that are read become inputs, where no word wrote them
read_marked : (rs : List ℕ) (latest : List Value) (flags : List Bool) → length flags ≡ 32 → All (λ r. r < 32) rs
    → All (λ r. is_entry (slice_index_or latest r Zero) ≡ true → slice_index_or (read_also rs latest flags) r false ≡ true) rs
read_marked [] latest flags count low = All-nil (λ r. is_entry (slice_index_or latest r Zero) ≡ true → slice_index_or (read_also [] latest flags) r false ≡ true)
read_marked (x ∷ rs) latest flags count low =
    All-cons (λ r. is_entry (slice_index_or latest r Zero) ≡ true → slice_index_or (read_also rs latest next) r false ≡ true) x rs
    (λ e. read_keeps rs latest next x (ap (λ b. slice_index_or (if b then set flags x true else flags) x false) e ∙ get_or-set_same flags x true false (omega (arith, count, first))))
    (read_marked rs latest next (by (is_entry (slice_index_or latest x Zero))) (All-tail (λ r. r < 32) x rs low))
  where
    next : List Bool
    next = if is_entry (slice_index_or latest x Zero) then set flags x true else flags

    first : x < 32
    first = All-head (λ r. r < 32) x rs low

    by : (b : Bool) → length (if b then set flags x true else flags) ≡ 32
    by true = length-set flags x true ∙ count
    by false = count

second_low : (second : Second) → IsSecond second → All (λ r. r < 32) (second_reads second)
second_low (Reg r) is = All-cons (λ k. k < 32) r [] is (All-nil (λ k. k < 32))
second_low (Literal n) is = All-nil (λ k. k < 32)

reads_low : (i : Instr) → IsWellFormed i → All (λ r. r < 32) (reads i)
reads_low (Operate op ra second rc) wf = by (is_unary op)
  where
    by : (b : Bool) → All (λ r. r < 32) (if b then second_reads second else ra ∷ second_reads second)
    by true = second_low second wf.1
    by false = All-cons (λ r. r < 32) ra (second_reads second) wf.0 (second_low second wf.1)
reads_low (Lda ra rb disp) wf = All-cons (λ r. r < 32) rb [] wf.1 (All-nil (λ r. r < 32))
reads_low (Ldah ra rb disp) wf = All-cons (λ r. r < 32) rb [] wf.1 (All-nil (λ r. r < 32))
reads_low (Load access ra rb disp) wf = All-cons (λ r. r < 32) rb [] wf.1 (All-nil (λ r. r < 32))
reads_low (Store access ra rb disp) wf = All-cons (λ r. r < 32) ra (rb ∷ []) wf.0 (All-cons (λ r. r < 32) rb [] wf.1 (All-nil (λ r. r < 32)))
reads_low (Ldq ra rb disp) wf = All-cons (λ r. r < 32) rb [] wf.1 (All-nil (λ r. r < 32))
reads_low (Stq ra rb disp) wf = All-cons (λ r. r < 32) ra (rb ∷ []) wf.0 (All-cons (λ r. r < 32) rb [] wf.1 (All-nil (λ r. r < 32)))
reads_low (Beq ra disp) wf = All-cons (λ r. r < 32) ra [] wf.0 (All-nil (λ r. r < 32))

-- what is written to a register is a word
word_written : (i : Instr) (q : ℕ) → register_written i ≡ Some q → written_sort i ≡ sorts.Word
word_written (Operate op ra second rc) q e = refl
word_written (Lda ra rb disp) q e = refl
word_written (Ldah ra rb disp) q e = refl
word_written (Load access ra rb disp) q e = refl
word_written (Store access ra rb disp) q e = absurd (none-some q e)
word_written (Ldq ra rb disp) q e = refl
word_written (Stq ra rb disp) q e = absurd (none-some q e)
word_written (Beq ra disp) q e = refl

module _ (inputs : List InputReg) (at : ℕ) (i : Instr) (s : Lifting) (h : IsMade inputs s) (wf : IsWellFormed i) (counted : counts i ≡ true)
    (given : (r : ℕ) → r < 31 → slice_index_or (lifted_by at i s).is_read r false ≡ true → Contains (input_registers inputs) r) where
  abbrev known : List Sort
  known = known_sorts s

  of_inputs : (r : ℕ) → (is_entry (latest_of s r) ≡ true → slice_index_or (lifted_by at i s).is_read r false ≡ true) → IsOfInputs inputs (latest_of s r)
  of_inputs r marked = by (latest_of s r) refl
    where
      by : (v : Value) → latest_of s r ≡ v → IsOfInputs inputs v
      by (Entry q) e = (
          let own = h.own r q e in
          subst (Contains (input_registers inputs)) (sym own.0) (given r own.1 (marked (ap is_entry e))))
      by Zero e = tt
      by (Let n) e = tt

  each_of_inputs : All (λ r. IsOfInputs inputs (latest_of s r)) (reads i)
  each_of_inputs = All-weaker (λ r. is_entry (latest_of s r) ≡ true → slice_index_or (lifted_by at i s).is_read r false ≡ true) (λ r. IsOfInputs inputs (latest_of s r)) of_inputs (reads i)
      (read_marked (reads i) s.latest s.is_read h.flags (reads_low i wf))

  abbrev IsOf : Sort → Tree Op → Type 0
  IsOf sort t = IsTermOver [] inputs known sort t

  register_made : (r : ℕ) → IsOfInputs inputs (latest_of s r) → IsOf sorts.Word (register_term s r)
  register_made r of = value_made inputs known (latest_of s r) (h.values r) of

  abbrev Read : ℕ → Type 0
  Read r = IsOfInputs inputs (latest_of s r)

  first_of : (r : ℕ) (rs : List ℕ) → All Read (r ∷ rs) → IsOf sorts.Word (register_term s r)
  first_of r rs all = register_made r (All-head Read r rs all)

  second_of : (q r : ℕ) (rs : List ℕ) → All Read (q ∷ r ∷ rs) → IsOf sorts.Word (register_term s r)
  second_of q r rs all = first_of r rs (All-tail Read q (r ∷ rs) all)

  second_made : (second : Second) → IsSecond second → All Read (second_reads second) → IsOf sorts.Word (second_term second (register_term s))
  second_made (Reg r) is all = first_of r [] all
  second_made (Literal n) is all = constant_made inputs known n (omega (arith, is))

  memory_is_made : IsOf sorts.Memory (memory_value s.memory)
  memory_is_made = memory_made inputs known s.memory h.memory_is

  place_made : (rb : ℕ) (disp : ℤ) → FitsSigned w16 disp → IsOf sorts.Word (register_term s rb) → IsOf sorts.Word (displaced_term s rb disp)
  place_made rb disp fits base = sum_made inputs known (register_term s rb) (sign_extended disp) (extended_word disp fits) base

  term_made : (j : Instr) → IsWellFormed j → counts j ≡ true → All Read (reads j) → IsOf (written_sort j) (lifted_term j s)
  term_made (Operate op ra second rc) w c all =
      operate_made inputs known op (register_term s ra) (second_term second (register_term s))
      (λ e. first_of ra (second_reads second) (subst (λ b. All Read (if b then second_reads second else ra ∷ second_reads second)) e all))
      (second_made second w.1 (by (is_unary op) all))
    where
      by : (b : Bool) → All Read (if b then second_reads second else ra ∷ second_reads second) → All Read (second_reads second)
      by true a = a
      by false a = All-tail Read ra (second_reads second) a
  term_made (Lda ra rb disp) w c all = sum_made inputs known (register_term s rb) (sign_extended disp) (extended_word disp w.2) (first_of rb [] all)
  term_made (Ldah ra rb disp) w c all = sum_made inputs known (register_term s rb) (high_word disp) (high_is_word disp w.2) (first_of rb [] all)
  term_made (Load access ra rb disp) w c all = read_made inputs known access (memory_value s.memory) (displaced_term s rb disp) memory_is_made (place_made rb disp w.2 (first_of rb [] all))
  term_made (Store access ra rb disp) w c all =
      written_made inputs known access (memory_value s.memory) (displaced_term s rb disp) (register_term s ra) memory_is_made (place_made rb disp w.2 (second_of ra rb [] all)) (first_of ra (rb ∷ []) all)
  term_made (Ldq ra rb disp) w c all = read_made inputs known Quad (memory_value s.memory) (displaced_term s rb disp) memory_is_made (place_made rb disp w.2 (first_of rb [] all))
  term_made (Stq ra rb disp) w c all =
      written_made inputs known Quad (memory_value s.memory) (displaced_term s rb disp) (register_term s ra) memory_is_made (place_made rb disp w.2 (second_of ra rb [] all)) (first_of ra (rb ∷ []) all)
  term_made (Beq ra disp) w c all = let e : false ≡ true = c in cc

  made : IsOf (written_sort i) (lifted_term i s)
  made = term_made i wf counted each_of_inputs

  told : sort_of_tree known (lifted_term i s) ≡ written_sort i
  told = sort_told known (written_sort i) (lifted_term i s) made.sorted

  abbrev next : Lifting
  next = lifted_by at i s

  values_more : let_values (s.lets ++ let_of at i s ∷ []) ≡ let_values s.lets ++ lifted_term i s ∷ []
  values_more = map-append (λ (l : LetTree). l.value) s.lets (let_of at i s ∷ [])

  known_more : known_sorts next ≡ known ++ written_sort i ∷ []
  known_more = ap (sorts_of_lets []) values_more ∙ sorts_more [] (let_values s.lets) (lifted_term i s) ∙ ap (λ sort. known ++ sort ∷ []) told

  so_many : length known ≡ length s.lets
  so_many = (let many = sorts_length [] (let_values s.lets) in let lets = length-map s.lets (λ (l : LetTree). l.value) in omega (arith, many, lets))

  new_let : (length s.lets < length (known ++ written_sort i ∷ [])) × (sort_at (known ++ written_sort i ∷ []) (length s.lets) ≡ written_sort i)
  new_let = subst (λ n. (n < length (known ++ written_sort i ∷ [])) × (sort_at (known ++ written_sort i ∷ []) n ≡ written_sort i)) so_many (sort_new known (written_sort i))

  abbrev later : List Sort
  later = known ++ written_sort i ∷ []

  value_next : (o : Option ℕ) → register_written i ≡ o → (r : ℕ) → IsWordValue later (slice_index_or (latest_with s.latest (Let (length s.lets)) o) r Zero)
  value_next None e r = word_kept known (written_sort i) (latest_of s r) (h.values r)
  value_next (Some q) e r = by (r == q) refl
    where
      fresh : IsWordValue later (Let (length s.lets))
      fresh = subst (λ sort. (length s.lets < length later) × (sort_at later (length s.lets) ≡ sort)) (word_written i q e) new_let

      here : (n : ℕ) → (n < 32) ⊎ (32 ≤ n) → IsWordValue later (slice_index_or (set s.latest n (Let (length s.lets))) n Zero)
      here n (inl low) = (let count = h.count in subst (IsWordValue later) (sym (get_or-set_same s.latest n (Let (length s.lets)) Zero (omega (arith, low, count)))) fresh)
      here n (inr high) = (
          let count = h.count in
          let same_length = length-set s.latest n (Let (length s.lets)) in
          subst (IsWordValue later) (sym (get_or_past (set s.latest n (Let (length s.lets))) n Zero (omega (arith, high, count, same_length)))) tt)

      by : (b : Bool) → (r == q) ≡ b → IsWordValue later (slice_index_or (set s.latest q (Let (length s.lets))) r Zero)
      by true t = subst (λ n. IsWordValue later (slice_index_or (set s.latest q (Let (length s.lets))) n Zero)) (sym ((Decides-eqb r q).0 t)) (here q (cases_lt q 32))
      by false f = subst (IsWordValue later) (sym (get_or-set_other s.latest q r (Let (length s.lets)) Zero (λ is. (let g : false ≡ true = sym f ∙ (Decides-eqb r q).1 is in cc))))
          (word_kept known (written_sort i) (latest_of s r) (h.values r))

  own_next : (o : Option ℕ) (r q : ℕ) → slice_index_or (latest_with s.latest (Let (length s.lets)) o) r Zero ≡ Entry q → (q ≡ r) × (r < 31)
  own_next None r q e = h.own r q e
  own_next (Some k) r q e = by (r == k) refl
    where
      no_let : (n : ℕ) → Let n ≡ Entry q → ⊥
      no_let n f = cc

      here : (n : ℕ) → (n < 32) ⊎ (32 ≤ n) → slice_index_or (set s.latest n (Let (length s.lets))) n Zero ≡ Entry q → ⊥
      here n (inl low) f = (let count = h.count in no_let (length s.lets) (sym (get_or-set_same s.latest n (Let (length s.lets)) Zero (omega (arith, low, count))) ∙ f))
      here n (inr high) f = (
          let count = h.count in
          let same_length = length-set s.latest n (Let (length s.lets)) in
          no_entry q (sym (get_or_past (set s.latest n (Let (length s.lets))) n Zero (omega (arith, high, count, same_length))) ∙ f))

      by : (b : Bool) → (r == k) ≡ b → (q ≡ r) × (r < 31)
      by true t = absurd (here k (cases_lt k 32) (ap (λ n. slice_index_or (set s.latest k (Let (length s.lets))) n Zero) (sym ((Decides-eqb r k).0 t)) ∙ e))
      by false f = h.own r q (sym (get_or-set_other s.latest k r (Let (length s.lets)) Zero (λ is. (let g : false ≡ true = sym f ∙ (Decides-eqb r k).1 is in cc))) ∙ e)

  memory_next : (b : Bool) → stores i ≡ b → IsMemoryLet later (if b then Some (length s.lets) else s.memory)
  memory_next true e = subst (λ sort. (length s.lets < length later) × (sort_at later (length s.lets) ≡ sort)) (ap (λ b. if b then sorts.Memory else sorts.Word) e) new_let
  memory_next false e = memory_kept_let known (written_sort i) s.memory h.memory_is

  address_kept : (a : Address) → IsGoalAddress inputs known a → IsGoalAddress inputs later a
  address_kept a g = record { value = word_kept known (written_sort i) a.value g.value; of_inputs = g.of_inputs; displacement = g.displacement }

  multiple_made : (v : Value) (n : ℕ) (o : Option ℕ) → IsWordValue known v → IsOfInputs inputs v → IsWord n → IfSome (option_map (multiple_from v n) o) (IsGoalAddress inputs known)
  multiple_made v n None is of low = tt
  multiple_made v n (Some k) is of low = record { value = is; of_inputs = of; displacement = by (n % 2 ^ k == 0) }
    where
      by : (b : Bool) → IsWord (if b then 0 else n)
      by true = omega arith
      by false = low

  address_made : (j : Instr) → IsWellFormed j → All Read (reads j) → IfSome (trapping_address j s) (IsGoalAddress inputs known)
  address_made (Operate op ra second rc) w all = tt
  address_made (Lda ra rb disp) w all = tt
  address_made (Ldah ra rb disp) w all = tt
  address_made (Load access ra rb disp) w all = multiple_made (latest_of s rb) (sign_extended disp) (alignment (Load access ra rb disp)) (h.values rb) (All-head Read rb [] all) (extended_word disp w.2)
  address_made (Store access ra rb disp) w all = multiple_made (latest_of s rb) (sign_extended disp) (alignment (Store access ra rb disp)) (h.values rb) (All-head Read rb [] (All-tail Read ra (rb ∷ []) all)) (extended_word disp w.2)
  address_made (Ldq ra rb disp) w all = multiple_made (latest_of s rb) (sign_extended disp) (alignment (Ldq ra rb disp)) (h.values rb) (All-head Read rb [] all) (extended_word disp w.2)
  address_made (Stq ra rb disp) w all = multiple_made (latest_of s rb) (sign_extended disp) (alignment (Stq ra rb disp)) (h.values rb) (All-head Read rb [] (All-tail Read ra (rb ∷ []) all)) (extended_word disp w.2)
  address_made (Beq ra disp) w all = tt

  with_made : (o : Option Address) → IfSome o (IsGoalAddress inputs known) → All (IsGoalAddress inputs known) (with_address s.addresses o)
  with_made None e = h.addresses
  with_made (Some a) e = by (list_any (is_same_address a) s.addresses)
    where
      by : (b : Bool) → All (IsGoalAddress inputs known) (if b then s.addresses else s.addresses ++ a ∷ [])
      by true = h.addresses
      by false = All-append (IsGoalAddress inputs known) s.addresses (a ∷ []) h.addresses (All-cons (IsGoalAddress inputs known) a [] e (All-nil (IsGoalAddress inputs known)))

  flags_kept : (rs : List ℕ) (flags : List Bool) → length (read_also rs s.latest flags) ≡ length flags
  flags_kept [] flags = refl
  flags_kept (r ∷ rs) flags = flags_kept rs (if is_entry (latest_of s r) then set flags r true else flags) ∙ by (is_entry (latest_of s r))
    where
      by : (b : Bool) → length (if b then set flags r true else flags) ≡ length flags
      by true = length-set flags r true
      by false = refl

  count_kept : (o : Option ℕ) → length (latest_with s.latest (Let (length s.lets)) o) ≡ 32
  count_kept None = h.count
  count_kept (Some q) = length-set s.latest q (Let (length s.lets)) ∙ h.count

  pub step_made : IsMade inputs next
  step_made = record {
    count = count_kept (register_written i);
    flags = flags_kept (reads i) s.is_read ∙ h.flags;
    lets = subst (AreLets [] inputs []) (sym values_more) (lets_more inputs [] (let_values s.lets) (lifted_term i s) h.lets (subst (λ sort. IsOf sort (lifted_term i s)) (sym told) made));
    values = subst (λ sorts. (r : ℕ) → IsWordValue sorts (latest_of next r)) (sym known_more) (value_next (register_written i) refl);
    own = own_next (register_written i);
    memory_is = subst (λ sorts. IsMemoryLet sorts next.memory) (sym known_more) (memory_next (stores i) refl);
    addresses = subst (λ sorts. All (IsGoalAddress inputs sorts) next.addresses) (sym known_more)
        (All-weaker (IsGoalAddress inputs known) (IsGoalAddress inputs later) address_kept next.addresses (with_made (trapping_address i s) (address_made i wf each_of_inputs)));
  }

-- behind all of them, where each register that is read is an input
pub made_from : (inputs : List InputReg) (at : ℕ) (is : List Instr) (s : Lifting) → All IsWellFormed is → IsMade inputs s
    → ((r : ℕ) → r < 31 → slice_index_or (lifted_from at is s).is_read r false ≡ true → Contains (input_registers inputs) r) → IsMade inputs (lifted_from at is s)
made_from inputs at [] s wf h given = h
made_from inputs at (i ∷ is) s wf h given = made_from inputs (at + 1) is (lift_step at i s) (All-tail IsWellFormed i is wf) (by (counts i) refl) given
  where
    by : (b : Bool) → counts i ≡ b → IsMade inputs (if b then lifted_by at i s else s)
    by true e = step_made inputs at i s h (All-head IsWellFormed i is wf) e
        (λ r low read. given r low (from_keeps (at + 1) is (lift_step at i s) r (subst (λ (x : Lifting). slice_index_or x.is_read r false ≡ true) (sym (when_it_counts at i s e)) read)))
    by false e = h

-- ---- assumptions

pub assume_made : (inputs : List InputReg) (known : List Sort) (a : Address) → IsGoalAddress inputs known a → a.power < 4
    → IsTermOver [] inputs known sorts.Word (assume_of a).left × IsTermOver [] inputs known sorts.Word (assume_of a).right
assume_made inputs known a g low =
    let place = sum_made inputs known (value_term a.value) a.displacement g.displacement (value_made inputs known a.value g.value g.of_inputs) in
    let mask = constant_made inputs known (2 ^ a.power - 1) (small_mask a.power low) in (
      two_made inputs known operates.And (sum_term (value_term a.value) a.displacement) (constant (2 ^ a.power - 1)) refl place mask,
      constant_made inputs known 0 (omega arith),
    )
