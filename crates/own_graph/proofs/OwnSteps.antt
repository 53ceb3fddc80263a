-- The rows behind words are rows of a launch graph, and what each word writes is in a class of its sort.
use Rattle.std.proofs.Common.{◌≡◌, ℕ, zero, suc, ℤ, pos, ◌+◌, ◌^◌, ◌<◌, ◌≤◌, ◌%◌, ◌==◌, Bool, true, false, List, [], ◌∷◌, ◌++◌, length, map, Option, Some, None, option_map, refl, sym, ap, ap₂, ◌∙◌, subst, arith, fold, inl, inr, ◌⊎◌, ⊎_elim, IfSome, if◌then◌else◌, slice_index, All, FitsSigned, w16}
use Rattle.std.specs.List.{list_any}
use Rattle.std.proofs.lemmas.Bool.{cases_lt}
use Rattle.std.proofs.lemmas.List.{get_or_append_left, get_or_past, get_or_push, length_push}
use Rattle.std.proofs.lemmas.List.Elements.{All-append, All-cons, All-head, All-map, All-nil, All-push, All-set, All-tail, All-weaker}
use Rattle.std.proofs.lemmas.Option.{none-some}
use Rattle.word_ops.specs.Memory as accesses
use Rattle.word_ops.specs.Meanings.{arity_of_op, operand_sort, sort_of}
use Rattle.word_ops.specs.Words.{IsWord}
use Rattle.word_ops.specs.declared.operates.Operate.{Operate as OperateOf}
use Rattle.word_ops.specs.declared.operates.Operate.TheVariants as operates
use Rattle.word_ops.specs.Operates.{row_of}
use Rattle.word_ops.specs.Operators.{arity_of}
use Rattle.word_ops.specs.declared.operators.WordOp.{WordOp}
use Rattle.word_ops.specs.declared.operators.WordOp.TheVariants as words
use Rattle.word_ops.specs.declared.sorts.Access.{Access}
use Rattle.word_ops.specs.declared.sorts.Access.TheVariants as access_kinds
use Rattle.word_ops.specs.declared.sorts.Op.{Op}
use Rattle.word_ops.specs.declared.sorts.Op.TheVariants as ops
use Rattle.word_ops.specs.declared.sorts.Sort.{Sort}
use Rattle.word_ops.specs.declared.sorts.Sort.TheVariants as sorts
use Rattle.alpha_encode.specs.Codes.{is_unary}
use Rattle.alpha_encode.specs.Formats.{IsSecond, IsWellFormed}
use Rattle.alpha_encode.specs.declared.instructions.Instr.{Instr}
use Rattle.alpha_encode.specs.declared.instructions.Instr.TheVariants.{Operate, Lda, Ldah, Load, Store, Ldq, Stq, Beq}
use Rattle.alpha_encode.specs.declared.instructions.Second.{Second}
use Rattle.alpha_encode.specs.declared.instructions.Second.TheVariants.{Literal, Reg}
use Rattle.register_assign.specs.Obeys.{stores}
use Rattle.graph_meaning.specs.Graphs.{plain_row}
use Rattle.graph_meaning.specs.declared.graphs.LaunchRow.{LaunchRow}
use Rattle.code_check.specs.Terms.{alignment, needed_alignment, sign_extended}
use Rattle.code_lift.specs.Lifted.{Lifting, at_start, counts, first_numbers, is_same_address, latest_of, latest_with, let_of, lift_step, lifted_by, lifted_from, multiple_from, register_written, trapping_address, with_address}
use Rattle.code_lift.specs.declared.lifting.Address.{Address}
use Rattle.code_lift.specs.declared.lifting.Value.{Value}
use Rattle.code_lift.specs.declared.lifting.Value.TheVariants.{Entry, Let, Zero}
use Rattle.own_graph.specs.Own.{Own, memory_part, number, operand_parts, own_by, own_from, own_op, own_start, own_step, register_part, second_part}
use Rattle.own_graph.specs.Rows.{HasItsRow, applied_class, class_in, with_applied, with_row}
use Rattle.own_graph.specs.declared.operands.Part.{Part}
use Rattle.own_graph.specs.declared.operands.Part.TheVariants.{Leaf}
use Rattle.own_graph.proofs.FoundRows.{IsLonger, applied_behind, class_stays, has_leaf, longer_still, not_longer, row_behind, row_stays}
use Rattle.own_graph.proofs.OwnAddresses.{IsKnownAddress, IsKnownValue, IsShort, extended_word, number_is, own_entry, own_input_op, own_load, own_put, own_select, own_store, own_word, value_is}
use Rattle.own_graph.proofs.OwnRows.{AreOwnRows, AreParts, HasSort, IsOwnOp, IsPart, applied_keeps, applied_sort, own_push, row_keeps, sort_stays}

-- ---- what is known behind words

abbrev pub IsKnownMemory : List LaunchRow → List ℕ → Option ℕ → Type 0
IsKnownMemory rows values None = Unit {0}
IsKnownMemory rows values (Some n) = (n < length values) × HasSort rows sorts.Memory (slice_index values n)

pub record IsKnown (inputs : List ℕ) (s : Lifting) (o : Own) : Type 0 where
  pub rows : AreOwnRows o.rows
  pub entry : class_in o.rows ops.Entry [] ≡ Some 0
  pub inputs_have : All (λ r. HasItsRow o.rows (Leaf (ops.Input r))) inputs
  pub counted : length o.values ≡ length s.lets
  pub registers : All (IsKnownValue o.rows o.values) s.latest
  pub memory_is : IsKnownMemory o.rows o.values s.memory
  pub addresses : All (IsKnownAddress o.rows o.values) s.addresses

-- ---- at the start

pub first_below : (n : ℕ) → All (λ r. r < n) (first_numbers n)
first_below zero = All-nil (λ r. r < zero)
first_below (suc n) =
    All-append (λ r. r < suc n) (first_numbers n) (n ∷ [])
    (All-weaker (λ r. r < n) (λ r. r < suc n) (λ r l. omega (arith, l)) (first_numbers n) (first_below n))
    (All-cons (λ r. r < suc n) n [] (omega arith) (All-nil (λ r. r < suc n)))

pub no_rows : AreOwnRows []
no_rows = record {
  each = λ k d l. absurd (omega (arith, l));
  distinct = λ i j d l m. absurd (omega (arith, m));
  classes = λ i r e. absurd (none-some r e);
  low = λ k d l. absurd (omega (arith, l));
  alike = λ r s h k e. absurd (let l = h.1 in omega (arith, l));
}

pub entry_rows : AreOwnRows (plain_row 0 ops.Entry [] ∷ [])
entry_rows =
    own_push [] (plain_row 0 ops.Entry []) no_rows
    (record { op_is = own_entry; arity = refl; operands = λ at l. absurd (omega (arith, l)); unnamed = refl })
    refl (omega arith) (λ s h e. absurd (let l = h.1 in omega (arith, l)))

inputs_behind : (rows : List LaunchRow) (inputs : List ℕ) → IsLonger rows (fold (λ rows r. with_row rows (ops.Input r) []) rows inputs)
inputs_behind rows [] = not_longer rows
inputs_behind rows (r ∷ inputs) =
    let first = with_row rows (ops.Input r) [] in
    longer_still rows first (fold (λ rows r. with_row rows (ops.Input r) []) first inputs) (row_behind rows (ops.Input r) []) (inputs_behind first inputs)

inputs_keep : (rows : List LaunchRow) (inputs : List ℕ) → AreOwnRows rows → All (λ r. r < 31) inputs → AreOwnRows (fold (λ rows r. with_row rows (ops.Input r) []) rows inputs)
inputs_keep rows [] own low = own
inputs_keep rows (r ∷ inputs) own low =
    inputs_keep (with_row rows (ops.Input r) []) inputs
    (row_keeps rows (ops.Input r) [] own (own_input_op r (All-head (λ r. r < 31) r inputs low)) refl (λ at l. absurd (omega (arith, l))))
    (All-tail (λ r. r < 31) r inputs low)

inputs_there : (rows : List LaunchRow) (inputs : List ℕ) → All (λ r. HasItsRow (fold (λ rows r. with_row rows (ops.Input r) []) rows inputs) (Leaf (ops.Input r))) inputs
inputs_there rows [] = All-nil (λ r. HasItsRow rows (Leaf (ops.Input r)))
inputs_there rows (r ∷ inputs) =
    let first = with_row rows (ops.Input r) [] in
    let all = fold (λ rows r. with_row rows (ops.Input r) []) first inputs in
    All-cons (λ r. HasItsRow all (Leaf (ops.Input r))) r inputs
    (row_stays first all (Leaf (ops.Input r)) (inputs_behind first inputs) (has_leaf rows (ops.Input r)))
    (inputs_there first inputs)

pub known_start : (inputs : List ℕ) → All (λ r. r < 31) inputs → IsKnown inputs at_start (own_start inputs)
known_start inputs low =
    let o : Own = own_start inputs in
    let entry : List LaunchRow = plain_row 0 ops.Entry [] ∷ [] in
    record {
      rows = inputs_keep entry inputs entry_rows low;
      entry = class_stays entry o.rows ops.Entry [] 0 (inputs_behind entry inputs) refl;
      inputs_have = inputs_there entry inputs;
      counted = refl;
      registers = All-append (IsKnownValue o.rows o.values) (map Entry (first_numbers 31)) (Zero ∷ [])
          (All-map (IsKnownValue o.rows o.values) Entry (first_numbers 31) (first_below 31))
          (All-cons (IsKnownValue o.rows o.values) Zero [] tt (All-nil (IsKnownValue o.rows o.values)));
      memory_is = tt;
      addresses = All-nil (IsKnownAddress o.rows o.values);
    }

-- ---- operands

operate_arity : (op : OperateOf) → ((is_unary op ≡ true) × ((row_of op).arity ≡ 1)) ⊎ ((is_unary op ≡ false) × ((row_of op).arity ≡ 2))
operate_arity operates.Sextb = inl (refl, refl)
operate_arity operates.Sextw = inl (refl, refl)
operate_arity _ = inr (refl, refl)

module _ (inputs : List ℕ) (s : Lifting) (o : Own) (known : IsKnown inputs s o) where
  pub known_latest : (r : ℕ) → IsKnownValue o.rows o.values (latest_of s r)
  known_latest r = ⊎_elim (λ l. known.registers r Zero l) (λ l. subst (IsKnownValue o.rows o.values) (sym (get_or_past s.latest r Zero l)) tt) (cases_lt r (length s.latest))

  register_is : (r : ℕ) → IsPart o.rows sorts.Word (register_part s o.values r)
  register_is r = value_is o.rows o.values (latest_of s r) (known_latest r)

  memory_by : (m : Option ℕ) → IsKnownMemory o.rows o.values m → IsPart o.rows sorts.Memory (memory_part o.values m)
  memory_by None h = (own_entry, refl, refl)
  memory_by (Some n) h = h.1

  memory_part_is : IsPart o.rows sorts.Memory (memory_part o.values s.memory)
  memory_part_is = memory_by s.memory known.memory_is

  second_is : (second : Second) → IsSecond second → IsPart o.rows sorts.Word (second_part s o.values second)
  second_is (Reg r) h = register_is r
  second_is (Literal n) h = number_is o.rows n (omega (arith, h))

  -- the operands of an instruction are of the sorts that its operator takes, and as many
  pub record Fits (op : Op) (parts : List Part) : Type 0 where
    pub own : IsOwnOp op
    pub many : length parts ≡ arity_of_op op
    pub parts_are : AreParts o.rows (operand_sort op) parts

  operate_fits : (op : OperateOf) (a b : Part) → IsPart o.rows sorts.Word a → IsPart o.rows sorts.Word b → Fits (ops.Word (words.Operate op)) (if is_unary op then b ∷ [] else a ∷ b ∷ [])
  operate_fits op a b h k = by (operate_arity op)
    where
      one : (u : Bool) → u ≡ true → (row_of op).arity ≡ 1 → Fits (ops.Word (words.Operate op)) (if u then b ∷ [] else a ∷ b ∷ [])
      one true e f = record { own = own_word (words.Operate op); many = sym f; parts_are = (k, tt) }
      one false e f = absurd (cc)

      two : (u : Bool) → u ≡ false → (row_of op).arity ≡ 2 → Fits (ops.Word (words.Operate op)) (if u then b ∷ [] else a ∷ b ∷ [])
      two true e f = absurd (cc)
      two false e f = record { own = own_word (words.Operate op); many = sym f; parts_are = (h, (k, tt)) }

      by : ((is_unary op ≡ true) × ((row_of op).arity ≡ 1)) ⊎ ((is_unary op ≡ false) × ((row_of op).arity ≡ 2)) → Fits (ops.Word (words.Operate op)) (if is_unary op then b ∷ [] else a ∷ b ∷ [])
      by (inl e) = one (is_unary op) e.0 e.1
      by (inr e) = two (is_unary op) e.0 e.1

  sum_fits : (op : WordOp) (base : Part) (n : ℕ) → arity_of op ≡ 2 → IsWord n → IsPart o.rows sorts.Word base → Fits (ops.Word op) (base ∷ number n ∷ [])
  sum_fits op base n two low h = record { own = own_word op; many = sym two; parts_are = (h, (number_is o.rows n low, tt)) }

  load_fits : (access : Access) (n : ℕ) (base : Part) → IsWord n → IsPart o.rows sorts.Word base
      → Fits (if n == 0 then ops.Select access else ops.Load access) (memory_part o.values s.memory ∷ base ∷ (if n == 0 then [] else number n ∷ []))
  load_fits access n base low h = by (n == 0)
    where
      by : (b : Bool) → Fits (if b then ops.Select access else ops.Load access) (memory_part o.values s.memory ∷ base ∷ (if b then [] else number n ∷ []))
      by true = record { own = own_select access; many = refl; parts_are = (memory_part_is, (h, tt)) }
      by false = record { own = own_load access; many = refl; parts_are = (memory_part_is, (h, (number_is o.rows n low, tt))) }

  store_fits : (access : Access) (n : ℕ) (base value : Part) → IsWord n → IsPart o.rows sorts.Word base → IsPart o.rows sorts.Word value
      → Fits (if n == 0 then ops.Store access else ops.Put access) ((memory_part o.values s.memory ∷ base ∷ (if n == 0 then [] else number n ∷ [])) ++ value ∷ [])
  store_fits access n base value low h k = by (n == 0)
    where
      by : (b : Bool) → Fits (if b then ops.Store access else ops.Put access) ((memory_part o.values s.memory ∷ base ∷ (if b then [] else number n ∷ [])) ++ value ∷ [])
      by true = record { own = own_store access; many = refl; parts_are = (memory_part_is, (h, (k, tt))) }
      by false = record { own = own_put access; many = refl; parts_are = (memory_part_is, (h, (number_is o.rows n low, (k, tt)))) }

  pub operands_fit : (i : Instr) → IsWellFormed i → Fits (own_op i) (operand_parts s o.values i)
  operands_fit (Operate op ra second rc) h = operate_fits op (register_part s o.values ra) (second_part s o.values second) (register_is ra) (second_is second h.1)
  operands_fit (Lda ra rb disp) h = sum_fits words.Lda (register_part s o.values rb) (sign_extended disp) refl (extended_word disp h.2) (register_is rb)
  operands_fit (Ldah ra rb disp) h = sum_fits words.Ldah (register_part s o.values rb) (sign_extended disp) refl (extended_word disp h.2) (register_is rb)
  operands_fit (Load access ra rb disp) h = load_fits access (sign_extended disp) (register_part s o.values rb) (extended_word disp h.2) (register_is rb)
  operands_fit (Store access ra rb disp) h = store_fits access (sign_extended disp) (register_part s o.values rb) (register_part s o.values ra) (extended_word disp h.2) (register_is rb) (register_is ra)
  operands_fit (Ldq ra rb disp) h = load_fits access_kinds.Quad (sign_extended disp) (register_part s o.values rb) (extended_word disp h.2) (register_is rb)
  operands_fit (Stq ra rb disp) h = store_fits access_kinds.Quad (sign_extended disp) (register_part s o.values rb) (register_part s o.values ra) (extended_word disp h.2) (register_is rb) (register_is ra)
  operands_fit (Beq ra disp) h = record { own = own_entry; many = refl; parts_are = tt }

-- ---- the sort of what is written

chosen : (P : Op → Type 0) (b : Bool) (x y : Op) → P x → P y → P (if b then x else y)
chosen P true x y h k = h
chosen P false x y h k = k

abbrev IsWordOp : Op → Type 0
IsWordOp op = sort_of op ≡ sorts.Word

abbrev IsMemoryOp : Op → Type 0
IsMemoryOp op = sort_of op ≡ sorts.Memory

written_word : (i : Instr) (r : ℕ) → register_written i ≡ Some r → IsWordOp (own_op i)
written_word (Operate op ra second rc) r e = refl
written_word (Lda ra rb disp) r e = refl
written_word (Ldah ra rb disp) r e = refl
written_word (Load access ra rb disp) r e = chosen IsWordOp (sign_extended disp == 0) (ops.Select access) (ops.Load access) refl refl
written_word (Store access ra rb disp) r e = absurd (none-some r e)
written_word (Ldq ra rb disp) r e = chosen IsWordOp (sign_extended disp == 0) (ops.Select access_kinds.Quad) (ops.Load access_kinds.Quad) refl refl
written_word (Stq ra rb disp) r e = absurd (none-some r e)
written_word (Beq ra disp) r e = absurd (none-some r e)

stored_memory : (i : Instr) → stores i ≡ true → IsMemoryOp (own_op i)
stored_memory (Operate op ra second rc) e = absurd (cc)
stored_memory (Lda ra rb disp) e = absurd (cc)
stored_memory (Ldah ra rb disp) e = absurd (cc)
stored_memory (Load access ra rb disp) e = absurd (cc)
stored_memory (Store access ra rb disp) e = chosen IsMemoryOp (sign_extended disp == 0) (ops.Store access) (ops.Put access) refl refl
stored_memory (Ldq ra rb disp) e = absurd (cc)
stored_memory (Stq ra rb disp) e = chosen IsMemoryOp (sign_extended disp == 0) (ops.Store access_kinds.Quad) (ops.Put access_kinds.Quad) refl refl
stored_memory (Beq ra disp) e = absurd (cc)

-- ---- addresses on which words trap

abbrev IsLowPower : Option ℕ → Type 0
IsLowPower o = IfSome o (λ n. n < 4)

low_access : (access : Access) → IsLowPower (needed_alignment (accesses.alignment access))
low_access access_kinds.Quad = tt
low_access access_kinds.Byte = tt
low_access access_kinds.Word = omega arith
low_access access_kinds.Long = omega arith

unless_none : (b : Bool) (o : Option ℕ) → IsLowPower o → IsLowPower (if b then None else o)
unless_none true o h = tt
unless_none false o h = h

multiple_known : (rows : List LaunchRow) (values : List ℕ) (v : Value) (n : ℕ) (power : Option ℕ) → IsKnownValue rows values v → IsShort n → IsLowPower power → IfSome (option_map (multiple_from v n) power) (IsKnownAddress rows values)
multiple_known rows values v n None h low p = tt
multiple_known rows values v n (Some power) h low p = record { value = h; short = by (n % 2 ^ power == 0); power = p }
  where
    by : (b : Bool) → IsShort (if b then 0 else n)
    by true = record { disp = pos 0; fits = record { sfits = omega arith }; is = refl }
    by false = low

with_known : (P : Address → Type 0) (before : List Address) (a : Option Address) → All P before → IfSome a P → All P (with_address before a)
with_known P before None h k = h
with_known P before (Some a) h k = by (list_any (is_same_address a) before)
  where
    by : (b : Bool) → All P (if b then before else before ++ a ∷ [])
    by true = h
    by false = All-push P before a h k

module _ (inputs : List ℕ) (s : Lifting) (o : Own) (known : IsKnown inputs s o) where
  short_of : (disp : ℤ) → FitsSigned w16 disp → IsShort (sign_extended disp)
  short_of disp fits = record { disp = disp; fits = fits; is = refl }

  address_known : (i : Instr) → IsWellFormed i → IfSome (trapping_address i s) (IsKnownAddress o.rows o.values)
  address_known (Operate op ra second rc) h = tt
  address_known (Lda ra rb disp) h = tt
  address_known (Ldah ra rb disp) h = tt
  address_known (Load access ra rb disp) h = multiple_known o.rows o.values (latest_of s rb) (sign_extended disp) (alignment (Load access ra rb disp)) (known_latest inputs s o known rb) (short_of disp h.2) (unless_none (ra == 31) (needed_alignment (accesses.alignment access)) (low_access access))
  address_known (Store access ra rb disp) h = multiple_known o.rows o.values (latest_of s rb) (sign_extended disp) (alignment (Store access ra rb disp)) (known_latest inputs s o known rb) (short_of disp h.2) (low_access access)
  address_known (Ldq ra rb disp) h = multiple_known o.rows o.values (latest_of s rb) (sign_extended disp) (alignment (Ldq ra rb disp)) (known_latest inputs s o known rb) (short_of disp h.2) (unless_none (ra == 31) (Some 3) (omega arith))
  address_known (Stq ra rb disp) h = multiple_known o.rows o.values (latest_of s rb) (sign_extended disp) (Some 3) (known_latest inputs s o known rb) (short_of disp h.2) (omega arith)
  address_known (Beq ra disp) h = tt

  -- ---- behind one instruction more

  module _ (at : ℕ) (i : Instr) (formed : IsWellFormed i) where
    abbrev parts : List Part
    parts = operand_parts s o.values i

    abbrev rows : List LaunchRow
    rows = with_applied o.rows (own_op i) parts

    abbrev class : ℕ
    class = applied_class o.rows (own_op i) parts

    abbrev values : List ℕ
    values = o.values ++ class ∷ []

    longer : IsLonger o.rows rows
    longer = applied_behind o.rows (own_op i) parts

    fits : Fits inputs s o known (own_op i) parts
    fits = operands_fit inputs s o known i formed

    new_sort : HasSort rows (sort_of (own_op i)) (slice_index values (length o.values))
    new_sort = subst (HasSort rows (sort_of (own_op i))) (sym (get_or_push o.values class 0 (length o.values) refl)) (applied_sort o.rows (own_op i) parts)

    -- the number of the new let
    new_is : (n : ℕ) → n ≡ length o.values → n < length values
    new_is n e = omega (arith, e, length_push o.values class)

    new_value : (sort : Sort) → sort_of (own_op i) ≡ sort → (length s.lets < length values) × HasSort rows sort (slice_index values (length s.lets))
    new_value sort e = (
      new_is (length s.lets) (sym known.counted),
      subst (λ n. HasSort rows sort (slice_index values n)) known.counted (subst (λ t. HasSort rows t (slice_index values (length o.values))) e new_sort),
    )

    old_class : (sort : Sort) (n : ℕ) → (n < length o.values) × HasSort o.rows sort (slice_index o.values n) → (n < length values) × HasSort rows sort (slice_index values n)
    old_class sort n h = (
      omega (arith, h.0, length_push o.values class),
      subst (HasSort rows sort) (sym (get_or_append_left o.values (class ∷ []) 0 n h.0)) (sort_stays o.rows rows sort (slice_index o.values n) longer h.1),
    )

    old_value : (v : Value) → IsKnownValue o.rows o.values v → IsKnownValue rows values v
    old_value (Entry r) h = h
    old_value Zero h = h
    old_value (Let n) h = old_class sorts.Word n h

    old_memory : (m : Option ℕ) → IsKnownMemory o.rows o.values m → IsKnownMemory rows values m
    old_memory None h = h
    old_memory (Some n) h = old_class sorts.Memory n h

    old_address : (a : Address) → IsKnownAddress o.rows o.values a → IsKnownAddress rows values a
    old_address a h = record { value = old_value a.value h.value; short = h.short; power = h.power }

    old_address_there : (a : Option Address) → IfSome a (IsKnownAddress o.rows o.values) → IfSome a (IsKnownAddress rows values)
    old_address_there None h = tt
    old_address_there (Some a) h = old_address a h

    old_registers : All (IsKnownValue rows values) s.latest
    old_registers = All-weaker (IsKnownValue o.rows o.values) (IsKnownValue rows values) old_value s.latest known.registers

    latest_known : (written : Option ℕ) → ((r : ℕ) → written ≡ Some r → IsWordOp (own_op i)) → All (IsKnownValue rows values) (latest_with s.latest (Let (length s.lets)) written)
    latest_known None h = old_registers
    latest_known (Some r) h = All-set (IsKnownValue rows values) s.latest r (Let (length s.lets)) (new_value sorts.Word (h r refl)) old_registers

    memory_known : (b : Bool) → (b ≡ true → IsMemoryOp (own_op i)) → IsKnownMemory rows values (if b then Some (length s.lets) else s.memory)
    memory_known true h = new_value sorts.Memory (h refl)
    memory_known false h = old_memory s.memory known.memory_is

    known_by : IsKnown inputs (lifted_by at i s) (own_by s i o)
    known_by = record {
      rows = applied_keeps o.rows (own_op i) parts known.rows fits.own fits.many fits.parts_are;
      entry = class_stays o.rows rows ops.Entry [] 0 longer known.entry;
      inputs_have = All-weaker (λ r. HasItsRow o.rows (Leaf (ops.Input r))) (λ r. HasItsRow rows (Leaf (ops.Input r))) (λ r h. row_stays o.rows rows (Leaf (ops.Input r)) longer h) inputs known.inputs_have;
      counted = length_push o.values class ∙ ap (λ n. n + 1) known.counted ∙ sym (length_push s.lets (let_of at i s));
      registers = latest_known (register_written i) (written_word i);
      memory_is = memory_known (stores i) (stored_memory i);
      addresses = with_known (IsKnownAddress rows values) s.addresses (trapping_address i s)
          (All-weaker (IsKnownAddress o.rows o.values) (IsKnownAddress rows values) old_address s.addresses known.addresses)
          (old_address_there (trapping_address i s) (address_known i formed));
    }

    pub known_step : IsKnown inputs (lift_step at i s) (own_step s i o)
    known_step = by (counts i)
      where
        by : (b : Bool) → IsKnown inputs (if b then lifted_by at i s else s) (if b then own_by s i o else o)
        by true = known_by
        by false = known

pub known_from : (inputs : List ℕ) (at : ℕ) (instrs : List Instr) (s : Lifting) (o : Own) → All IsWellFormed instrs → IsKnown inputs s o → IsKnown inputs (lifted_from at instrs s) (own_from at instrs s o)
known_from inputs at [] s o formed known = known
known_from inputs at (i ∷ instrs) s o formed known =
    known_from inputs (at + 1) instrs (lift_step at i s) (own_step s i o) (All-tail IsWellFormed i instrs formed)
    (known_step inputs s o known at i (All-head IsWellFormed i instrs formed))

-- ---- how many rows

few_displaced : (b : Bool) (n : ℕ) (a c : Part) (rest : List Part) → length rest ≤ 1 → length ((a ∷ c ∷ (if b then [] else number n ∷ [])) ++ rest) ≤ 4
few_displaced true n a c rest l = omega (arith, l)
few_displaced false n a c rest l = omega (arith, l)

few_displaced_alone : (b : Bool) (n : ℕ) (a c : Part) → length (a ∷ c ∷ (if b then [] else number n ∷ [])) ≤ 4
few_displaced_alone true n a c = omega arith
few_displaced_alone false n a c = omega arith

few_of_two : (b : Bool) (a c : Part) → length (if b then c ∷ [] else a ∷ c ∷ []) ≤ 4
few_of_two true a c = omega arith
few_of_two false a c = omega arith

pub few_operands : (s : Lifting) (values : List ℕ) (i : Instr) → length (operand_parts s values i) ≤ 4
few_operands s values (Operate op ra second rc) = few_of_two (is_unary op) (register_part s values ra) (second_part s values second)
few_operands s values (Lda ra rb disp) = omega arith
few_operands s values (Ldah ra rb disp) = omega arith
few_operands s values (Load access ra rb disp) = few_displaced_alone (sign_extended disp == 0) (sign_extended disp) (memory_part values s.memory) (register_part s values rb)
few_operands s values (Store access ra rb disp) = few_displaced (sign_extended disp == 0) (sign_extended disp) (memory_part values s.memory) (register_part s values rb) (register_part s values ra ∷ []) (omega arith)
few_operands s values (Ldq ra rb disp) = few_displaced_alone (sign_extended disp == 0) (sign_extended disp) (memory_part values s.memory) (register_part s values rb)
few_operands s values (Stq ra rb disp) = few_displaced (sign_extended disp == 0) (sign_extended disp) (memory_part values s.memory) (register_part s values rb) (register_part s values ra ∷ []) (omega arith)
few_operands s values (Beq ra disp) = omega arith

-- ---- one step

abbrev own_of : List LaunchRow → List ℕ → Own
own_of rows values = record { rows = rows; values = values }

pub own_one : (s : Lifting) (i : Instr) (o p : Own) (op : Op) (made : List Part) (class : ℕ) → counts i ≡ true → op ≡ own_op i → made ≡ operand_parts s o.values i
    → p.rows ≡ with_applied o.rows op made → class ≡ applied_class o.rows op made → p.values ≡ o.values ++ class ∷ [] → p ≡ own_step s i o
own_one s i o p op made class counted op_is made_is rows_are class_is values_are =
    let rows : p.rows ≡ with_applied o.rows (own_op i) (operand_parts s o.values i) = rows_are ∙ ap₂ (with_applied o.rows) op_is made_is in
    let last : class ≡ applied_class o.rows (own_op i) (operand_parts s o.values i) = class_is ∙ ap₂ (applied_class o.rows) op_is made_is in
    ap₂ own_of rows (values_are ∙ ap (λ c. o.values ++ c ∷ []) last)
    ∙ sym (ap (λ b. if b then own_by s i o else o) counted)
