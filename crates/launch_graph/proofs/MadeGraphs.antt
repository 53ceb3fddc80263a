-- Rows of which none is bad make a well-formed graph.
use Rattle.std.proofs.Common.{◌≡◌, ◌≢◌, ℕ, ◌+◌, ◌<◌, ◌≤◌, List, [], ◌∷◌, length, map, take, get_or, refl, sym, ap, subst, ◌∙◌, arith, inl, inr, ◌⊎◌, max, Bool, true, false, cond, ◌&&◌, ◌==◌, Some, None}
use Rattle.std.specs.Prelude.{All, Contains, slice_get, slice_index, IfSome, IsTrue, is_some, fold}
use Rattle.std.proofs.lemmas.Bool.{cases_eq, cases_lt, false≢true}
use Rattle.std.proofs.lemmas.List.{get_or-take, length-take-le}
use Rattle.std.proofs.lemmas.List.Elements.{All-head, All-tail}
use Rattle.std.proofs.lemmas.Option.{slice_get-get_or, same_Some, none-some, get_or_from_slice_get, slice_get_within}
use Rattle.text_core.specs.Names.{IsName}
use Rattle.word_ops.specs.Words.{IsWord}
use Rattle.word_ops.specs.Meanings.{arity_of_op, sort_of, operand_sort, constant_in}
use Rattle.word_ops.specs.declared.sorts.Op.{Op}
use Rattle.word_ops.specs.declared.sorts.Op.TheVariants.{Entry, Input, Constant, Word, Select, Store, Load, Put, Declared}
use Rattle.word_ops.specs.declared.sorts.Sort.{Sort}
use Rattle.word_ops.specs.declared.sorts.Sort.TheVariants as sorts
use Rattle.graph_meaning.specs.Graphs.{HaveOwnPins, is_memory_name}
use Rattle.graph_meaning.specs.declared.graphs.LaunchRow.{LaunchRow}
use Rattle.graph_meaning.specs.declared.graphs.LaunchGraph.{LaunchGraph}
use Rattle.launch_graph.specs.declared.index.RowKey.{RowKey}
use Rattle.launch_graph.specs.declared.numbering.UsedName.{UsedName}
use Rattle.launch_graph.specs.declared.row_lines.RowLine.{RowLine}
use Rattle.launch_graph.specs.GraphLines.{said_row, said_op}
use Rattle.launch_graph.specs.GraphStages.{RowFits}
use Rattle.launch_graph.specs.RowLines.{IsLineOp}
use Rattle.launch_graph.specs.RowFaults.{repeated, operand, own, second_constant, not_next, IsWrongClass, no_row, other_sort, HasRowOfClass, class_sort, sort_given, tells_sort, next_line_class}
use Rattle.launch_graph.specs.CleanLines.{IsGoodRow}
use Rattle.launch_graph.specs.Numbering.{AreNumbered}
use Rattle.graph_meaning.specs.declared.graphs.InputClass.{InputClass}
use Rattle.graph_meaning.specs.declared.graphs.Guard.{Guard}
use Rattle.graph_meaning.specs.declared.graphs.SetClass.{SetClass}
use Rattle.graph_meaning.specs.Multiples.{AreMultiplesOf}
use Rattle.graph_meaning.specs.WellFormed.{AreInOrder, IsLaunchGraph, ClassHasSort, next_class, next_index, declared_index, register_of_input, TakesItsSorts, AreRows, HaveOneName, set_sort}
use Rattle.launch_graph.proofs.GoodGraphs.{said_given, said_taken, said_constant, map_take, map_get, any_launch}
use Rattle.launch_graph.proofs.GoodRows.{next_said, sort_said}
use Rattle.graph_meaning.proofs.Lists.{any_nil, any_here, any_there, any_cases, number_itself}
use Rattle.launch_graph.proofs.Printed.{map_count}

abbrev OfClass : ℕ → RowLine → Type 0
OfClass class r = r.class ≡ class

-- a class has a row or none
has_or : (rows : List RowLine) (class : ℕ) → HasRowOfClass rows class ⊎ ¬ HasRowOfClass rows class
has_or [] class = inr (any_nil (OfClass class))
has_or (r ∷ rows) class = elim (cases_eq r.class class) [
  | inl same ↦ inl (any_here (OfClass class) r rows same)
  | inr apart ↦ elim (has_or rows class) [
    | inl has ↦ inl (any_there (OfClass class) r rows has)
    | inr none ↦ inr (λ h. elim (any_cases (OfClass class) r rows h) [ inl same ↦ apart same | inr has ↦ none has ])
  ]
]

sort_cases : (a b : Sort) → (a ≡ b) ⊎ (a ≢ b)
sort_cases sorts.Word sorts.Word = inl refl
sort_cases sorts.Memory sorts.Memory = inl refl
sort_cases sorts.Word sorts.Memory = inr (λ e. cc)
sort_cases sorts.Memory sorts.Word = inr (λ e. cc)

fold_least : (n : ℕ) (rows : List RowLine) → n ≤ fold (λ m (r : RowLine). max m (r.class + 1)) n rows
fold_least n [] = omega arith
fold_least n (r ∷ rows) = (let h = fold_least (max n (r.class + 1)) rows in omega arith)

low_from : (n : ℕ) (rows : List RowLine) (class : ℕ) → HasRowOfClass rows class → class < fold (λ m (r : RowLine). max m (r.class + 1)) n rows
low_from n [] class h = absurd (any_nil (OfClass class) h)
low_from n (r ∷ rows) class h = elim (any_cases (OfClass class) r rows h) [
  | inl same ↦ (let l = fold_least (max n (r.class + 1)) rows in omega (arith, same, l))
  | inr has ↦ low_from (max n (r.class + 1)) rows class has
]

abbrev Tells : LaunchRow → Type 0
Tells r = length r.operands ≡ arity_of_op r.op

tells_said : (o : Op) (name : List ℕ) (n : ℕ) → n ≡ arity_of_op o → tells_sort (said_op o name) n ≡ true
tells_said Entry name n e = ap (λ k. 0 == k) e
tells_said (Input r) name n e = ap (λ k. 0 == k) e
tells_said (Constant c) name n e = ap (λ k. 0 == k) e
tells_said (Word v) name n e = ap (λ k. arity_of_op (Word v) == k) e ∙ number_itself (arity_of_op (Word v))
tells_said (Select access) name n e = ap (λ k. 2 == k) e
tells_said (Store access) name n e = ap (λ k. 3 == k) e
tells_said (Load access) name n e = ap (λ k. 3 == k) e
tells_said (Put access) name n e = ap (λ k. 4 == k) e
tells_said (Declared i a) name n e = refl

-- where each row tells a sort, a class that has a row has one
some_step : (r : LaunchRow) (rs : List LaunchRow) (class : ℕ) (b : Bool) → (r.class == class) ≡ b → Tells r
    → (r.class ≡ class) ⊎ ((s : Sort) × (class_sort (map said_row rs) class ≡ Some s))
    → (s : Sort) × (cond (b && tells_sort (said_op r.op r.name) (length r.operands)) (Some (sort_given (said_op r.op r.name))) (class_sort (map said_row rs) class) ≡ Some s)
some_step r rs class true is tells h = (
  sort_given (said_op r.op r.name),
  ap (λ b. cond b (Some (sort_given (said_op r.op r.name))) (class_sort (map said_row rs) class)) (tells_said r.op r.name (length r.operands) tells),
)
some_step r rs class false is tells (inl same) = absurd (false≢true (sym is ∙ ap (λ c. c == class) same ∙ number_itself class))
some_step r rs class false is tells (inr h) = h

some_sort : (rs : List LaunchRow) (class : ℕ) → All Tells rs → HasRowOfClass (map said_row rs) class → (s : Sort) × (class_sort (map said_row rs) class ≡ Some s)
some_sort [] class each h = absurd (any_nil (OfClass class) h)
some_sort (r ∷ rs) class each h =
    some_step r rs class (r.class == class) refl (All-head Tells r rs each)
    (elim (any_cases (OfClass class) (said_row r) (map said_row rs) h) [
      | inl same ↦ inl same
      | inr has ↦ inr (some_sort rs class (All-tail Tells r rs each) has)
    ])

pub same_said_op : (o : Op) (n m : List ℕ) → (declared_index o ≡ None) ⊎ (n ≡ m) → said_op o n ≡ said_op o m
same_said_op o n m (inr e) = ap (said_op o) e
same_said_op Entry n m (inl e) = refl
same_said_op (Input r) n m (inl e) = refl
same_said_op (Constant c) n m (inl e) = refl
same_said_op (Word v) n m (inl e) = refl
same_said_op (Select access) n m (inl e) = refl
same_said_op (Store access) n m (inl e) = refl
same_said_op (Load access) n m (inl e) = refl
same_said_op (Put access) n m (inl e) = refl
same_said_op (Declared i a) n m (inl e) = cc

index_or : (o : Op) → (declared_index o ≡ None) ⊎ ((k : ℕ) × (declared_index o ≡ Some k))
index_or Entry = inl refl
index_or (Input r) = inl refl
index_or (Constant c) = inl refl
index_or (Word v) = inl refl
index_or (Select access) = inl refl
index_or (Store access) = inl refl
index_or (Load access) = inl refl
index_or (Put access) = inl refl
index_or (Declared i a) = inr (i, refl)

fits_word : (o : Op) (name : List ℕ) (m : ℕ) → IsLineOp (said_op o name) → constant_in o ≡ Some m → IsWord m
fits_word (Constant c) name m f e = subst IsWord (same_Some c m e) f
fits_word Entry name m f e = absurd (none-some m e)
fits_word (Input r) name m f e = absurd (none-some m e)
fits_word (Word v) name m f e = absurd (none-some m e)
fits_word (Select access) name m f e = absurd (none-some m e)
fits_word (Store access) name m f e = absurd (none-some m e)
fits_word (Load access) name m f e = absurd (none-some m e)
fits_word (Put access) name m f e = absurd (none-some m e)
fits_word (Declared i a) name m f e = absurd (none-some m e)

fits_register : (o : Op) (name : List ℕ) (m : ℕ) → IsLineOp (said_op o name) → register_of_input o ≡ Some m → m < 31
fits_register (Input r) name m f e = subst (λ k. k < 31) (same_Some r m e) f
fits_register Entry name m f e = absurd (none-some m e)
fits_register (Constant c) name m f e = absurd (none-some m e)
fits_register (Word v) name m f e = absurd (none-some m e)
fits_register (Select access) name m f e = absurd (none-some m e)
fits_register (Store access) name m f e = absurd (none-some m e)
fits_register (Load access) name m f e = absurd (none-some m e)
fits_register (Put access) name m f e = absurd (none-some m e)
fits_register (Declared i a) name m f e = absurd (none-some m e)

fits_name : (o : Op) (name : List ℕ) → IsLineOp (said_op o name) → IsTrue (is_some (declared_index o)) → IsName name
fits_name (Declared i a) name f h = f
fits_name Entry name f h = absurd (false≢true h)
fits_name (Input r) name f h = absurd (false≢true h)
fits_name (Constant c) name f h = absurd (false≢true h)
fits_name (Word v) name f h = absurd (false≢true h)
fits_name (Select access) name f h = absurd (false≢true h)
fits_name (Store access) name f h = absurd (false≢true h)
fits_name (Load access) name f h = absurd (false≢true h)
fits_name (Put access) name f h = absurd (false≢true h)

module _ (g : LaunchGraph) (used : List UsedName) (keys : List RowKey) (h : AreNumbered (map said_row g.rows) used keys g.rows)
    (fit : All RowFits (map said_row g.rows))
    (good : (i : ℕ) (d : RowLine) → i < length (map said_row g.rows) → IsGoodRow (length g.rows) (map said_row g.rows) (take i (map said_row g.rows)) (get_or (map said_row g.rows) i d)) where
  abbrev all : List RowLine
  all = map said_row g.rows

  -- a class that isn't wrong where a sort is wanted has that sort
  pub right_class : (wanted : Sort) (class : ℕ) → (IsWrongClass (length g.rows) all wanted class → ⊥) → ClassHasSort g wanted class
  right_class wanted class right = elim (has_or all class) [
    | inr none ↦ absurd (right (no_row none))
    | inl has ↦
        (let s = some_sort g.rows class h.arities has in
        elim (sort_cases s.0 wanted) [
          | inl same ↦ subst (λ x. ClassHasSort g x class) same (sort_said g.rows class s.0 s.1)
          | inr apart ↦ absurd (right (other_sort s.1 apart))
        ])
  ]

  module _ (k : ℕ) (r : LaunchRow) (at : slice_get g.rows k ≡ Some r) where
    within : k < length g.rows
    within = slice_get_within g.rows k r at

    good_row : IsGoodRow (length g.rows) all (map said_row (take k g.rows)) (said_row r)
    good_row =
        let n : length all ≡ length g.rows = map_count said_row g.rows in
        let lt : k < length g.rows = within in
        subst (λ rs. IsGoodRow (length g.rows) all rs (said_row r)) (map_take said_row k g.rows)
        (subst (IsGoodRow (length g.rows) all (take k all))
        (map_get said_row k g.rows (said_row r) any_launch lt ∙ ap said_row (get_or_from_slice_get g.rows k r any_launch at))
        (good k (said_row r) (omega arith)))

    fits_here : IsLineOp (said_op r.op r.name)
    fits_here =
        let n : length all ≡ length g.rows = map_count said_row g.rows in
        let lt : k < length g.rows = within in
        (subst RowFits (map_get said_row k g.rows (said_row r) any_launch lt ∙ ap said_row (get_or_from_slice_get g.rows k r any_launch at))
        (fit k (said_row r) (omega arith))).op

    -- its class is that of an earlier row or the next
    pub class_near : r.class ≤ next_class (take k g.rows)
    class_near = elim (cases_lt (next_class (take k g.rows)) r.class) [
      | inr near ↦ near
      | inl high ↦
          (let n : next_line_class (map said_row (take k g.rows)) ≡ next_class (take k g.rows) = next_said (take k g.rows) in
          absurd (good_row.class_is
          (not_next
          (λ has. (let l = low_from 0 (map said_row (take k g.rows)) r.class has in omega (arith, l, n, high)))
          (λ e. omega (arith, e, n, high)))))
    ]

    -- the sort of its class is its own
    pub class_own : (s : Sort) → class_sort all r.class ≡ Some s → s ≡ sort_of r.op
    class_own s e = elim (sort_cases s (sort_given (said_op r.op r.name))) [
      | inl same ↦ same ∙ said_given r.op r.name
      | inr apart ↦ absurd (good_row.class_is (own (other_sort e apart)))
    ]

    pub takes_sorts : TakesItsSorts g r
    takes_sorts place lt =
        right_class (operand_sort r.op place) (slice_index r.operands place)
        (λ wrong.
        good_row.class_is (operand place (slice_index r.operands place) (slice_get-get_or r.operands place 0 lt)
        (subst (λ s. IsWrongClass (length g.rows) all s (slice_index r.operands place)) (sym (said_taken r.op r.name place)) wrong)))

    has_here : HasRowOfClass all r.class
    has_here =
        let n : length all ≡ length g.rows = map_count said_row g.rows in
        let lt : k < length g.rows = within in
        (k, said_row r, omega arith, map_get said_row k g.rows (said_row r) any_launch lt ∙ ap said_row (get_or_from_slice_get g.rows k r any_launch at), refl)

    pub sort_here : class_sort all r.class ≡ Some (sort_of r.op)
    sort_here = (let s = some_sort g.rows r.class h.arities has_here in s.1 ∙ ap Some (class_own s.0 s.1))

    -- an earlier row
    said_before : (j : ℕ) (s : LaunchRow) → slice_get g.rows j ≡ Some s → j < k → Contains (map said_row (take k g.rows)) (said_row s)
    said_before j s there low =
        let lt : k < length g.rows = within in
        let size : length (take k g.rows) ≡ k = length-take-le k g.rows (omega arith) in
        let n : length (map said_row (take k g.rows)) ≡ length (take k g.rows) = map_count said_row (take k g.rows) in (
          j,
          omega arith,
          map_get said_row j (take k g.rows) (said_row s) any_launch (omega arith)
              ∙ ap said_row (get_or-take k g.rows j any_launch low ∙ get_or_from_slice_get g.rows j s any_launch there),
        )

    pub one_constant : (j : ℕ) (s : LaunchRow) (m n : ℕ) → slice_get g.rows j ≡ Some s → j < k → s.class ≡ r.class
        → constant_in s.op ≡ Some m → constant_in r.op ≡ Some n → m ≡ n
    one_constant j s m n there low same a b = elim (cases_eq m n) [
      | inl e ↦ e
      | inr apart ↦
          absurd (good_row.class_is
          (second_constant (said_before j s there low) same (said_constant s.op s.name ∙ a) (said_constant r.op r.name ∙ b) apart))
    ]

    pub apart_from : (j : ℕ) (s : LaunchRow) → slice_get g.rows j ≡ Some s → j < k → (s.op ≡ r.op) × (s.operands ≡ r.operands) → ⊥
    apart_from j s there low same =
        good_row.row_is (repeated (said_before j s there low) (ap (λ o. said_op o s.name) same.0 ∙ same_said_op r.op s.name r.name (names_same (index_or r.op))) same.1)
      where
        names_same : (declared_index r.op ≡ None) ⊎ ((i : ℕ) × (declared_index r.op ≡ Some i)) → (declared_index r.op ≡ None) ⊎ (s.name ≡ r.name)
        names_same (inl none) = inl none
        names_same (inr d) =
            let a = h.declared_are j d.0 s there (ap declared_index same.0 ∙ d.1) in
            let b = h.declared_are k d.0 r at d.1 in
            inr (a.name_is ∙ ap (λ (u : UsedName). u.name) (same_Some a.one b.one (sym a.there ∙ b.there)) ∙ sym b.name_is)

  at_place : (k : ℕ) (d : LaunchRow) → k < length g.rows → slice_get g.rows k ≡ Some (get_or g.rows k d)
  at_place k d lt = slice_get-get_or g.rows k d lt

  same_place : (r s : LaunchRow) (i j : ℕ) → slice_get g.rows i ≡ Some r → slice_get g.rows j ≡ Some s → i ≡ j → r ≡ s
  same_place r s i j a b e = same_Some r s (sym a ∙ ap (slice_get g.rows) e ∙ b)

  constants_agree : (r s : LaunchRow) (i j m n : ℕ) → AreRows g r s i j → r.class ≡ s.class → constant_in r.op ≡ Some m → constant_in s.op ≡ Some n → m ≡ n
  constants_agree r s i j m n are same a b = elim (cases_lt i j) [
    | inl low ↦ one_constant j s are.1 i r m n are.0 low same a b
    | inr high ↦ elim (cases_eq i j) [
      | inl e ↦ same_Some m n (sym a ∙ ap (λ (x : LaunchRow). constant_in x.op) (same_place r s i j are.0 are.1 e) ∙ b)
      | inr apart ↦ sym (one_constant i r are.0 j s n m are.1 (omega arith) (sym same) b a)
    ]
  ]

  names_agree : (r s : LaunchRow) (i j m n : ℕ) → AreRows g r s i j → declared_index r.op ≡ Some m → declared_index s.op ≡ Some n → HaveOneName r s m n
  names_agree r s i j m n are d e =
      let a = h.declared_are i m r are.0 d in
      let b = h.declared_are j n s are.1 e in (
        λ same.
            (let one : a.one ≡ b.one = same_Some a.one b.one (sym a.there ∙ ap (slice_get used) same ∙ b.there) in (
              a.name_is ∙ ap (λ (u : UsedName). u.name) one ∙ sym b.name_is,
              a.op_is ∙ ap (λ k. Declared k a.one.arity) same ∙ ap (λ (u : UsedName). Declared n u.arity) one ∙ sym b.op_is,
            )),
        λ same. h.distinct m n a.one b.one a.there b.there (sym a.name_is ∙ same ∙ b.name_is),
      )

  numbers_low : (i n : ℕ) (r : LaunchRow) → slice_get g.rows i ≡ Some r → declared_index r.op ≡ Some n → (n ≤ next_index (take i g.rows)) × (n < 16)
  numbers_low i n r at d =
      let a = h.declared_are i n r at d in
      let lt : n < length used = slice_get_within used n a.one a.there in
      let few : length used ≤ 16 = h.few in
      (a.next_is, omega arith)

  pub in_order : AreInOrder g.rows
  in_order i r at = class_near i r at

  pub all_take_sorts : All (TakesItsSorts g) g.rows
  all_take_sorts k d lt = takes_sorts k (get_or g.rows k d) (at_place k d lt)

  -- with the multiples of its rows, and right classes on the other lines, the graph is well formed
  pub made_graph : length g.rows ≤ 1000000 → AreMultiplesOf g.rows g.multiples → ClassHasSort g sorts.Memory g.entry
      → All (λ (i : InputClass). ClassHasSort g sorts.Word i.class × (i.reg < 31)) g.inputs → All (λ r. r < 31) g.pool
      → IfSome g.guard (λ (o : Guard). ClassHasSort g sorts.Word o.class) → All (λ (s : SetClass). ClassHasSort g (set_sort s.name) s.class) g.sets
      → All (λ (i : InputClass). IsName i.name) g.inputs → All (λ (s : SetClass). IsName s.name) g.sets
      → All (λ (s : SetClass). IfSome s.pin (λ r. r < 31)) g.sets → HaveOwnPins g.sets → All (λ (s : SetClass). IsTrue (is_memory_name s.name) → s.pin ≡ None) g.sets → IsLaunchGraph g
  made_graph few multiples entry inputs pool guard sets input_names set_names pins own_pins memory_unpinned =
      record {
        few = omega arith;
        arities = h.arities;
        distinct = λ i j d low lt same.
            apart_from j (get_or g.rows j d) (at_place j d lt) i (get_or g.rows i d) (at_place i d (omega arith)) low same;
        classes = in_order;
        sorts = λ r s i j are same. same_Some (sort_of r.op) (sort_of s.op) (sym (sort_here i r are.0) ∙ ap (class_sort all) same ∙ sort_here j s are.1);
        constants = constants_agree;
        words = λ r i m at e. fits_word r.op r.name m (fits_here i r at) e;
        registers = λ r i n at e. fits_register r.op r.name n (fits_here i r at) e;
        operands = all_take_sorts;
        indexes = numbers_low;
        unnamed = h.unnamed;
        same_name = names_agree;
        named = λ k d lt t. fits_name (get_or g.rows k d).op (get_or g.rows k d).name (fits_here k (get_or g.rows k d) (at_place k d lt)) t;
        multiples = multiples;
        entry = entry;
        inputs = inputs;
        pool = pool;
        guard = guard;
        sets = sets;
        names = (input_names, set_names);
        pins = pins;
        own_pins = own_pins;
        memory_unpinned = memory_unpinned;
      }
