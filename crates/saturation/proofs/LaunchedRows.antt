-- The rows of a launch graph that are made of an E-graph's rows.
use Rattle.std.proofs.Common.{◌≡◌, ◌≢◌, ℕ, ◌+◌, ◌<◌, ◌≤◌, Bool, true, false, max, Option, Some, None, option_map, List, [], length, map, take, get_or, slice_index, refl, sym, ap, ◌∙◌, subst, inl, inr, ◌⊎◌, arith, All, AllPairs, Contains}
use Rattle.std.specs.Prelude.{IsTrue, IfSome, is_some, slice_get, bytes_eq}
use Rattle.std.specs.List.{filter_map}
use Rattle.std.proofs.lemmas.List.{get_or-map, length-map, take-map}
use Rattle.std.proofs.lemmas.List.Elements.{All-map, All-same, All-weaker, All-contains, All-contains_itself, All-get_or, All-take, Contains-get_or}
use Rattle.std.proofs.lemmas.List.Sums.{position_or_len_is}
use Rattle.std.proofs.lemmas.Option.{get_or_from_slice_get, slice_get_within, slice_get_read}
use Rattle.std.proofs.lemmas.Slice.Eq.{bytes_eq-Decides}
use Rattle.text_core.specs.Names.{IsName}
use Rattle.word_ops.specs.Words.{IsWord}
use Rattle.word_ops.specs.Meanings.{arity_of_op, sort_of, operand_sort, constant_in}
use Rattle.word_ops.specs.declared.sorts.Arity.{Arity}
use Rattle.word_ops.specs.declared.sorts.Sort.{Sort}
use Rattle.word_ops.specs.declared.sorts.Op.{Op}
use Rattle.word_ops.specs.declared.sorts.Op.TheVariants.{Entry, Input, Constant, Word, Select, Store, Load, Put, Declared}
use Rattle.word_terms.specs.Keys.{op_signature}
use Rattle.egraph.specs.Graph.{Graph, IsGraph, HasClass}
use Rattle.egraph.specs.Joined.{relabel}
use Rattle.egraph.specs.declared.rows.Row.{Row}
use Rattle.graph_meaning.specs.WellFormed.{ClassHasSort, TakesItsSorts, AreRows, HaveOneName, declared_index, register_of_input, next_class, next_index, next_after}
use Rattle.graph_meaning.specs.declared.graphs.LaunchGraph.{LaunchGraph}
use Rattle.graph_meaning.specs.declared.graphs.LaunchRow.{LaunchRow}
use Rattle.goal_meaning.specs.Names.{declared_name}
use Rattle.goal_meaning.specs.WellFormed.{IsDeclared}
use Rattle.goal_meaning.specs.declared.goals.DeclaredOp.{DeclaredOp}
use Rattle.saturation.specs.Launched.{IsKnown, row_in}
use Rattle.saturation.specs.Numbered.{AreClassNumbers, classes_of_rows, indexes_of, firsts, place_in, launched_name, launched_op, launched_row}
use Rattle.saturation.specs.Renamed.{IsRenamed}
use Rattle.saturation.specs.StandsFor.{declared_number, numbered_op, row_view, graph_view}
use Rattle.saturation.proofs.Firsts.{IsIn, all_there, at_place, one_place, few_firsts, in_order, next_number}
use Rattle.saturation.proofs.Graphs.{operands_have}
use Rattle.saturation.proofs.Renaming.{same_from_map, has_back}
use Rattle.saturation.proofs.Mapped.{contains_map, contains_filter_map, map_twice, map_same, map_itself, fold_map, fold_same, fold_same_each, all_filter_map, filter_map_all, some_at}

-- ---- operators

module _ (declared : List DeclaredOp) (used : List ℕ) where
  -- by whether the operator is a declared one
  each_op : (P : Op → Op → Type 0) → ((op : Op) → declared_index op ≡ None → launched_name declared op ≡ [] → P op op) → ((i : ℕ) (a : Arity) → P (Declared (place_in used i) a) (Declared i a)) → (op : Op) → P (launched_op used op) op
  each_op P other one Entry = other Entry refl refl
  each_op P other one (Input r) = other (Input r) refl refl
  each_op P other one (Constant c) = other (Constant c) refl refl
  each_op P other one (Word op) = other (Word op) refl refl
  each_op P other one (Select access) = other (Select access) refl refl
  each_op P other one (Store access) = other (Store access) refl refl
  each_op P other one (Load access) = other (Load access) refl refl
  each_op P other one (Put access) = other (Put access) refl refl
  each_op P other one (Declared i a) = one i a

  pub same_arity : (op : Op) → arity_of_op (launched_op used op) ≡ arity_of_op op
  same_arity = each_op (λ o p. arity_of_op o ≡ arity_of_op p) (λ op e f. refl) (λ i a. refl)

  pub same_sort : (op : Op) → sort_of (launched_op used op) ≡ sort_of op
  same_sort = each_op (λ o p. sort_of o ≡ sort_of p) (λ op e f. refl) (λ i a. refl)

  pub same_operand_sort : (at : ℕ) (op : Op) → operand_sort (launched_op used op) at ≡ operand_sort op at
  same_operand_sort at = each_op (λ o p. operand_sort o at ≡ operand_sort p at) (λ op e f. refl) (λ i a. refl)

  pub same_constant : (op : Op) → constant_in (launched_op used op) ≡ constant_in op
  same_constant = each_op (λ o p. constant_in o ≡ constant_in p) (λ op e f. refl) (λ i a. refl)

  pub same_index : (op : Op) → declared_index (launched_op used op) ≡ option_map (place_in used) (declared_index op)
  same_index = each_op (λ o p. declared_index o ≡ option_map (place_in used) (declared_index p)) (λ op e f. e ∙ ap (option_map (place_in used)) (sym e)) (λ i a. refl)

  -- an operator of this number in the launch graph is a declared one
  abbrev IsNumbered : ℕ → Op → Type 0
  IsNumbered n op = (i : ℕ) × (a : Arity) × (op ≡ Declared i a) × (n ≡ place_in used i)

  pub index_from : (n : ℕ) (op : Op) → declared_index (launched_op used op) ≡ Some n → IsNumbered n op
  index_from n = each_op (λ o p. declared_index o ≡ Some n → IsNumbered n p) (λ op e f g. absurd (let k : None ≡ Some n = sym e ∙ g in cc)) (λ i a g. (i, a, refl, (let k : place_in used i ≡ n = cc in sym k)))

  pub same_input : (op : Op) → register_of_input (launched_op used op) ≡ register_of_input op
  same_input = each_op (λ o p. register_of_input o ≡ register_of_input p) (λ op e f. refl) (λ i a. refl)

  pub no_name : (op : Op) → (launched_name declared op ≡ []) ⊎ IsTrue (is_some (declared_index (launched_op used op)))
  no_name = each_op (λ o p. (launched_name declared p ≡ []) ⊎ IsTrue (is_some (declared_index o))) (λ op e f. inl f) (λ i a. inr refl)

  -- the operator of a number in the launch graph
  abbrev op_back : Op → Op
  op_back (Declared n a) = Declared (get_or used n 0) a
  op_back op = op

  back_other : (op : Op) → declared_index op ≡ None → op_back op ≡ op
  back_other Entry e = refl
  back_other (Input r) e = refl
  back_other (Constant c) e = refl
  back_other (Word op) e = refl
  back_other (Select access) e = refl
  back_other (Store access) e = refl
  back_other (Load access) e = refl
  back_other (Put access) e = refl
  back_other (Declared i a) e = absurd (cc)

  abbrev IsUsed : Op → Type 0
  IsUsed op = (i : ℕ) → declared_index op ≡ Some i → IsIn used i

  back_op : (op : Op) → IsUsed op → op_back (launched_op used op) ≡ op
  back_op = each_op (λ o p. IsUsed p → op_back o ≡ p) (λ op e f h. back_other op e) (λ i a h. ap (λ n. Declared n a) (at_place used i (h i refl)))

  -- two operators that are one in the launch graph are one
  pub one_op : (a b : Op) → IsUsed a → IsUsed b → launched_op used a ≡ launched_op used b → a ≡ b
  one_op a b h k e = sym (back_op a h) ∙ ap op_back e ∙ back_op b k

known_input : (declared : List DeclaredOp) (op : Op) (n : ℕ) → IsKnown declared op → register_of_input op ≡ Some n → n < 31
known_input declared Entry n k e = absurd (cc)
known_input declared (Input r) n k e = let f : r ≡ n = cc in omega (arith, k, f)
known_input declared (Constant c) n k e = absurd (cc)
known_input declared (Word op) n k e = absurd (cc)
known_input declared (Select access) n k e = absurd (cc)
known_input declared (Store access) n k e = absurd (cc)
known_input declared (Load access) n k e = absurd (cc)
known_input declared (Put access) n k e = absurd (cc)
known_input declared (Declared i a) n k e = absurd (cc)

no_index : {o : Option ℕ} → o ≡ None → IsTrue (is_some o) → ⊥
no_index {o} e h = let k : false ≡ true = ap is_some (sym e) ∙ h in cc

declared_is : (op : Op) (n : ℕ) → declared_index op ≡ Some n → (a : Arity) × (op ≡ Declared n a)
declared_is Entry n e = absurd (cc)
declared_is (Input r) n e = absurd (cc)
declared_is (Constant c) n e = absurd (cc)
declared_is (Word op) n e = absurd (cc)
declared_is (Select access) n e = absurd (cc)
declared_is (Store access) n e = absurd (cc)
declared_is (Load access) n e = absurd (cc)
declared_is (Put access) n e = absurd (cc)
declared_is (Declared i a) n e = let k : i ≡ n = cc in (a, ap (λ m. Declared m a) k)

one_arity : (declared : List DeclaredOp) (i : ℕ) (a b : Arity) → IsDeclared declared i a → IsDeclared declared i b → a ≡ b
one_arity declared i a b h k =
    let e : Some h.operator ≡ Some k.operator = sym h.found ∙ k.found in
    let f : h.operator ≡ k.operator = cc in
    sym h.takes ∙ ap (λ (d : DeclaredOp). d.arity) f ∙ k.takes

known_index : (declared : List DeclaredOp) (op : Op) (n : ℕ) → length declared ≤ 16 → IsKnown declared op → declared_index op ≡ Some n → n < 16
known_index declared op n few known e =
    let d = declared_is op n e in
    let k : IsDeclared declared n d.0 = subst (IsKnown declared) d.1 known in
    omega (arith, k.below, few)

-- at most 16 operators are used
pub few_used : (declared : List DeclaredOp) (rows : List (Row Op)) → length declared ≤ 16 → All (λ (r : Row Op). IsKnown declared r.op) rows → length (firsts (indexes_of rows)) ≤ 16
few_used declared rows few known =
    few_firsts 16 (indexes_of rows) (all_filter_map (λ (r : Row Op). declared_index r.op) (λ (r : Row Op). IsKnown declared r.op) (λ n. n < 16) rows (λ r n k e. known_index declared r.op n few k e) known)

not_true : (b : Bool) → (b ≡ true → ⊥) → b ≡ false
not_true true h = absurd (h refl)
not_true false h = refl

-- ---- names

module _ (declared : List DeclaredOp) (differ : AllPairs (λ (d e : DeclaredOp). d.name ≢ e.name) declared) where
  name_at : (i : ℕ) (d : DeclaredOp) → i < length declared → declared_name declared i ≡ (get_or declared i d).name
  name_at i d l = get_or-map (λ (d : DeclaredOp). d.name) declared i d [] l

  other_name : (i k : ℕ) (d : DeclaredOp) → i < length declared → k < i → bytes_eq (get_or declared k d).name (declared_name declared i) ≡ false
  other_name i k d l b = not_true _ (λ t. differ k i d b l ((bytes_eq-Decides (get_or declared k d).name (declared_name declared i)).0 t ∙ name_at i d l))

  pub number_is : (i : ℕ) → i < length declared → declared_number declared (declared_name declared i) ≡ i
  number_is i l =
      let d = (some_at declared i l).0 in
      position_or_len_is (λ (o : DeclaredOp). bytes_eq o.name (declared_name declared i)) declared i d (omega (arith, l)) (λ k b. other_name i k d l b) (λ m. (bytes_eq-Decides (get_or declared i d).name (declared_name declared i)).1 (sym (name_at i d l)))

  -- the operator that a row of a launch graph means is the one that it was made of
  pub op_is : (used : List ℕ) (op : Op) → IsKnown declared op → numbered_op declared (launched_op used op) (launched_name declared op) ≡ op
  op_is used Entry k = refl
  op_is used (Input r) k = refl
  op_is used (Constant c) k = refl
  op_is used (Word op) k = refl
  op_is used (Select access) k = refl
  op_is used (Store access) k = refl
  op_is used (Load access) k = refl
  op_is used (Put access) k = refl
  op_is used (Declared i a) k = ap (λ n. Declared n a) (number_is i k.below)

-- ---- rows

module _ (declared : List DeclaredOp) (differ : AllPairs (λ (d e : DeclaredOp). d.name ≢ e.name) declared) (names : All (λ (d : DeclaredOp). IsName d.name) declared) (few : length declared ≤ 16)
    (graph : Graph Op) (is : IsGraph op_signature graph) (known : All (λ (r : Row Op). IsKnown declared r.op) graph.rows) (numbers : List ℕ) (are : AreClassNumbers graph numbers) where
  abbrev rows : List (Row Op)
  rows = graph.rows

  abbrev used : List ℕ
  used = firsts (indexes_of graph.rows)

  abbrev pub number : ℕ → ℕ
  number c = slice_index numbers c

  abbrev launched : Row Op → LaunchRow
  launched r = launched_row numbers used declared r

  -- ---- classes

  class_there : (c : ℕ) → HasClass graph c → IsIn (firsts (classes_of_rows graph.rows)) c
  class_there c h = all_there (classes_of_rows graph.rows) c (subst (Contains (classes_of_rows graph.rows)) h.is (contains_map (λ (t : Row Op). t.class) graph.rows h.row h.there))

  pub one_class : (c d : ℕ) → HasClass graph c → HasClass graph d → number c ≡ number d → c ≡ d
  one_class c d h k e = one_place (firsts (classes_of_rows graph.rows)) c d (class_there c h) (class_there d k) (sym (are.each c h) ∙ e ∙ are.each d k)

  -- the class of a number
  abbrev pub class_in : ℕ → ℕ
  class_in n = get_or (firsts (classes_of_rows graph.rows)) n 0

  pub class_back : (c : ℕ) → HasClass graph c → class_in (number c) ≡ c
  class_back c h = ap class_in (are.each c h) ∙ at_place (firsts (classes_of_rows graph.rows)) c (class_there c h)

  own_class : (r : Row Op) → Contains graph.rows r → HasClass graph r.class
  own_class r h = record { row = r; there = h; is = refl }

  is_name : (op : Op) → IsKnown declared op → IsTrue (is_some (declared_index (launched_op used op))) → IsName (launched_name declared op)
  is_name = each_op declared used (λ o p. IsKnown declared p → IsTrue (is_some (declared_index o)) → IsName (launched_name declared p))
      (λ op e f k h. absurd (no_index e h))
      (λ i a k h. let d = (some_at declared i k.below).0 in subst IsName (sym (name_at declared differ i d k.below)) (All-get_or (λ (d : DeclaredOp). IsName d.name) declared i d k.below names))

  is_known : (r : Row Op) → Contains graph.rows r → IsKnown declared r.op
  is_known r h = All-contains (λ (r : Row Op). IsKnown declared r.op) graph.rows r known h

  -- ---- the rows seen as those of an E-graph

  view_row : (r : Row Op) → Contains graph.rows r → row_view declared (launched r) ≡ relabel number r
  view_row r h =
      ap (λ (op : Op). record { op = op; operands = map number r.operands; class = number r.class }) (op_is declared differ used r.op (is_known r h))

  view_back : (r : Row Op) → Contains graph.rows r → row_in declared class_in (launched r) ≡ r
  view_back r h =
      let same : map class_in (map number r.operands) ≡ r.operands =
      map_twice number class_in r.operands
      ∙ map_itself (λ c. class_in (number c)) r.operands (All-weaker (HasClass graph) (λ c. class_in (number c) ≡ c) class_back r.operands (operands_have op_signature graph is r h)) in
      let own : class_in (number r.class) ≡ r.class = class_back r.class (own_class r h) in
      ap (relabel class_in) (view_row r h)
      ∙ ap (λ (os : List ℕ). record { op = r.op; operands = os; class = class_in (number r.class) }) same
      ∙ ap (λ (c : ℕ). record { op = r.op; operands = r.operands; class = c }) own

  -- ---- a graph that has these rows
  module _ (g : LaunchGraph) (rows_are : g.rows ≡ map launched graph.rows) where
    pub view_is : (graph_view declared g).rows ≡ map (relabel number) graph.rows
    view_is =
        ap (map (row_view declared)) rows_are
        ∙ map_twice launched (row_view declared) graph.rows
        ∙ map_same (λ r. row_view declared (launched r)) (relabel number) graph.rows (All-weaker (Contains graph.rows) (λ r. row_view declared (launched r) ≡ relabel number r) view_row graph.rows (All-contains_itself graph.rows))

    pub renamed : IsRenamed number graph (graph_view declared g)
    renamed = record { rows = view_is; operands = is.operands; one_to_one = one_class }

    pub rows_back : graph.rows ≡ map (row_in declared class_in) g.rows
    rows_back = sym (
        ap (map (row_in declared class_in)) rows_are
        ∙ map_twice launched (row_in declared class_in) graph.rows
        ∙ map_itself (λ r. row_in declared class_in (launched r)) graph.rows (All-weaker (Contains graph.rows) (λ r. row_in declared class_in (launched r) ≡ r) view_back graph.rows (All-contains_itself graph.rows))
        )

    -- ---- places of rows

    abbrev IsMadeAt : ℕ → LaunchRow → Type 0
    IsMadeAt i r = (q : Row Op) × (i < length graph.rows) × (get_or graph.rows i q ≡ q) × (r ≡ launched q)

    made_at : (i : ℕ) (r : LaunchRow) → slice_get g.rows i ≡ Some r → IsMadeAt i r
    made_at i r e =
        let l : i < length g.rows = slice_get_within g.rows i r e in
        let m : i < length graph.rows = omega (arith, l, ap length rows_are, length-map graph.rows launched) in
        let q = some_at graph.rows i m in
        let is_there : get_or graph.rows i q.0 ≡ q.0 = q.1 in
        (q.0, m, is_there, sym (get_or_from_slice_get g.rows i r (launched q.0) e) ∙ ap (λ (rs : List LaunchRow). get_or rs i (launched q.0)) rows_are ∙ get_or-map launched graph.rows i q.0 (launched q.0) m ∙ ap launched is_there)

    each_row : (P : LaunchRow → Type 0) → ((q : Row Op) → Contains graph.rows q → P (launched q)) → All P g.rows
    each_row P h = All-same P g.rows (map launched graph.rows) rows_are (All-map P launched graph.rows (All-weaker (Contains graph.rows) (λ q. P (launched q)) h graph.rows (All-contains_itself graph.rows)))

    pub has_sort : (q : Row Op) (sort : Sort) → Contains graph.rows q → sort_of q.op ≡ sort → ClassHasSort g sort (number q.class)
    has_sort q sort h e =
        let c : Contains g.rows (launched q) = subst (λ (rs : List LaunchRow). Contains rs (launched q)) (sym rows_are) (contains_map launched graph.rows q h) in
        (c.0, launched q, c.1, c.2, (refl, same_sort declared used q.op ∙ e))

    -- ---- each fact of a launch graph's rows

    pub arities : All (λ (r : LaunchRow). length r.operands ≡ arity_of_op r.op) g.rows
    arities = each_row (λ r. length r.operands ≡ arity_of_op r.op) (λ q h. length-map q.operands number ∙ All-contains (λ (t : Row Op). length t.operands ≡ arity_of_op t.op) graph.rows q is.arities h ∙ sym (same_arity declared used q.op))

    index_used : (q : Row Op) → Contains graph.rows q → (i : ℕ) → declared_index q.op ≡ Some i → IsIn used i
    index_used q h i e = all_there (indexes_of graph.rows) i (contains_filter_map (λ (r : Row Op). declared_index r.op) graph.rows q i h.0 h.1 h.2 e)

    operands_same : (xs ys : List ℕ) → All (HasClass graph) xs → All (HasClass graph) ys → map number xs ≡ map number ys → xs ≡ ys
    operands_same xs ys h k e = same_from_map number graph (graph_view declared g) renamed xs ys h k e

    pub distinct : AllPairs (λ (r s : LaunchRow). ¬ ((r.op ≡ s.op) × (r.operands ≡ s.operands))) g.rows
    distinct i j d lt l same =
        let m : j < length graph.rows = omega (arith, l, ap length rows_are, length-map graph.rows launched) in
        let k : i < length graph.rows = omega (arith, lt, m) in
        let q = (some_at graph.rows j m).0 in
        let a = get_or graph.rows i q in
        let b = get_or graph.rows j q in
        let first : get_or g.rows i d ≡ launched a = ap (λ (rs : List LaunchRow). get_or rs i d) rows_are ∙ get_or-map launched graph.rows i q d k in
        let second : get_or g.rows j d ≡ launched b = ap (λ (rs : List LaunchRow). get_or rs j d) rows_are ∙ get_or-map launched graph.rows j q d m in
        let there_a = Contains-get_or graph.rows i q k in
        let there_b = Contains-get_or graph.rows j q m in
        let same_op = one_op declared used a.op b.op (index_used a there_a) (index_used b there_b) (sym (ap (λ (r : LaunchRow). r.op) first) ∙ same.0 ∙ ap (λ (r : LaunchRow). r.op) second) in
        let same_operands = operands_same a.operands b.operands (operands_have op_signature graph is a there_a) (operands_have op_signature graph is b there_b) (sym (ap (λ (r : LaunchRow). r.operands) first) ∙ same.1 ∙ ap (λ (r : LaunchRow). r.operands) second) in
        is.distinct i j q lt m (record { op = same_op; operands = same_operands })

    -- ---- order

    abbrev class_number : Row Op → Option ℕ
    class_number r = Some r.class

    abbrev index_number : Row Op → Option ℕ
    index_number r = declared_index r.op

    class_place : (q : Row Op) → Contains graph.rows q → number q.class ≡ place_in (firsts (filter_map class_number graph.rows)) q.class
    class_place q h = are.each q.class (own_class q h) ∙ ap (λ ns. place_in (firsts ns) q.class) (sym (filter_map_all (λ (r : Row Op). r.class) graph.rows))

    next_class_is : (i : ℕ) → next_class (take i g.rows) ≡ next_number class_number graph.rows (take i graph.rows)
    next_class_is i =
        let agrees : Row Op → Type 0 = λ (q : Row Op). (b : ℕ) → max b (number q.class + 1) ≡ max b (place_in (firsts (filter_map class_number graph.rows)) q.class + 1) in
        ap (λ (rs : List LaunchRow). next_class (take i rs)) rows_are
        ∙ ap next_class (take-map launched i graph.rows)
        ∙ fold_map (λ n (r : LaunchRow). max n (r.class + 1)) launched (take i graph.rows) 0
        ∙ fold_same_each (λ n (q : Row Op). max n (number q.class + 1)) (λ n (q : Row Op). max n (place_in (firsts (filter_map class_number graph.rows)) q.class + 1)) (take i graph.rows) 0
        (All-take agrees i graph.rows (All-weaker (Contains graph.rows) agrees (λ q h b. ap (λ n. max b (n + 1)) (class_place q h)) graph.rows (All-contains_itself graph.rows)))

    next_index_is : (i : ℕ) → next_index (take i g.rows) ≡ next_number index_number graph.rows (take i graph.rows)
    next_index_is i =
        ap (λ (rs : List LaunchRow). next_index (take i rs)) rows_are
        ∙ ap next_index (take-map launched i graph.rows)
        ∙ fold_map (λ n (r : LaunchRow). max n (next_after (declared_index r.op))) launched (take i graph.rows) 0
        ∙ fold_same (λ n (q : Row Op). max n (next_after (declared_index (launched_op used q.op)))) (λ n (q : Row Op). max n (next_after (option_map (place_in used) (declared_index q.op)))) (take i graph.rows) 0
        (λ b q. ap (λ o. max b (next_after o)) (same_index declared used q.op))

    pub classes : (i : ℕ) (r : LaunchRow) → slice_get g.rows i ≡ Some r → r.class ≤ next_class (take i g.rows)
    classes i r e =
        let m = made_at i r e in
        let q = m.0 in
        let order = in_order class_number graph.rows i q.class q m.1 m.2 refl in
        let own : r.class ≡ place_in (firsts (filter_map class_number graph.rows)) q.class = ap (λ (t : LaunchRow). t.class) m.3 ∙ class_place q (i, m.1, m.2) in
        omega (arith, order, own, next_class_is i)

    pub indexes : (i n : ℕ) (r : LaunchRow) → slice_get g.rows i ≡ Some r → declared_index r.op ≡ Some n → (n ≤ next_index (take i g.rows)) × (n < 16)
    indexes i n r e f =
        let m = made_at i r e in
        let q = m.0 in
        let x = index_from declared used n q.op (sym (ap (λ (t : LaunchRow). declared_index t.op) m.3) ∙ f) in
        let index : declared_index q.op ≡ Some x.0 = ap declared_index x.2 in
        let order = in_order index_number graph.rows i x.0 q m.1 m.2 index in
        let there = index_used q (i, m.1, m.2) x.0 index in
        (omega (arith, order, x.3, next_index_is i), omega (arith, there, x.3, few_used declared graph.rows few known))

    -- ---- sorts and constants

    pub sorts : (r s : LaunchRow) (i j : ℕ) → AreRows g r s i j → r.class ≡ s.class → sort_of r.op ≡ sort_of s.op
    sorts r s i j at e =
        let a = made_at i r at.0 in
        let b = made_at j s at.1 in
        let there_a : Contains graph.rows a.0 = (i, a.1, a.2) in
        let there_b : Contains graph.rows b.0 = (j, b.1, b.2) in
        let same = one_class a.0.class b.0.class (own_class a.0 there_a) (own_class b.0 there_b) (sym (ap (λ (t : LaunchRow). t.class) a.3) ∙ e ∙ ap (λ (t : LaunchRow). t.class) b.3) in
        ap (λ (t : LaunchRow). sort_of t.op) a.3 ∙ same_sort declared used a.0.op ∙ is.one_sort a.0 b.0 there_a there_b same ∙ sym (same_sort declared used b.0.op) ∙ ap (λ (t : LaunchRow). sort_of t.op) (sym b.3)

    constant_at : (i m : ℕ) (r : LaunchRow) (at : IsMadeAt i r) → constant_in r.op ≡ Some m → constant_in at.0.op ≡ Some m
    constant_at i m r at e = sym (same_constant declared used at.0.op) ∙ ap (λ (t : LaunchRow). constant_in t.op) (sym at.3) ∙ e

    pub constants : (r s : LaunchRow) (i j m n : ℕ) → AreRows g r s i j → r.class ≡ s.class → constant_in r.op ≡ Some m → constant_in s.op ≡ Some n → m ≡ n
    constants r s i j m n at e d f =
        let a = made_at i r at.0 in
        let b = made_at j s at.1 in
        let there_a : Contains graph.rows a.0 = (i, a.1, a.2) in
        let there_b : Contains graph.rows b.0 = (j, b.1, b.2) in
        let same = one_class a.0.class b.0.class (own_class a.0 there_a) (own_class b.0 there_b) (sym (ap (λ (t : LaunchRow). t.class) a.3) ∙ e ∙ ap (λ (t : LaunchRow). t.class) b.3) in
        is.constants a.0.class m n (record { row = a.0; there = there_a; of_class = refl; is = constant_at i m r a d }) (record { row = b.0; there = there_b; of_class = sym same; is = constant_at j n s b f })

    word_in : (o : Option ℕ) (m : ℕ) → o ≡ Some m → IfSome o IsWord → IsWord m
    word_in None m e h = absurd (cc)
    word_in (Some n) m e h = let k : n ≡ m = cc in subst IsWord k h

    pub words : (r : LaunchRow) (i m : ℕ) → slice_get g.rows i ≡ Some r → constant_in r.op ≡ Some m → IsWord m
    words r i m at e =
        let a = made_at i r at in
        word_in (constant_in a.0.op) m (constant_at i m r a e) (All-contains (λ (t : Row Op). IfSome (constant_in t.op) IsWord) graph.rows a.0 is.words (i, a.1, a.2))

    pub registers : (r : LaunchRow) (i n : ℕ) → slice_get g.rows i ≡ Some r → register_of_input r.op ≡ Some n → n < 31
    registers r i n at e =
        let a = made_at i r at in
        known_input declared a.0.op n (is_known a.0 (i, a.1, a.2)) (sym (same_input declared used a.0.op) ∙ ap (λ (t : LaunchRow). register_of_input t.op) (sym a.3) ∙ e)

    pub operands : All (TakesItsSorts g) g.rows
    operands = each_row (TakesItsSorts g) (λ q h at lt.
        let l : at < length q.operands = omega (arith, lt, length-map q.operands number) in
        let c = get_or q.operands at 0 in
        let has = All-get_or (HasClass graph) q.operands at 0 l (operands_have op_signature graph is q h) in
        let sort : operand_sort q.op at ≡ sort_of has.row.op = is.operand_sorts q has.row at h has.there l has.is in
        let this : ClassHasSort g (operand_sort (launched_op used q.op) at) (number has.row.class) = has_sort has.row (operand_sort (launched_op used q.op) at) has.there (sym sort ∙ sym (same_operand_sort declared used at q.op)) in
        subst (ClassHasSort g (operand_sort (launched_op used q.op) at)) (ap number has.is ∙ sym (get_or-map number q.operands at 0 0 l)) this)

    -- ---- names

    pub unnamed : All (λ (r : LaunchRow). (r.name ≡ []) ⊎ IsTrue (is_some (declared_index r.op))) g.rows
    unnamed = each_row (λ r. (r.name ≡ []) ⊎ IsTrue (is_some (declared_index r.op))) (λ q h. no_name declared used q.op)

    pub named : All (λ (r : LaunchRow). IsTrue (is_some (declared_index r.op)) → IsName r.name) g.rows
    named = each_row (λ r. IsTrue (is_some (declared_index r.op)) → IsName r.name) (λ q h. is_name q.op (is_known q h))

    pub same_name : (r s : LaunchRow) (i j m n : ℕ) → AreRows g r s i j → declared_index r.op ≡ Some m → declared_index s.op ≡ Some n → HaveOneName r s m n
    same_name r s i j m n at d e =
        let a = made_at i r at.0 in
        let b = made_at j s at.1 in
        let there_a : Contains graph.rows a.0 = (i, a.1, a.2) in
        let there_b : Contains graph.rows b.0 = (j, b.1, b.2) in
        let x = index_from declared used m a.0.op (sym (ap (λ (t : LaunchRow). declared_index t.op) a.3) ∙ d) in
        let y = index_from declared used n b.0.op (sym (ap (λ (t : LaunchRow). declared_index t.op) b.3) ∙ e) in
        let known_a : IsDeclared declared x.0 x.1 = subst (IsKnown declared) x.2 (is_known a.0 there_a) in
        let known_b : IsDeclared declared y.0 y.1 = subst (IsKnown declared) y.2 (is_known b.0 there_b) in
        let name_a : r.name ≡ declared_name declared x.0 = ap (λ (t : LaunchRow). t.name) a.3 ∙ ap (launched_name declared) x.2 in
        let name_b : s.name ≡ declared_name declared y.0 = ap (λ (t : LaunchRow). t.name) b.3 ∙ ap (launched_name declared) y.2 in
        let op_a : r.op ≡ Declared (place_in used x.0) x.1 = ap (λ (t : LaunchRow). t.op) a.3 ∙ ap (launched_op used) x.2 in
        let op_b : s.op ≡ Declared (place_in used y.0) y.1 = ap (λ (t : LaunchRow). t.op) b.3 ∙ ap (launched_op used) y.2 in
        let same : m ≡ n → x.0 ≡ y.0 = λ p. one_place used x.0 y.0 (index_used a.0 there_a x.0 (ap declared_index x.2)) (index_used b.0 there_b y.0 (ap declared_index y.2)) (sym x.3 ∙ p ∙ y.3) in (
          λ p.
              let i_same = same p in
              let arity : x.1 ≡ y.1 = one_arity declared y.0 x.1 y.1 (subst (λ k. IsDeclared declared k x.1) i_same known_a) known_b in
              (name_a ∙ ap (declared_name declared) i_same ∙ sym name_b, op_a ∙ ap (λ k. Declared (place_in used k) x.1) i_same ∙ ap (λ z. Declared (place_in used y.0) z) arity ∙ sym op_b),
          λ p.
              let i_same : x.0 ≡ y.0 = sym (number_is declared differ x.0 known_a.below) ∙ ap (declared_number declared) (sym name_a ∙ p ∙ name_b) ∙ number_is declared differ y.0 known_b.below in
              x.3 ∙ ap (place_in used) i_same ∙ sym y.3,
        )

    -- ---- back to the E-graph

    pub one_to_one : (c d : ℕ) → HasClass (graph_view declared g) c → HasClass (graph_view declared g) d → class_in c ≡ class_in d → c ≡ d
    one_to_one c d h k e =
        let a = has_back number graph (graph_view declared g) renamed c h in
        let b = has_back number graph (graph_view declared g) renamed d k in
        let same : a.0 ≡ b.0 = sym (class_back a.0 a.1) ∙ ap class_in a.2 ∙ e ∙ ap class_in (sym b.2) ∙ class_back b.0 b.1 in
        sym a.2 ∙ ap number same ∙ b.2

    pub named_back : (r : LaunchRow) (index : ℕ) (arity : Arity) → Contains g.rows r → r.op ≡ Declared index arity → declared_name declared (declared_number declared r.name) ≡ r.name
    named_back r index arity h e =
        let at = made_at h.0 r (slice_get_read g.rows (length g.rows) h.0 r refl h.1 (sym h.2)) in
        let there : Contains graph.rows at.0 = (h.0, at.1, at.2) in
        let x = index_from declared used index at.0.op (ap (λ (t : LaunchRow). declared_index t.op) (sym at.3) ∙ ap declared_index e) in
        let known_there : IsDeclared declared x.0 x.1 = subst (IsKnown declared) x.2 (is_known at.0 there) in
        let name : r.name ≡ declared_name declared x.0 = ap (λ (t : LaunchRow). t.name) at.3 ∙ ap (launched_name declared) x.2 in
        ap (λ n. declared_name declared (declared_number declared n)) name ∙ ap (declared_name declared) (number_is declared differ x.0 known_there.below) ∙ sym name
