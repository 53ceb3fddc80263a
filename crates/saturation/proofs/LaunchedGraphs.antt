-- The launch graph of a goal: its rows, and the classes of the goal's terms.
use Rattle.std.proofs.Common.{◌≡◌, ◌≢◌, ℕ, zero, suc, ◌+◌, ◌<◌, ◌^◌, Option, Some, None, option_map, List, [], ◌∷◌, ◌++◌, length, map, get_or, slice_index, refl, sym, ap, ap₂, ◌∙◌, subst, arith, All, AllPairs, Contains}
use Rattle.std.specs.Prelude.{IfSome, IsTrue}
use Rattle.std.specs.List.{AllZip, cons_option}
use Rattle.std.proofs.lemmas.List.{get_or-map, length-map, length-append, get_or_append_left, get_or-append-add}
use Rattle.std.proofs.lemmas.List.Elements.{All-nil, All-cons, All-head, All-tail, All-contains, Contains-append_left, Contains-append_right, Contains-get_or}
use Rattle.std.proofs.lemmas.Slice.Zip.{AllZip-long}
use Rattle.text_core.specs.Names.{IsName}
use Rattle.word_ops.specs.Meanings.{sort_of}
use Rattle.word_ops.specs.declared.sorts.Sort.{Sort}
use Rattle.word_ops.specs.declared.sorts.Sort.TheVariants as sorts
use Rattle.word_ops.specs.declared.sorts.Op.{Op}
use Rattle.word_ops.specs.declared.sorts.Op.TheVariants.{Entry, Input}
use Rattle.word_terms.specs.Keys.{op_signature}
use Rattle.word_terms.specs.Sorting.{HasSort}
use Rattle.word_terms.specs.Tree.{Tree, application, none, put_in, substituted, AreBelow}
use Rattle.word_terms.specs.View.{tree_of}
use Rattle.word_terms.specs.declared.term.Term.{Term}
use Rattle.axiom_base.specs.Rewrites.{Rewrite, IsRule, IsUsable}
use Rattle.axiom_base.specs.Schemes.{AddedRules, IsRuleOf}
use Rattle.egraph.specs.Graph.{Graph}
use Rattle.egraph.specs.declared.rows.Row.{Row}
use Rattle.pattern_match.specs.Classes.{IsClass, at_variable, at_row, CanFindClass}
use Rattle.goal_meaning.specs.Expanded.{expanded, expanded_target, let_terms, let_values}
use Rattle.goal_meaning.specs.Rules.{pins_of}
use Rattle.goal_meaning.specs.Views.{TargetTree, InputTree, goal_view, target_view}
use Rattle.goal_meaning.specs.WellFormed.{AreLets, IsGoal, IsGoalTerm, IsTarget, IsTermOver, IsInput, let_sorts, sort_of_tree}
use Rattle.goal_meaning.specs.declared.goals.DeclaredOp.{DeclaredOp}
use Rattle.goal_meaning.specs.declared.goals.Goal.{Goal}
use Rattle.goal_meaning.specs.declared.goals.InputReg.{InputReg}
use Rattle.goal_meaning.specs.declared.goals.Set.{Set}
use Rattle.graph_meaning.specs.Graphs.{HaveOwnPins, is_memory_name, registers_of}
use Rattle.graph_meaning.specs.Multiples.{AreMultiplesOf}
use Rattle.graph_meaning.specs.WellFormed.{AreInOrder, IsLaunchGraph, ClassHasSort, TakesItsSorts, set_sort}
use Rattle.graph_meaning.specs.declared.graphs.LaunchGraph.{LaunchGraph}
use Rattle.graph_meaning.specs.declared.graphs.LaunchRow.{LaunchRow}
use Rattle.graph_meaning.specs.declared.graphs.InputClass.{InputClass}
use Rattle.graph_meaning.specs.declared.graphs.SetClass.{SetClass}
use Rattle.graph_meaning.specs.declared.graphs.Guard.{Guard}
use Rattle.saturation.specs.GoalTerms.{entry_term, input_term, input_terms, guard_terms, set_terms}
use Rattle.saturation.specs.Launched.{CanMakeLaunchGraph, IsLaunched, KeepsGrown, KeepsStop}
use Rattle.saturation.specs.Numbered.{AreClassNumbers, IsClassNumber, IsInputNumber, IsSetNumber, IsGuardNumber, firsts, indexes_of, launched_row}
use Rattle.saturation.specs.OverLets.{AreLetsBelow}
use Rattle.saturation.specs.Renamed.{IsRenamed}
use Rattle.saturation.specs.StandsFor.{HasClassIn, IsGraphOf, IsInputClass, IsSetClass, IsGuardOf, graph_view}
use Rattle.saturation.proofs.Below.{sort_below}
use Rattle.saturation.proofs.Classes.{at_instance, from_instance}
use Rattle.saturation.proofs.Closed.{Closed}
use Rattle.saturation.proofs.LaunchedRows as rows
use Rattle.saturation.proofs.LaunchTerms.{leaf_row}
use Rattle.saturation.proofs.LetSteps.{zip_has}
use Rattle.saturation.proofs.LetTerms.{have_classes}
use Rattle.saturation.proofs.Mapped.{contains_map}
use Rattle.saturation.proofs.PinsApart.{pins_among, own_pins_of, low_pins_of, pins_apart_of, differ_behind}
use Rattle.saturation.proofs.Renaming.{class_to, grown_to, stops_to}

-- ---- lists

pub all_left : {X : Type 0} (P : X → Type 0) (xs ys : List X) → All P (xs ++ ys) → All P xs
all_left P xs ys h = λ k d l. subst P (get_or_append_left xs ys d k l) (h k d (omega (arith, l, length-append xs ys)))

all_right : {X : Type 0} (P : X → Type 0) (xs ys : List X) → All P (xs ++ ys) → All P ys
all_right P xs ys h = λ k d l. subst P (get_or-append-add xs ys k d) (h (length xs + k) d (omega (arith, l, length-append xs ys)))

pub all_of_map : {X Y : Type 0} (P : Y → Type 0) (f : X → Y) (xs : List X) → All P (map f xs) → All (λ x. P (f x)) xs
all_of_map P f xs h = λ k d l. subst P (get_or-map f xs k d (f d) l) (h k (f d) (omega (arith, l, length-map xs f)))

zip_weaker : {X Y : Type 0} (R S : Y → X → Type 0) (ys : List Y) (xs : List X) → ((y : Y) (x : X) → R y x → S y x) → AllZip R ys xs → AllZip S ys xs
zip_weaker R S [] [] h z = tt
zip_weaker R S [] (x ∷ xs) h z = absurd z
zip_weaker R S (y ∷ ys) [] h z = absurd z
zip_weaker R S (y ∷ ys) (x ∷ xs) h z = (h y x z.0, zip_weaker R S ys xs h z.1)

zip_map : {X Y Z : Type 0} (R : Y → X → Type 0) (S : Y → Z → Type 0) (f : X → Z) (ys : List Y) (xs : List X) → ((y : Y) (x : X) → R y x → S y (f x)) → AllZip R ys xs → AllZip S ys (map f xs)
zip_map R S f [] [] h z = tt
zip_map R S f [] (x ∷ xs) h z = absurd z
zip_map R S f (y ∷ ys) [] h z = absurd z
zip_map R S f (y ∷ ys) (x ∷ xs) h z = (h y x z.0, zip_map R S f ys xs h z.1)

zip_all : {X Y : Type 0} (R : Y → X → Type 0) (P : X → Type 0) (Q : Y → Type 0) (ys : List Y) (xs : List X) → ((y : Y) (x : X) → R y x → P x → Q y) → AllZip R ys xs → All P xs → All Q ys
zip_all R P Q [] xs h z k = All-nil Q
zip_all R P Q (y ∷ ys) [] h z k = absurd z
zip_all R P Q (y ∷ ys) (x ∷ xs) h z k = All-cons Q y ys (h y x z.0 (All-head P x xs k)) (zip_all R P Q ys xs h z.1 (All-tail P x xs k))

-- ---- terms

below_lets : (declared : List DeclaredOp) (inputs : List InputReg) (ss : List Sort) (ts : List (Tree Op)) → AreLets declared inputs ss ts → (k : ℕ) (d : Tree Op) → k < length ts → AreBelow (length ss + k) (get_or ts k d)
below_lets declared inputs ss [] h k d l = absurd (omega (arith, l))
below_lets declared inputs ss (t ∷ ts) h zero d l = let e : length ss ≡ length ss + 0 = omega arith in subst (λ n. AreBelow n t) e (sort_below ss (sort_of_tree ss t) t h.0.sorted)
below_lets declared inputs ss (t ∷ ts) h (suc k) d l =
    let e : length (ss ++ sort_of_tree ss t ∷ []) + k ≡ length ss + suc k = omega (arith, length-append ss (sort_of_tree ss t ∷ [])) in
    subst (λ n. AreBelow n (get_or ts k d)) e (below_lets declared inputs (ss ++ sort_of_tree ss t ∷ []) ts h.1 k d (omega (arith, l)))

-- ---- rows whose multiples can be found

-- what the finding of multiples asks of rows
pub record CanHaveMultiples (rows : List LaunchRow) : Type 0 where
  pub few : length rows < 2 ^ 30
  pub below : All (λ r. (r.class < length rows) × All (λ c. c < length rows) r.operands) rows

-- rows in order that take their sorts have classes below their number
abbrev pub OrderedAreBelow : Type 0
OrderedAreBelow =
    (g : LaunchGraph) → AreInOrder g.rows → All (TakesItsSorts g) g.rows
    → All (λ r. (r.class < length g.rows) × All (λ c. c < length g.rows) r.operands) g.rows

graph_with : List LaunchRow → LaunchGraph
graph_with rows = record { rows = rows; multiples = []; entry = 0; inputs = []; pool = []; guard = None; sets = [] }

-- ---- a goal that may be launched

module _ (input : InputTree) (goal : Goal) (is_input : IsInput input) (given : Contains input.goals (goal_view goal)) (graph : Graph Op) (can : CanMakeLaunchGraph input.ops (goal_view goal) graph) where
  abbrev HasItsClass : Tree Op → Type 0
  HasItsClass t = (c : ℕ) × IsClass graph [] t c

  abbrev es : List (Tree Op)
  es = let_terms (goal_view goal)

  abbrev first : List (Tree Op)
  first = entry_term ∷ input_terms goal.inputs

  abbrev guards : List (Tree Op)
  guards = guard_terms (expanded (goal_view goal)).guard

  abbrev news : List (Tree Op)
  news = set_terms (expanded (goal_view goal)).sets

  pub goal_is : IsGoal input.ops (goal_view goal)
  goal_is = All-contains (IsGoal input.ops) input.goals (goal_view goal) is_input.goals given

  kept_first : (t : Tree Op) → Contains (first ++ es) t → HasItsClass t
  kept_first t h =
      can.classes t (Contains-append_left (first ++ es ++ guards) news t
      (Contains-append_left (first ++ es) guards t h))

  pub entry_has : HasItsClass entry_term
  entry_has = kept_first entry_term (Contains-append_left first es entry_term (0, omega arith, refl))

  pub inputs_have : All (λ (i : InputReg). HasItsClass (input_term i.reg)) goal.inputs
  inputs_have k d l =
      let i = get_or goal.inputs k d in
      let h = contains_map (λ (i : InputReg). input_term i.reg) goal.inputs i (Contains-get_or goal.inputs k d l) in
      kept_first (input_term i.reg) (Contains-append_left first es (input_term i.reg) (suc h.0, (let m = h.1 in omega arith), h.2))

  pub lets_have : All HasItsClass (let_terms (goal_view goal))
  lets_have k d l = kept_first (get_or es k d) (Contains-append_right first es (get_or es k d) (Contains-get_or es k d l))

  pub lets_below : AreLetsBelow (let_values (goal_view goal).lets)
  lets_below k d l =
      let e : 0 + k ≡ k = omega arith in
      subst (λ n. AreBelow n (get_or (let_values (goal_view goal).lets) k d)) e (below_lets input.ops goal.inputs [] (let_values (goal_view goal).lets) goal_is.lets k d l)

  pub rows_can_have : OrderedAreBelow → (numbers : List ℕ) → AreClassNumbers graph numbers
      → (launched : List LaunchRow)
      → launched ≡ map (launched_row numbers (firsts (indexes_of graph.rows)) input.ops) graph.rows → CanHaveMultiples launched
  unfolding graph_with
  rows_can_have ordered numbers are launched rows_are =
      let g : LaunchGraph = graph_with launched in
      record {
        few = omega (arith, can.few, ap length rows_are, length-map graph.rows (launched_row numbers (firsts (indexes_of graph.rows)) input.ops));
        below =
            ordered g
            (rows.classes input.ops is_input.operators_differ is_input.operators is_input.few.0 graph can.graph_is can.operators numbers are g rows_are)
            (rows.operands input.ops is_input.operators_differ is_input.operators is_input.few.0 graph can.graph_is can.operators numbers are g rows_are);
      }

  -- ---- with the classes of its lets

  module _ (closed : Closed input.ops (goal_view goal)) (lets : List ℕ) (lets_are : AllZip (IsClass graph []) (let_terms (goal_view goal)) lets) where
    abbrev HasOver : Tree Op → Type 0
    HasOver t = (c : ℕ) × IsClass graph lets t c

    each : (n : ℕ) → n < length lets → IsClass graph [] (put_in es n) (get_or lets n 0)
    each = have_classes graph es lets lets_are

    count : length lets ≡ length (let_sorts (goal_view goal))
    count = AllZip-long (IsClass graph []) es lets lets_are ∙ AllZip-long (IsTermOver input.ops goal.inputs []) (let_sorts (goal_view goal)) es closed.lets

    is_below : (sort : Sort) (t : Tree Op) → IsGoalTerm input.ops (goal_view goal) sort t → AreBelow (length lets) t
    is_below sort t h = subst (λ n. AreBelow n t) (sym count) (sort_below (let_sorts (goal_view goal)) sort t h.sorted)

    can_read : (sort : Sort) (t : Tree Op) → IsGoalTerm input.ops (goal_view goal) sort t → CanFindClass graph lets t
    can_read sort t h = record { graph = can.graph_is; present = zip_has graph es lets lets_are; below = is_below sort t h }

    has_over : (sort : Sort) (t : Tree Op) → IsGoalTerm input.ops (goal_view goal) sort t → HasItsClass (substituted es t) → HasOver t
    has_over sort t h has = (has.0, from_instance graph lets es each can.graph_is.distinct t (is_below sort t h) has.1)

    guard_has_by : (o : Option (Term Op)) → IfSome (option_map tree_of o) (IsGoalTerm input.ops (goal_view goal) sorts.Word) → ((t : Tree Op) → Contains (guard_terms (option_map (substituted es) (option_map tree_of o))) t → HasItsClass t) → IfSome o (λ t. HasOver (tree_of t))
    guard_has_by None is h = tt
    guard_has_by (Some t) is h = has_over sorts.Word (tree_of t) is (h (substituted es (tree_of t)) (0, omega arith, refl))

    pub guard_has : IfSome goal.guard (λ t. HasOver (tree_of t))
    guard_has = guard_has_by goal.guard goal_is.guard (λ t h. can.classes t
        (Contains-append_left (first ++ es ++ guards) news t
        (Contains-append_right (first ++ es) guards t h)))

    guard_read_by : (o : Option (Term Op)) → IfSome (option_map tree_of o) (IsGoalTerm input.ops (goal_view goal) sorts.Word) → IfSome o (λ t. CanFindClass graph lets (tree_of t))
    guard_read_by None h = tt
    guard_read_by (Some t) h = can_read sorts.Word (tree_of t) h

    pub guard_read : IfSome goal.guard (λ t. CanFindClass graph lets (tree_of t))
    guard_read = guard_read_by goal.guard goal_is.guard

    targets : All (λ (s : Set). IsTarget input.ops (goal_view goal) (target_view s)) goal.sets
    targets = all_of_map (IsTarget input.ops (goal_view goal)) target_view goal.sets goal_is.sets

    pub sets_have : All (λ (s : Set). HasOver (tree_of s.value)) goal.sets
    sets_have k d l =
        let s = get_or goal.sets k d in
        let there : Contains (goal_view goal).sets (target_view s) = contains_map target_view goal.sets s (Contains-get_or goal.sets k d l) in
        let bare : Contains (expanded (goal_view goal)).sets (expanded_target es (target_view s)) = contains_map (expanded_target es) (goal_view goal).sets (target_view s) there in
        has_over _ (tree_of s.value) (targets k d l)
        (can.classes (substituted es (tree_of s.value))
        (Contains-append_right (first ++ es ++ guards) news (substituted es (tree_of s.value))
        (contains_map (λ (t : TargetTree). t.value) (expanded (goal_view goal)).sets (expanded_target es (target_view s)) bare)))

    pub sets_read : All (λ (s : Set). CanFindClass graph lets (tree_of s.value)) goal.sets
    sets_read k d l = can_read _ (tree_of (get_or goal.sets k d).value) (targets k d l)

    bare_targets : All (λ (s : Set). IsTarget input.ops (expanded (goal_view goal)) (expanded_target es (target_view s))) goal.sets
    bare_targets =
        all_of_map (λ (t : TargetTree). IsTarget input.ops (expanded (goal_view goal)) (expanded_target es t)) target_view goal.sets
        (all_of_map (IsTarget input.ops (expanded (goal_view goal))) (expanded_target es) (goal_view goal).sets closed.sets)

    -- ---- its launch graph

    pub record IsApplied (numbers : List ℕ) (g : LaunchGraph) : Type 0 where
      pub numbers_are : AreClassNumbers graph numbers
      pub rows_are : g.rows ≡ map (launched_row numbers (firsts (indexes_of graph.rows)) input.ops) graph.rows
      pub multiples : AreMultiplesOf g.rows g.multiples
      pub entry : IsClassNumber graph [] numbers entry_term g.entry
      pub inputs : AllZip (IsInputNumber graph numbers) g.inputs goal.inputs
      pub pool : g.pool ≡ goal.pool
      pub guard : IsGuardNumber graph lets (let_terms (goal_view goal)) numbers g.guard goal.guard
      pub sets : AllZip (IsSetNumber graph lets numbers) g.sets goal.sets

    module _ (numbers : List ℕ) (g : LaunchGraph) (made : IsApplied numbers g) where
      abbrev number : ℕ → ℕ
      number c = slice_index numbers c

      is_renamed : IsRenamed number graph (graph_view input.ops g)
      is_renamed = rows.renamed input.ops is_input.operators_differ is_input.operators is_input.few.0 graph can.graph_is can.operators numbers made.numbers_are g made.rows_are

      row_sort : (q : Row Op) (sort : Sort) → Contains graph.rows q → sort_of q.op ≡ sort → ClassHasSort g sort (number q.class)
      row_sort = rows.has_sort input.ops is_input.operators_differ is_input.operators is_input.few.0 graph can.graph_is can.operators numbers made.numbers_are g made.rows_are

      term_sort : (t : Tree Op) (c : ℕ) (sort : Sort) → HasSort op_signature [] sort t → IsClass graph [] t c → ClassHasSort g sort (number c)
      term_sort _ _ sort h (at_variable lt) = absurd (omega (arith, lt))
      term_sort _ _ sort h (at_row {op = op} {ts = ts} {cs = cs} {c = c} are here) = row_sort (record { op = op; operands = cs; class = c }) sort here h.0

      leaf_sort : (op : Op) (c : ℕ) → IsClass graph [] (application op none) c → ClassHasSort g (sort_of op) (number c)
      leaf_sort op c is = row_sort (record { op = op; operands = []; class = c }) (sort_of op) (leaf_row graph [] op c is) refl

      class_in_view : (t : Tree Op) (n : ℕ) → IsClassNumber graph [] numbers t n → HasClassIn input.ops g t n
      class_in_view t n h = subst (HasClassIn input.ops g t) (sym h.2) (class_to number graph (graph_view input.ops g) is_renamed [] t h.0 h.1)

      -- the class over the lets' classes is that of the term without lets
      closed_number : (t : Tree Op) (n : ℕ) → IsClassNumber graph lets numbers t n → IsClassNumber graph [] numbers (substituted es t) n
      closed_number t n h = (h.0, at_instance graph lets es each h.1, h.2)

      -- ---- it is the goal's

      input_class : (c : InputClass) (i : InputReg) → IsInputNumber graph numbers c i → IsInputClass input.ops g c i
      input_class c i h = record { name = h.name; register = h.register; class = class_in_view (input_term i.reg) c.class h.class }

      set_class : (c : SetClass) (s : Set) → IsSetNumber graph lets numbers c s → IsSetClass input.ops g c (expanded_target es (target_view s))
      set_class c s h = record { name = h.name; pin = h.pin; class = class_in_view (substituted es (tree_of s.value)) c.class (closed_number (tree_of s.value) c.class h.class) }

      guard_class : (o : Option Guard) (t : Option (Term Op)) → IsGuardNumber graph lets es numbers o t → IsGuardOf input.ops g o (option_map (substituted es) (option_map tree_of t))
      guard_class None None h = tt
      guard_class None (Some t) h = absurd h
      guard_class (Some o) None h = absurd h
      guard_class (Some o) (Some t) h = (class_in_view (substituted es (tree_of t)) o.class (closed_number (tree_of t) o.class h.0), h.1)

      same_registers : (cs : List InputClass) (is : List InputReg) → AllZip (IsInputNumber graph numbers) cs is → map (λ (c : InputClass). c.reg) cs ≡ map (λ (i : InputReg). i.reg) is
      same_registers [] [] z = refl
      same_registers [] (i ∷ is) z = absurd z
      same_registers (c ∷ cs) [] z = absurd z
      same_registers (c ∷ cs) (i ∷ is) z =
          let one : c.reg ≡ i.reg = z.0.register in
          let rest = same_registers cs is z.1 in
          cc

      same_pins : (cs : List SetClass) (ss : List Set) → AllZip (IsSetNumber graph lets numbers) cs ss → pins_among cs ≡ pins_of (map target_view ss)
      same_pins [] [] z = refl
      same_pins [] (s ∷ ss) z = absurd z
      same_pins (c ∷ cs) [] z = absurd z
      same_pins (c ∷ cs) (s ∷ ss) z = ap₂ (λ (o : Option ℕ) (rs : List ℕ). cons_option o rs) z.0.pin (same_pins cs ss z.1)

      pins_are : pins_among g.sets ≡ pins_of (map target_view goal.sets)
      pins_are = same_pins g.sets goal.sets made.sets

      pins_differ : AllPairs (λ a b. a ≢ b) (g.pool ++ pins_among g.sets)
      pins_differ =
          subst (λ rs. AllPairs (λ a b. a ≢ b) (rs ++ pins_among g.sets)) (sym made.pool)
          (subst (λ rs. AllPairs (λ a b. a ≢ b) (goal.pool ++ rs)) (sym pins_are) goal_is.rules.pins)

      own_pins : HaveOwnPins g.sets
      own_pins = own_pins_of g.sets (differ_behind g.pool (pins_among g.sets) pins_differ)

      low_pins : All (λ (c : SetClass). IfSome c.pin (λ r. r < 31)) g.sets
      low_pins = low_pins_of g.sets (subst (λ rs. All (λ r. r < 31) rs) (sym pins_are) goal_is.rules.low_pins)

      pins_apart : All (λ (c : SetClass). IfSome c.pin (λ r. ¬ Contains g.pool r)) g.sets
      pins_apart = pins_apart_of g.pool g.sets pins_differ

      registers_are : registers_of g ≡ map (λ (i : InputReg). i.reg) goal.inputs ++ goal.pool
      registers_are =
          ap (λ rs. rs ++ g.pool) (same_registers g.inputs goal.inputs made.inputs)
          ∙ ap (λ pool. map (λ (i : InputReg). i.reg) goal.inputs ++ pool) made.pool

      pub is_of : IsGraphOf input.ops (goal_view goal) g
      is_of = record {
        entry = class_in_view entry_term g.entry made.entry;
        inputs = zip_weaker (IsInputNumber graph numbers) (IsInputClass input.ops g) g.inputs goal.inputs input_class made.inputs;
        pool = made.pool;
        guard = guard_class g.guard goal.guard made.guard;
        sets = zip_map (λ (c : SetClass) (t : TargetTree). IsSetClass input.ops g c (expanded_target es t)) (IsSetClass input.ops g) (expanded_target es) g.sets (map target_view goal.sets) (λ c t h. h)
            (zip_map (IsSetNumber graph lets numbers) (λ (c : SetClass) (t : TargetTree). IsSetClass input.ops g c (expanded_target es t)) target_view g.sets goal.sets set_class made.sets);
        proper = record {
          differ = subst (λ rs. AllPairs (λ a b. a ≢ b) rs) (sym registers_are) goal_is.rules.registers;
          low = subst (λ rs. All (λ r. r < 31) rs) (sym registers_are) goal_is.rules.low;
          own_pins = own_pins;
          low_pins = low_pins;
          pins_apart = pins_apart;
        };
      }

      -- ---- it is well formed

      guard_sort : (o : Option Guard) (t : Option (Term Op)) → IsGuardNumber graph lets es numbers o t → IfSome (option_map (substituted es) (option_map tree_of t)) (IsTermOver input.ops goal.inputs [] sorts.Word) → IfSome o (λ guard. ClassHasSort g sorts.Word guard.class)
      guard_sort None t h k = tt
      guard_sort (Some o) None h k = absurd h
      guard_sort (Some o) (Some t) h k =
          let n = closed_number (tree_of t) o.class h.0 in
          subst (ClassHasSort g sorts.Word) (sym n.2) (term_sort (substituted es (tree_of t)) n.0 sorts.Word k.sorted n.1)

      pub well_formed : IsLaunchGraph g
      well_formed = record {
        few = omega (arith, can.few, ap length made.rows_are, length-map graph.rows (launched_row numbers (firsts (indexes_of graph.rows)) input.ops));
        arities = rows.arities input.ops is_input.operators_differ is_input.operators is_input.few.0 graph can.graph_is can.operators numbers made.numbers_are g made.rows_are;
        distinct = rows.distinct input.ops is_input.operators_differ is_input.operators is_input.few.0 graph can.graph_is can.operators numbers made.numbers_are g made.rows_are;
        classes = rows.classes input.ops is_input.operators_differ is_input.operators is_input.few.0 graph can.graph_is can.operators numbers made.numbers_are g made.rows_are;
        sorts = rows.sorts input.ops is_input.operators_differ is_input.operators is_input.few.0 graph can.graph_is can.operators numbers made.numbers_are g made.rows_are;
        constants = rows.constants input.ops is_input.operators_differ is_input.operators is_input.few.0 graph can.graph_is can.operators numbers made.numbers_are g made.rows_are;
        words = rows.words input.ops is_input.operators_differ is_input.operators is_input.few.0 graph can.graph_is can.operators numbers made.numbers_are g made.rows_are;
        registers = rows.registers input.ops is_input.operators_differ is_input.operators is_input.few.0 graph can.graph_is can.operators numbers made.numbers_are g made.rows_are;
        operands = rows.operands input.ops is_input.operators_differ is_input.operators is_input.few.0 graph can.graph_is can.operators numbers made.numbers_are g made.rows_are;
        indexes = rows.indexes input.ops is_input.operators_differ is_input.operators is_input.few.0 graph can.graph_is can.operators numbers made.numbers_are g made.rows_are;
        unnamed = rows.unnamed input.ops is_input.operators_differ is_input.operators is_input.few.0 graph can.graph_is can.operators numbers made.numbers_are g made.rows_are;
        same_name = rows.same_name input.ops is_input.operators_differ is_input.operators is_input.few.0 graph can.graph_is can.operators numbers made.numbers_are g made.rows_are;
        named = rows.named input.ops is_input.operators_differ is_input.operators is_input.few.0 graph can.graph_is can.operators numbers made.numbers_are g made.rows_are;
        multiples = made.multiples;
        entry = subst (ClassHasSort g sorts.Memory) (sym made.entry.2) (leaf_sort Entry made.entry.0 made.entry.1);
        inputs = zip_all (IsInputNumber graph numbers) (λ (i : InputReg). i.reg < 31) (λ (c : InputClass). ClassHasSort g sorts.Word c.class × (c.reg < 31)) g.inputs goal.inputs
            (λ c i h low. (subst (ClassHasSort g sorts.Word) (sym h.class.2) (leaf_sort (Input i.reg) h.class.0 h.class.1), (let e = h.register in omega arith)))
            made.inputs (all_of_map (λ r. r < 31) (λ (i : InputReg). i.reg) goal.inputs (all_left (λ r. r < 31) (map (λ (i : InputReg). i.reg) goal.inputs) goal.pool goal_is.rules.low));
        pool = subst (λ rs. All (λ r. r < 31) rs) (sym made.pool) (all_right (λ r. r < 31) (map (λ (i : InputReg). i.reg) goal.inputs) goal.pool goal_is.rules.low);
        guard = guard_sort g.guard goal.guard made.guard closed.guard;
        sets = zip_all (IsSetNumber graph lets numbers) (λ (s : Set). IsTarget input.ops (expanded (goal_view goal)) (expanded_target es (target_view s))) (λ (c : SetClass). ClassHasSort g (set_sort c.name) c.class) g.sets goal.sets
            (λ c s h target.
            let n = closed_number (tree_of s.value) c.class h.class in
            subst (λ name. ClassHasSort g (set_sort name) c.class) (sym h.name) (subst (ClassHasSort g (set_sort s.name)) (sym n.2) (term_sort (substituted es (tree_of s.value)) n.0 (set_sort s.name) target.sorted n.1)))
            made.sets bare_targets;
        pins = low_pins;
        own_pins = own_pins;
        memory_unpinned =
            zip_all (IsSetNumber graph lets numbers) (λ (s : Set). IsTrue (is_memory_name s.name) → s.pin ≡ None) (λ (c : SetClass). IsTrue (is_memory_name c.name) → c.pin ≡ None) g.sets goal.sets
            (λ c s h unpinned memory. h.pin ∙ unpinned (subst (λ name. IsTrue (is_memory_name name)) h.name memory))
            made.sets (all_of_map (λ (t : TargetTree). IsTrue (is_memory_name t.name) → t.pin ≡ None) target_view goal.sets goal_is.rules.memory_unpinned);
        names = (
          zip_all (IsInputNumber graph numbers) (λ (i : InputReg). IsName i.name) (λ (c : InputClass). IsName c.name) g.inputs goal.inputs (λ c i h name. subst IsName (sym h.name) name) made.inputs goal_is.named.inputs,
          zip_all (IsSetNumber graph lets numbers) (λ (s : Set). IsName s.name) (λ (c : SetClass). IsName c.name) g.sets goal.sets (λ c s h name. subst IsName (sym h.name) name) made.sets (all_of_map (λ (t : TargetTree). IsName t.name) target_view goal.sets goal_is.named.targets),
        );
      }

      -- ---- what is launched

      pub launched : IsLaunched input.ops (goal_view goal) graph g
      launched = record {
        well_formed = well_formed;
        of = is_of;
        class_in = rows.class_in input.ops is_input.operators_differ is_input.operators is_input.few.0 graph can.graph_is can.operators numbers made.numbers_are;
        rows = rows.rows_back input.ops is_input.operators_differ is_input.operators is_input.few.0 graph can.graph_is can.operators numbers made.numbers_are g made.rows_are;
        one_to_one = rows.one_to_one input.ops is_input.operators_differ is_input.operators is_input.few.0 graph can.graph_is can.operators numbers made.numbers_are g made.rows_are;
        named = rows.named_back input.ops is_input.operators_differ is_input.operators is_input.few.0 graph can.graph_is can.operators numbers made.numbers_are g made.rows_are;
      }

      pub keeps_grown : KeepsGrown graph (graph_view input.ops g)
      keeps_grown = grown_to number graph (graph_view input.ops g) is_renamed

      pub keeps_stop : ((added : AddedRules) (r : Rewrite) → All IsRule added.axioms → IsRuleOf added r → IsUsable r) → KeepsStop graph (graph_view input.ops g)
      keeps_stop usable added rounds nodes j stop are = stops_to number graph (graph_view input.ops g) is_renamed added (λ r. usable added r are) rounds nodes j stop
