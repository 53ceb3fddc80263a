-- The rows of a lift's words, and the classes of the inputs and sets of its goal, make a launch graph.
use Rattle.std.proofs.Common.{◌≡◌, ◌≢◌, ℕ, zero, suc, ◌+◌, ◌*◌, ◌-◌, ◌^◌, ◌<◌, ◌≤◌, true, false, List, [], ◌∷◌, ◌++◌, length, map, get_or, Option, Some, None, refl, sym, ap, ap₂, ◌∙◌, subst, subst₂, arith, inl, filter, filter_map, fold, codes, slice_get, slice_index, slice_index_or, ◌⊎◌, All, AllPairs, Contains, IfSome, IsTrue, is_some, ◌&&◌, not}
use Rattle.std.specs.List.{cons_option}
use Rattle.std.proofs.lemmas.List.{get_or-map, length-map}
use Rattle.std.proofs.lemmas.List.Elements.{All-append, All-contains, All-cons, All-filter, All-head, All-map, All-nil, All-tail, All-weaker, filter_passes}
use Rattle.std.proofs.lemmas.List.Kept.{AllPairs-cons, AllPairs-filter}
use Rattle.std.proofs.lemmas.Option.{get_or_from_slice_get, none-some, same_Some, slice_get_within}
use Rattle.text_core.specs.Names.{IsName}
use Rattle.word_ops.specs.Meanings.{arity_of_op, operand_sort}
use Rattle.word_ops.specs.declared.sorts.Op.TheVariants as ops
use Rattle.word_ops.specs.declared.sorts.Sort.{Sort}
use Rattle.word_terms.specs.Tree.{variable}
use Rattle.word_ops.specs.declared.sorts.Sort.TheVariants as sorts
use Rattle.machine_table.specs.declared.tables.Slot.{Slot}
use Rattle.goal_meaning.specs.Rules.{has_register}
use Rattle.goal_meaning.specs.Views.{TargetTree, target_view}
use Rattle.goal_meaning.specs.WellFormed.{IsGoal, IsInput}
use Rattle.goal_meaning.specs.declared.goals.InputReg.{InputReg}
use Rattle.goal_meaning.specs.declared.goals.Set.{Set}
use Rattle.graph_meaning.specs.Graphs.{HaveOwnPins, is_memory_name}
use Rattle.graph_meaning.specs.WellFormed.{AreInOrder, ClassHasSort, IsLaunchGraph, TakesItsSorts, declared_index, set_sort}
use Rattle.graph_meaning.specs.declared.graphs.Guard.{Guard}
use Rattle.graph_meaning.specs.declared.graphs.InputClass.{InputClass}
use Rattle.graph_meaning.specs.declared.graphs.LaunchGraph.{LaunchGraph}
use Rattle.graph_meaning.specs.declared.graphs.LaunchRow.{LaunchRow}
use Rattle.graph_meaning.specs.declared.graphs.SetClass.{SetClass}
use Rattle.alpha_encode.specs.Decoded.{decoded}
use Rattle.alpha_encode.specs.Formats.{IsWellFormed}
use Rattle.alpha_encode.specs.declared.instructions.Instr.{Instr}
use Rattle.proc_goal.specs.Goals.{memory_kept, sets_or_memory}
use Rattle.code_lift.specs.Goals.{input_of_lifts}
use Rattle.code_lift.specs.Lifted.{Lifting, at_start, first_numbers, goal_of_lift, has_let, input_named, inputs_read, is_let, latest_of, lifted, memory_sets, register_set, sets_of}
use Rattle.code_lift.specs.Views.{LiftTree, LiftsTree}
use Rattle.code_lift.specs.WellFormed.{AreLifts, IsLift, IsPlainWord}
use Rattle.code_lift.specs.declared.lifting.Address.{Address}
use Rattle.code_lift.specs.declared.lifting.Value.{Value}
use Rattle.code_lift.specs.declared.lifting.Value.TheVariants.{Entry, Let, Zero}
use Rattle.own_graph.specs.Own.{IsOwnGraph, Own, is_pin, memory_part, own_behind, own_input, own_pool, own_rows, own_set, own_start, target_part, value_part, with_multiple}
use Rattle.own_graph.specs.OwnView.{AreGiven, IsGiven}
use Rattle.own_graph.specs.Rows.{HasItsRow, HasRoom, class_of_part}
use Rattle.own_graph.specs.declared.operands.Part.TheVariants.{Leaf}
use Rattle.own_graph.proofs.FoundRows.{IsLonger}
use Rattle.own_graph.proofs.OwnAddresses.{IsKnownAddress, IsKnownValue, multiples_behind, multiples_keep, own_entry, own_input_op}
use Rattle.own_graph.proofs.OwnRows.{AreOwnRows, HasSort, IsOwnRow, found_sort, part_sort, sort_stays}
use Rattle.own_graph.proofs.OwnRuns.{are_given, given_value, words_room}
use Rattle.own_graph.proofs.OwnSteps.{IsKnown, IsKnownMemory, first_below, known_from, known_latest, known_start}
use Rattle.own_graph.proofs.Placed.{multiples_room}

-- what is known of instructions and their words
abbrev pub WordsAreFormed : Type 0
WordsAreFormed = (word : ℕ) (i : Instr) → word < 2 ^ 32 → decoded word ≡ Some i → IsWellFormed i

-- what is known of the goals of lifts
abbrev pub GoalsAreFormed : Type 0
GoalsAreFormed = (lifts : LiftsTree) → AreLifts lifts → IsInput (input_of_lifts lifts)

-- ---- lists

pairs_map : {X Y : Type 0} (R : Y → Y → Type 0) (f : X → Y) (xs : List X) → AllPairs (λ a b. R (f a) (f b)) xs → AllPairs R (map f xs)
pairs_map R f [] h = λ i j d l m. absurd (omega (arith, m))
pairs_map R f (x ∷ xs) h =
    AllPairs-cons R (f x) (map f xs) (All-map (R (f x)) f xs (λ k d l. h zero (suc k) d (omega arith) (omega (arith, l))))
    (pairs_map R f xs (λ i j d l m. h (suc i) (suc j) d (omega (arith, l)) (omega (arith, m))))

pub formed_words : WordsAreFormed → (words : List ℕ) → All IsPlainWord words → All IsWellFormed (filter_map decoded words)
formed_words law [] plain = All-nil IsWellFormed
formed_words law (w ∷ words) plain =
    let h = All-head IsPlainWord w words plain in
    subst (λ (o : Option Instr). All IsWellFormed (cons_option o (filter_map decoded words))) (sym h.is)
    (All-cons IsWellFormed h.instr (filter_map decoded words) (law w h.instr h.low h.is) (formed_words law words (All-tail IsPlainWord w words plain)))

-- ---- a set and its class

pub record IsOwnSet (s : Lifting) (o : Own) (t : TargetTree) : Type 0 where
  pub has_row : HasItsRow o.rows (target_part s o.values t.pin)
  pub sort : HasSort o.rows (set_sort t.name) (class_of_part o.rows (target_part s o.values t.pin))
  pub low : IfSome t.pin (λ r. r < 31)
  pub unpinned : IsTrue (is_memory_name t.name) → t.pin ≡ None

abbrev Apart : TargetTree → TargetTree → Type 0
Apart t u = (r : ℕ) → t.pin ≡ Some r → u.pin ≢ Some r

module _ (inputs : List ℕ) (s : Lifting) (o : Own) (known : IsKnown inputs s o) where
  entry_has : HasItsRow o.rows (Leaf ops.Entry)
  entry_has = ap is_some known.entry

  memory_has : (m : Option ℕ) → HasItsRow o.rows (memory_part o.values m)
  memory_has None = entry_has
  memory_has (Some n) = tt

  memory_sort : (m : Option ℕ) → IsKnownMemory o.rows o.values m → HasSort o.rows sorts.Memory (class_of_part o.rows (memory_part o.values m))
  memory_sort None h = part_sort o.rows sorts.Memory (Leaf ops.Entry) (own_entry, refl, refl) entry_has
  memory_sort (Some n) h = h.1

  memory_set_is : (t : TargetTree) → t.name ≡ codes "M" → t.pin ≡ None → IsOwnSet s o t
  memory_set_is t e f = record {
    has_row = subst (λ (p : Option ℕ). HasItsRow o.rows (target_part s o.values p)) (sym f) (memory_has s.memory);
    sort = subst (λ (p : Option ℕ). HasSort o.rows (set_sort t.name) (class_of_part o.rows (target_part s o.values p))) (sym f)
        (subst (λ n. HasSort o.rows (set_sort n) (class_of_part o.rows (memory_part o.values s.memory))) (sym e) (memory_sort s.memory known.memory_is));
    low = subst (λ (p : Option ℕ). IfSome p (λ r. r < 31)) (sym f) tt;
    unpinned = λ h. f;
  }

  let_has : (v : Value) → is_let v ≡ true → IsKnownValue o.rows o.values v → HasItsRow o.rows (value_part o.values v) × HasSort o.rows sorts.Word (class_of_part o.rows (value_part o.values v))
  let_has (Entry r) e h = absurd (cc)
  let_has Zero e h = absurd (cc)
  let_has (Let n) e h = (tt, h.1)

  register_set_is : (r : ℕ) → r < 31 → has_let s r ≡ true → IsOwnSet s o (register_set s r)
  register_set_is r low e =
      let h = let_has (latest_of s r) e (known_latest inputs s o known r) in
      record { has_row = h.0; sort = h.1; low = low; unpinned = λ f. (let g : false ≡ true = f in absurd (cc)) }

  memory_sets_are : (m : Option ℕ) → All (IsOwnSet s o) (memory_sets m)
  memory_sets_are None = All-nil (IsOwnSet s o)
  memory_sets_are (Some n) =
      let t : TargetTree = record { name = codes "M"; value = variable n; pin = None } in
      All-cons (IsOwnSet s o) t [] (memory_set_is t refl refl) (All-nil (IsOwnSet s o))

  with_lets : (out : List ℕ) → All (λ r. r < 31) out → All (λ r. IsOwnSet s o (register_set s r)) (filter (has_let s) out)
  with_lets out low k d l =
      register_set_is (get_or (filter (has_let s) out) k d)
      (All-filter (has_let s) (λ r. r < 31) out low k d l)
      (filter_passes (has_let s) out k d l)

  or_memory : (ts : List TargetTree) → All (IsOwnSet s o) ts → All (IsOwnSet s o) (sets_or_memory ts)
  or_memory [] h = All-cons (IsOwnSet s o) memory_kept [] (memory_set_is memory_kept refl refl) (All-nil (IsOwnSet s o))
  or_memory (t ∷ ts) h = h

  pub sets_are : (out : List ℕ) → All (λ r. r < 31) out → All (IsOwnSet s o) (sets_or_memory (sets_of s out))
  sets_are out low =
      or_memory (sets_of s out)
      (All-append (IsOwnSet s o) (memory_sets s.memory) (map (register_set s) (filter (has_let s) out)) (memory_sets_are s.memory)
      (All-map (IsOwnSet s o) (register_set s) (filter (has_let s) out) (with_lets out low)))

-- ---- pins

registers_apart : (s : Lifting) (rs : List ℕ) → AllPairs (λ q r. q ≢ r) rs → AllPairs Apart (map (register_set s) rs)
registers_apart s rs differ = pairs_map Apart (register_set s) rs (λ i j d l m r e f. differ i j d l m (same_Some (get_or rs i d) r e ∙ sym (same_Some (get_or rs j d) r f)))

memory_apart : (m : Option ℕ) (ts : List TargetTree) → AllPairs Apart ts → AllPairs Apart (memory_sets m ++ ts)
memory_apart None ts h = h
memory_apart (Some n) ts h = AllPairs-cons Apart (record { name = codes "M"; value = variable n; pin = None }) ts (λ k d l r e f. none-some r e) h

or_memory_apart : (ts : List TargetTree) → AllPairs Apart ts → AllPairs Apart (sets_or_memory ts)
or_memory_apart [] h = AllPairs-cons Apart memory_kept [] (All-nil (Apart memory_kept)) h
or_memory_apart (t ∷ ts) h = h

pub pins_apart : (s : Lifting) (out : List ℕ) → AllPairs (λ q r. q ≢ r) out → AllPairs Apart (sets_or_memory (sets_of s out))
pins_apart s out differ =
    or_memory_apart (sets_of s out) (memory_apart s.memory (map (register_set s) (filter (has_let s) out))
    (registers_apart s (filter (has_let s) out) (AllPairs-filter (λ q r. q ≢ r) (has_let s) out differ)))

-- ---- names

-- a lift alone, for a table of one slot
abbrev alone : LiftTree → LiftsTree
alone lift = record {
  table = record { slots = record { name = codes "s"; cluster = 0 } ∷ []; uses = []; cross = 0 };
  builtin = false;
  lifts = lift ∷ [];
}

are_alone : (lift : LiftTree) → IsLift lift → AreLifts (alone lift)
are_alone lift is = record {
  table = record {
    slots = (omega arith, omega arith);
    clusters = All-cons (λ (s : Slot). s.cluster ≤ 3) (record { name = codes "s"; cluster = 0 }) [] (omega arith) (All-nil (λ (s : Slot). s.cluster ≤ 3));
    names = λ i j d l m. absurd (omega (arith, l, m));
    cross = omega arith;
    uses = λ k d l. absurd (omega (arith, l));
    order = λ i j d l m. absurd (omega (arith, m));
  };
  slots = All-cons (λ (s : Slot). IsName s.name) (record { name = codes "s"; cluster = 0 }) [] (record { begins = refl; each = refl }) (All-nil (λ (s : Slot). IsName s.name));
  builtin = λ e. absurd (cc);
  each = All-cons IsLift lift [] is (All-nil IsLift);
  differ = λ i j d l m. absurd (omega (arith, l, m));
  some = omega arith;
  few = omega arith;
}

goal_is : GoalsAreFormed → (lift : LiftTree) → IsLift lift → IsGoal [] (goal_of_lift lift)
goal_is law lift is = All-head (IsGoal []) (goal_of_lift lift) [] (law (alone lift) (are_alone lift is)).goals

-- ---- the rows of a lift

pub low_inputs : (lift : LiftTree) → All (λ r. r < 31) (inputs_read (lifted lift.words))
low_inputs lift = All-filter (λ r. slice_index_or (lifted lift.words).is_read r false) (λ r. r < 31) (first_numbers 31) (first_below 31)

module _ (words_law : WordsAreFormed) (lift : LiftTree) (is : IsLift lift) where
  abbrev s : Lifting
  s = lifted lift.words

  abbrev o : Own
  o = own_behind lift

  abbrev rows : List LaunchRow
  rows = own_rows lift

  pub behind_known : IsKnown (inputs_read s) s o
  behind_known =
      known_from (inputs_read s) 0 (filter_map decoded lift.words) at_start (own_start (inputs_read s))
      (formed_words words_law lift.words is.rules.words) (known_start (inputs_read s) (low_inputs lift))

  pub longer : IsLonger o.rows rows
  longer = multiples_behind o.rows o.values s.addresses

  pub rows_are : AreOwnRows rows
  rows_are = multiples_keep o.rows o.values s.addresses behind_known.rows behind_known.addresses

  pub behind_room : (n : ℕ) → n + 2 ^ 12 < 2 ^ 32 → HasRoom n o.rows
  behind_room n few =
      let words = is.rules.few_words in
      let inputs = is.rules.few_inputs in
      words_room n (inputs_read s) lift.words is.rules.words (omega (arith, few, words, inputs))

  few_rows : length rows < 2 ^ 30
  few_rows =
      let most : ℕ = 2 ^ 32 - 2 ^ 20 in
      let addresses = is.rules.few_assumes in
      let room = multiples_room most o.values o.rows s.addresses (behind_room (most + 7 * length s.addresses) (omega (arith, addresses))) in
      let few = room.few in
      omega (arith, few)

  -- ---- its graph

  module _ (g : LaunchGraph) (own : IsOwnGraph lift g) (goals_law : GoalsAreFormed) where
    goal : IsGoal [] (goal_of_lift lift)
    goal = goal_is goals_law lift is

    there : (sort : Sort) (class : ℕ) → HasSort o.rows sort class → HasSort g.rows sort class
    there sort class h = subst (λ rs. HasSort rs sort class) (sym own.rows) (sort_stays o.rows rows sort class longer h)

    at_place : (i : ℕ) (r : LaunchRow) → slice_get g.rows i ≡ Some r → Contains rows r
    at_place i r e = subst (λ rs. Contains rs r) own.rows (i, slice_get_within g.rows i r e, get_or_from_slice_get g.rows i r r e)

    each_row : (P : LaunchRow → Type 0) → ((r : LaunchRow) → IsOwnRow rows r → P r) → All P g.rows
    each_row P h = subst (All P) (sym own.rows) (All-weaker (IsOwnRow rows) P h rows rows_are.each)

    row_at : (i : ℕ) (r : LaunchRow) → slice_get g.rows i ≡ Some r → IsOwnRow rows r
    row_at i r e = All-contains (IsOwnRow rows) rows r rows_are.each (at_place i r e)

    no_number : (r : LaunchRow) → IsOwnRow rows r → (n : ℕ) → declared_index r.op ≡ Some n → ⊥
    no_number r h n e = none-some n (sym h.op_is.undeclared ∙ e)

    none_true : (x : Option ℕ) → x ≡ None → IsTrue (is_some x) → ⊥
    none_true x e h = let f : false ≡ true = ap is_some (sym e) ∙ h in cc

    input_is : (r : ℕ) → r < 31 → HasItsRow o.rows (Leaf (ops.Input r)) → HasSort g.rows sorts.Word (own_input o.rows (input_named r)).class × (r < 31)
    input_is r low h = (there sorts.Word (class_of_part o.rows (Leaf (ops.Input r))) (part_sort o.rows sorts.Word (Leaf (ops.Input r)) (own_input_op r low, refl, refl) h), low)

    inputs_are : All (λ (i : InputClass). HasSort g.rows sorts.Word i.class × (i.reg < 31)) g.inputs
    inputs_are =
        subst (All (λ (i : InputClass). HasSort g.rows sorts.Word i.class × (i.reg < 31))) (sym own.inputs)
        (All-map (λ (i : InputClass). HasSort g.rows sorts.Word i.class × (i.reg < 31)) (own_input o.rows) (map input_named (inputs_read s))
        (All-map (λ (i : InputReg). HasSort g.rows sorts.Word (own_input o.rows i).class × (i.reg < 31)) input_named (inputs_read s)
        (λ k d l. input_is (get_or (inputs_read s) k d) (low_inputs lift k d l) (behind_known.inputs_have k d l))))

    -- what holds of each target holds of its set
    each_set : (P : SetClass → Type 0) → ((t : TargetTree) → IsOwnSet s o t → P (own_set s o t)) → All P g.sets
    each_set P h =
        subst (All P) (sym own.sets)
        (All-map P (own_set s o) (goal_of_lift lift).sets
        (All-weaker (IsOwnSet s o) (λ t. P (own_set s o t)) h (goal_of_lift lift).sets (sets_are (inputs_read s) s o behind_known lift.out is.rules.out.low)))

    pool_low : All (λ r. r < 31) g.pool
    pool_low =
        subst (All (λ r. r < 31)) (sym own.pool)
        (All-filter (λ r. not (has_register (inputs_read s) r) && not (is_pin (goal_of_lift lift).sets r)) (λ r. r < 31) (first_numbers 31) (first_below 31))

    own_pins : HaveOwnPins g.sets
    own_pins =
        subst HaveOwnPins (sym own.sets)
        (pairs_map (λ (a b : SetClass). (r : ℕ) → a.pin ≡ Some r → b.pin ≢ Some r) (own_set s o) (goal_of_lift lift).sets (pins_apart s lift.out is.rules.out.differ))

    pub is_launch_graph : IsLaunchGraph g
    is_launch_graph = record {
      few = subst (λ rs. length rs < 2 ^ 30) (sym own.rows) few_rows;
      arities = each_row (λ r. length r.operands ≡ arity_of_op r.op) (λ r h. h.arity);
      distinct = subst (AllPairs (λ (r t : LaunchRow). ¬ ((r.op ≡ t.op) × (r.operands ≡ t.operands)))) (sym own.rows) rows_are.distinct;
      classes = subst AreInOrder (sym own.rows) rows_are.classes;
      sorts = λ r t i j at e. (rows_are.alike r t (at_place i r at.0) (at_place j t at.1) e).sort;
      constants = λ r t i j m n at e f h. (rows_are.alike r t (at_place i r at.0) (at_place j t at.1) e).constant m n f h;
      words = λ r i m at e. (row_at i r at).op_is.word m e;
      registers = λ r i n at e. (row_at i r at).op_is.register n e;
      operands = each_row (TakesItsSorts g) (λ r h at l. subst (λ rs. HasSort rs (operand_sort r.op at) (slice_index r.operands at)) (sym own.rows) (h.operands at l));
      indexes = λ i n r at e. absurd (no_number r (row_at i r at) n e);
      unnamed = each_row (λ r. (r.name ≡ []) ⊎ IsTrue (is_some (declared_index r.op))) (λ r h. inl h.unnamed);
      same_name = λ r t i j m n at e f. absurd (no_number r (row_at i r at.0) m e);
      named = each_row (λ r. IsTrue (is_some (declared_index r.op)) → IsName r.name) (λ r h e. absurd (none_true (declared_index r.op) h.op_is.undeclared e));
      multiples = own.multiples;
      entry = subst (ClassHasSort g sorts.Memory) (sym own.entry) (there sorts.Memory 0 (found_sort o.rows ops.Entry [] 0 behind_known.entry));
      inputs = inputs_are;
      pool = pool_low;
      guard = subst (λ (x : Option Guard). IfSome x (λ guard. ClassHasSort g sorts.Word guard.class)) (sym own.guard) tt;
      sets = each_set (λ c. ClassHasSort g (set_sort c.name) c.class) (λ t h. there (set_sort t.name) (class_of_part o.rows (target_part s o.values t.pin)) h.sort);
      names = (
        subst (All (λ (i : InputClass). IsName i.name)) (sym own.inputs) (All-map (λ (i : InputClass). IsName i.name) (own_input o.rows) (goal_of_lift lift).inputs goal.named.inputs),
        subst (All (λ (t : SetClass). IsName t.name)) (sym own.sets) (All-map (λ (t : SetClass). IsName t.name) (own_set s o) (goal_of_lift lift).sets goal.named.targets),
      );
      pins = each_set (λ c. IfSome c.pin (λ r. r < 31)) (λ t h. h.low);
      own_pins = own_pins;
      memory_unpinned = each_set (λ c. IsTrue (is_memory_name c.name) → c.pin ≡ None) (λ t h. h.unpinned);
    }

-- ---- what the code has is what the lift has

abbrev graph_of : List LaunchRow → LaunchGraph
graph_of rows = record { rows = rows; multiples = []; entry = 0; inputs = []; pool = []; guard = None; sets = [] }

-- the registers of the goal's inputs are those that the words read
registers_back : (rs : List ℕ) → map (λ (i : InputReg). i.reg) (map input_named rs) ≡ rs
registers_back [] = refl
registers_back (r ∷ rs) = ap (λ qs. r ∷ qs) (registers_back rs)

pub registers_of_lift : (lift : LiftTree) (inputs : List InputReg) → inputs ≡ (goal_of_lift lift).inputs → map (λ (i : InputReg). i.reg) inputs ≡ inputs_read (lifted lift.words)
registers_of_lift lift inputs e = ap (map (λ (i : InputReg). i.reg)) e ∙ registers_back (inputs_read (lifted lift.words))

-- what is known behind the words, and their rows, are those of the lift
pub record IsBehind (lift : LiftTree) (lifting : Lifting) (own : Own) : Type 0 where
  pub lifting_is : lifting ≡ lifted lift.words
  pub own_is : own ≡ own_behind lift

module _ (words_law : WordsAreFormed) (lift : LiftTree) (is : IsLift lift) (lifting : Lifting) (own : Own) (behind : IsBehind lift lifting own) where
  known : IsKnown (inputs_read lifting) lifting own
  known = subst₂ (λ s o. IsKnown (inputs_read s) s o) (sym behind.lifting_is) (sym behind.own_is) (behind_known words_law lift is)

  pub inputs_have_rows : (inputs : List InputReg) → inputs ≡ (goal_of_lift lift).inputs → All (λ (i : InputReg). HasItsRow own.rows (Leaf (ops.Input i.reg))) inputs
  inputs_have_rows inputs e =
      subst (All (λ (i : InputReg). HasItsRow own.rows (Leaf (ops.Input i.reg)))) (sym (e ∙ ap (λ s. map input_named (inputs_read s)) (sym behind.lifting_is)))
      (All-map (λ (i : InputReg). HasItsRow own.rows (Leaf (ops.Input i.reg))) input_named (inputs_read lifting) known.inputs_have)

  -- what holds of each target of the goal holds of the sets
  of_sets : (P : TargetTree → Type 0) → ((t : TargetTree) → IsOwnSet lifting own t → P t) → (sets : List Set) → map target_view sets ≡ (goal_of_lift lift).sets → All (λ (t : Set). P (target_view t)) sets
  of_sets P h sets e k d l =
      let all : All (IsOwnSet lifting own) (map target_view sets) =
      subst (All (IsOwnSet lifting own)) (sym (e ∙ ap (λ s. sets_or_memory (sets_of s lift.out)) (sym behind.lifting_is))) (sets_are (inputs_read lifting) lifting own known lift.out is.rules.out.low) in
      let count = length-map sets target_view in
      h (target_view (get_or sets k d)) (subst (IsOwnSet lifting own) (get_or-map target_view sets k d (target_view d) l) (all k (target_view d) (omega (arith, l, count))))

  low_pin : (o : Option ℕ) → IfSome o (λ r. r < 31) → IfSome o (λ r. r < 32)
  low_pin None h = tt
  low_pin (Some r) h = omega (arith, h)

  pub sets_have_low_pins : (sets : List Set) → map target_view sets ≡ (goal_of_lift lift).sets → All (λ (t : Set). IfSome t.pin (λ r. r < 32)) sets
  sets_have_low_pins = of_sets (λ t. IfSome t.pin (λ r. r < 32)) (λ t h. low_pin t.pin h.low)

  pub sets_have_rows : (sets : List Set) → map target_view sets ≡ (goal_of_lift lift).sets → All (λ (t : Set). HasItsRow own.rows (target_part lifting own.values t.pin)) sets
  sets_have_rows = of_sets (λ t. HasItsRow own.rows (target_part lifting own.values t.pin)) (λ t h. h.has_row)

  pub values_are_given : AreGiven (length own.values) lifting
  values_are_given = are_given (inputs_read lifting) lifting own known

  pub addresses_are_given : (addresses : List Address) → addresses ≡ lifting.addresses → All (λ (a : Address). IsGiven (length own.values) a.value) addresses
  addresses_are_given addresses e =
      subst (All (λ (a : Address). IsGiven (length own.values) a.value)) (sym e)
      (All-weaker (IsKnownAddress own.rows own.values) (λ (a : Address). IsGiven (length own.values) a.value) (λ a h. given_value own.rows own.values a.value h.value) lifting.addresses known.addresses)

  pub powers_are_low : (addresses : List Address) → addresses ≡ lifting.addresses → All (λ (a : Address). a.power < 4) addresses
  powers_are_low addresses e =
      subst (All (λ (a : Address). a.power < 4)) (sym e)
      (All-weaker (IsKnownAddress own.rows own.values) (λ (a : Address). a.power < 4) (λ a h. h.power) lifting.addresses known.addresses)

  pub has_room : (addresses : List Address) → addresses ≡ lifting.addresses → HasRoom (7 * length addresses) own.rows
  has_room addresses e =
      let few = is.rules.few_assumes in
      let same : length addresses ≡ length (lifted lift.words).addresses = ap length (e ∙ ap (λ (s : Lifting). s.addresses) behind.lifting_is) in
      subst (λ (o : Own). HasRoom (7 * length addresses) o.rows) (sym behind.own_is) (behind_room words_law lift is (7 * length addresses) (omega (arith, few, same)))

  -- ---- its rows

  pub rows_of_lift : (given made : List LaunchRow) → made ≡ fold (with_multiple own.values) own.rows lifting.addresses → given ≡ made → given ≡ own_rows lift
  rows_of_lift given made made_is same =
      same ∙ made_is
      ∙ ap₂ (λ (o : Own) (s : Lifting). fold (with_multiple o.values) o.rows s.addresses) behind.own_is behind.lifting_is

  pub few_rows_of : (given : List LaunchRow) → given ≡ own_rows lift → length given < 2 ^ 30
  few_rows_of given e = subst (λ rs. length rs < 2 ^ 30) (sym e) (few_rows words_law lift is)

  -- what the finding of multiples asks of rows, from what holds of all graphs
  pub rows_are_below : ((g : LaunchGraph) → AreInOrder g.rows → All (TakesItsSorts g) g.rows → All (λ (r : LaunchRow). (r.class < length g.rows) × All (λ c. c < length g.rows) r.operands) g.rows)
      → (given : List LaunchRow) → given ≡ own_rows lift → All (λ (r : LaunchRow). (r.class < length given) × All (λ c. c < length given) r.operands) given
  rows_are_below law given e =
      let own = rows_are words_law lift is in
      subst (λ (rs : List LaunchRow). All (λ (r : LaunchRow). (r.class < length rs) × All (λ c. c < length rs) r.operands) rs) (sym e)
      (law (graph_of (own_rows lift)) own.classes (All-weaker (IsOwnRow (own_rows lift)) (TakesItsSorts (graph_of (own_rows lift))) (λ r h at l. h.operands at l) (own_rows lift) own.each))

-- ---- the parts of the graph

set_classes_twice : (s : Lifting) (o : Own) (sets : List Set) → map (λ (t : Set). own_set s o (target_view t)) sets ≡ map (own_set s o) (map target_view sets)
set_classes_twice s o [] = refl
set_classes_twice s o (t ∷ sets) = ap (λ cs. own_set s o (target_view t) ∷ cs) (set_classes_twice s o sets)

module _ (lift : LiftTree) (lifting : Lifting) (own : Own) (behind : IsBehind lift lifting own) where
  pub inputs_made : (class_rows : List LaunchRow) (inputs : List InputReg) → class_rows ≡ own.rows → inputs ≡ (goal_of_lift lift).inputs
      → map (own_input class_rows) inputs ≡ map (own_input (own_behind lift).rows) (goal_of_lift lift).inputs
  inputs_made class_rows inputs e f = ap₂ (λ rs is. map (own_input rs) is) (e ∙ ap (λ (o : Own). o.rows) behind.own_is) f

  pub pool_made : (rs : List ℕ) (sets : List Set) → rs ≡ inputs_read (lifted lift.words) → map target_view sets ≡ (goal_of_lift lift).sets
      → filter (λ r. not (has_register rs r) && not (is_pin (map target_view sets) r)) (first_numbers 31) ≡ own_pool lift
  pool_made rs sets e f = ap₂ (λ (rs : List ℕ) (ts : List TargetTree). filter (λ r. not (has_register rs r) && not (is_pin ts r)) (first_numbers 31)) e f

  pub sets_made : (sets : List Set) → map target_view sets ≡ (goal_of_lift lift).sets
      → map (λ (t : Set). own_set lifting own (target_view t)) sets ≡ map (own_set (lifted lift.words) (own_behind lift)) (goal_of_lift lift).sets
  sets_made sets e =
      set_classes_twice lifting own sets
      ∙ ap₂ (λ (s : Lifting) (o : Own). map (own_set s o) (map target_view sets)) behind.lifting_is behind.own_is
      ∙ ap (map (own_set (lifted lift.words) (own_behind lift))) e
