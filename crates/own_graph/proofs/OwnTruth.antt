-- The graph of a lift's words is true in each world in which they don't trap, and its sets are what they leave.
use Rattle.std.proofs.Common.{◌≡◌, ℕ, Bool, true, false, cond, List, [], ◌∷◌, ◌++◌, map, Option, Some, None, option_map, refl, sym, ap, ◌∙◌, subst, ◌⊎◌, ⊎_elim, arith, codes, bytes_eq, filter, filter_map, find, get_or, slice_get, slice_index, All}
use Rattle.std.specs.Option.{option_map_or}
use Rattle.std.proofs.lemmas.List.{get_or-map, length-map}
use Rattle.std.proofs.lemmas.List.Elements.{All-append, All-cons, All-head, All-map, All-nil, All-tail}
use Rattle.std.proofs.lemmas.Option.{get_or_from_slice_get, none-some, same_Some, slice_get-map, slice_get_within}
use Rattle.word_ops.specs.Meanings.{sort_of}
use Rattle.word_ops.specs.Worlds.{IsValue, IsWorld, Value as WorldValue, World, memory, word}
use Rattle.word_ops.specs.declared.sorts.Op.{Op}
use Rattle.word_ops.specs.declared.sorts.Op.TheVariants as ops
use Rattle.word_ops.specs.declared.sorts.Sort.{Sort}
use Rattle.word_terms.specs.Tree.{Tree, substituted, variable}
use Rattle.alpha_encode.specs.Decoded.{decoded}
use Rattle.goal_meaning.specs.Expanded.{expanded_sides, expanded_target}
use Rattle.goal_meaning.specs.Holds.{IsMet, goal_value}
use Rattle.goal_meaning.specs.Outcomes.{is_memory}
use Rattle.goal_meaning.specs.Views.{TargetTree, TwoTrees}
use Rattle.goal_meaning.specs.declared.goals.InputReg.{InputReg}
use Rattle.graph_meaning.specs.Graphs.{IsTrueUnder, is_memory_name, memory_target, row_meaning}
use Rattle.graph_meaning.specs.declared.graphs.InputClass.{InputClass}
use Rattle.graph_meaning.specs.declared.graphs.LaunchGraph.{LaunchGraph}
use Rattle.graph_meaning.specs.declared.graphs.LaunchRow.{LaunchRow}
use Rattle.graph_meaning.specs.declared.graphs.SetClass.{SetClass}
use Rattle.graph_meaning.specs.WellFormed.{set_sort}
use Rattle.proc_goal.specs.Goals.{memory_kept, sets_or_memory}
use Rattle.code_lift.specs.Lifted.{Lifting, assume_of, at_start, goal_of_lift, has_let, input_named, inputs_read, lifted, memory_sets, memory_value, register_set, sets_of}
use Rattle.code_lift.specs.Promises.{DoesAsLifted, MeetsAssumes, TrapsOnTheWay}
use Rattle.code_lift.specs.Views.{LiftTree}
use Rattle.code_lift.specs.WellFormed.{IsLift}
use Rattle.own_graph.specs.Meaning.{IsTrueOf, SaysWhatRuns}
use Rattle.own_graph.specs.Own.{IsOwnGraph, Own, own_behind, own_input, own_rows, own_set, own_start, target_part}
use Rattle.own_graph.specs.Rows.{HasItsRow, class_of_part}
use Rattle.own_graph.specs.declared.operands.Part.{Part}
use Rattle.own_graph.specs.declared.operands.Part.TheVariants.{Class, Leaf}
use Rattle.own_graph.proofs.FoundRows.{IsLonger, class_stays}
use Rattle.own_graph.proofs.OwnGoals.{IsOwnSet, WordsAreFormed, behind_known, formed_words, longer, low_inputs, rows_are, sets_are}
use Rattle.own_graph.proofs.OwnMeaning.{AreDisplaced, G, IsClearAddress, Say, memory_says, multiples_told, say_from, say_start, terms_of, value_says}
use Rattle.own_graph.proofs.OwnRows.{AreOwnRows, HasSort}
use Rattle.own_graph.proofs.OwnSteps.{IsKnown, known_latest, known_start}
use Rattle.own_graph.proofs.OwnValues.{AreTold, M, MeaningsAreInRange, P, at, class_low, found_value, leaf_says, value_stays, values_of}

-- what holds of the images of a list holds of the list
each_image : {X Y : Type 0} (Q : Y → Type 0) (f : X → Y) (xs : List X) → All Q (map f xs) → All (λ x. Q (f x)) xs
each_image Q f xs h k d l =
    let many = length-map xs f in
    subst Q (get_or-map f xs k d (f d) l) (h k (f d) (omega (arith, l, many)))

module _ (w : World) (in_range : MeaningsAreInRange w) (displaced : AreDisplaced) where
  -- ---- the sets of a goal

  module _ (inputs : List ℕ) (s : Lifting) (o : Own) (known : IsKnown inputs s o) (say : Say w in_range displaced (terms_of s.lets) o.rows o.values) where
    -- the part of a target has the target's value
    abbrev pub IsSaid : TargetTree → Type 0
    IsSaid t = P w in_range o.rows (target_part s o.values t.pin) ≡ G w in_range displaced (terms_of s.lets) t.value

    register_said : (r : ℕ) → IsSaid (register_set s r)
    register_said r = value_says w in_range displaced (terms_of s.lets) o.rows o.values say _ (known_latest inputs s o known r)

    memory_said : (m : Option ℕ) → s.memory ≡ m → All IsSaid (memory_sets m)
    memory_said None e = All-nil IsSaid
    memory_said (Some n) e =
        All-cons IsSaid (record { name = codes "M"; value = variable n; pin = None }) []
        (memory_says w in_range displaced (terms_of s.lets) o.rows o.values say s.memory known.memory_is ∙ ap (λ m. G w in_range displaced (terms_of s.lets) (memory_value m)) e)
        (All-nil IsSaid)

    -- where nothing is set the memory is as it was
    kept_said : s.memory ≡ None → IsSaid memory_kept
    kept_said e = memory_says w in_range displaced (terms_of s.lets) o.rows o.values say s.memory known.memory_is ∙ ap (λ m. G w in_range displaced (terms_of s.lets) (memory_value m)) e

    no_memory : (m : Option ℕ) (ts : List TargetTree) → memory_sets m ++ ts ≡ [] → m ≡ None
    no_memory None ts e = refl
    no_memory (Some n) ts e = absurd (cc)

    or_memory : (ts : List TargetTree) → All IsSaid ts → (ts ≡ [] → s.memory ≡ None) → All IsSaid (sets_or_memory ts)
    or_memory [] h none = All-cons IsSaid memory_kept [] (kept_said (none refl)) (All-nil IsSaid)
    or_memory (t ∷ ts) h none = h

    pub sets_said : (out : List ℕ) → All IsSaid (sets_or_memory (sets_of s out))
    sets_said out =
        let registers = map (register_set s) (filter (has_let s) out) in
        or_memory (sets_of s out)
        (All-append IsSaid (memory_sets s.memory) registers (memory_said s.memory refl)
        (All-map IsSaid (register_set s) (filter (has_let s) out) (λ k d l. register_said (get_or (filter (has_let s) out) k d))))
        (no_memory s.memory registers)

  -- ---- a lift

  module _ (words_law : WordsAreFormed) (lift : LiftTree) (is : IsLift lift) where
    abbrev s : Lifting
    s = lifted lift.words

    abbrev o : Own
    o = own_behind lift

    abbrev es : List (Tree Op)
    es = terms_of s.lets

    abbrev rows : List LaunchRow
    rows = own_rows lift

    known : IsKnown (inputs_read s) s o
    known = behind_known words_law lift is

    say : Say w in_range displaced es o.rows o.values
    say =
        say_from w in_range displaced (inputs_read s) 0 (filter_map decoded lift.words) at_start (own_start (inputs_read s))
        (formed_words words_law lift.words is.rules.words) (known_start (inputs_read s) (low_inputs lift))
        (say_start w in_range displaced (inputs_read s) (low_inputs lift))

    behind : IsLonger o.rows rows
    behind = longer words_law lift is

    module _ (met : MeetsAssumes lift w) where
      are_clear : All (IsClearAddress w in_range displaced es) s.addresses
      are_clear =
          each_image (λ (a : TwoTrees). IsMet [] w (expanded_sides es a)) assume_of s.addresses
          (each_image (IsMet [] w) (expanded_sides es) (map assume_of s.addresses) met)

      told : AreTold w rows
      told = multiples_told w in_range displaced es o.rows o.values s.addresses say known.rows known.addresses are_clear

      own : AreOwnRows rows
      own = rows_are words_law lift is

      -- the value of a class
      abbrev value : ℕ → WorldValue
      value = at (values_of w rows)

      of_leaf : (op : Op) → HasItsRow o.rows (Leaf op) → value (class_of_part o.rows (Leaf op)) ≡ M w op []
      of_leaf = leaf_says w in_range o.rows o.rows rows behind behind say.told told own

      of_part : (sort : Sort) (part : Part) → HasSort o.rows sort (class_of_part o.rows part) → HasItsRow o.rows part → value (class_of_part o.rows part) ≡ P w in_range o.rows part
      of_part sort (Class c) h has = value_stays w o.rows rows c behind (class_low w o.rows say.told sort c h)
      of_part sort (Leaf op) h has = of_leaf op has

      abbrev IsRight : TargetTree → Type 0
      IsRight t = value (own_set s o t).class ≡ goal_value [] w (substituted es t.value)

      all_right : All IsRight (goal_of_lift lift).sets
      all_right k d l =
          let t : TargetTree = get_or (goal_of_lift lift).sets k d in
          let h : IsOwnSet s o t = sets_are (inputs_read s) s o known lift.out is.rules.out.low k d l in
          of_part (set_sort t.name) (target_part s o.values t.pin) h.sort h.has_row ∙ sets_said (inputs_read s) s o known say lift.out k d l

      find_says : (ts : List TargetTree) → All IsRight ts → (c : ℕ) (m : WorldValue) → value c ≡ m
          → value (option_map_or (λ (k : SetClass). k.class) (find (λ (k : SetClass). is_memory_name k.name) (map (own_set s o) ts)) c)
          ≡ option_map_or (λ (t : TargetTree). goal_value [] w t.value) (find is_memory (map (expanded_target es) ts)) m
      find_says [] right c m e = e
      find_says (t ∷ ts) right c m e = by (bytes_eq t.name (codes "M")) (find_says ts (All-tail IsRight t ts right) c m e)
        where
          by : (b : Bool)
              → value (option_map_or (λ (k : SetClass). k.class) (find (λ (k : SetClass). is_memory_name k.name) (map (own_set s o) ts)) c)
              ≡ option_map_or (λ (t : TargetTree). goal_value [] w t.value) (find is_memory (map (expanded_target es) ts)) m
              → value (option_map_or (λ (k : SetClass). k.class) (cond b (Some (own_set s o t)) (find (λ (k : SetClass). is_memory_name k.name) (map (own_set s o) ts))) c)
              ≡ option_map_or (λ (t : TargetTree). goal_value [] w t.value) (cond b (Some (expanded_target es t)) (find is_memory (map (expanded_target es) ts))) m
          by true later = All-head IsRight t ts right
          by false later = later

      module _ (g : LaunchGraph) (graph : IsOwnGraph lift g) where
        entry_is : value 0 ≡ memory w.memory_at_entry
        entry_is = found_value w rows told own ops.Entry [] 0 (class_stays o.rows rows ops.Entry [] 0 behind known.entry)

        is_true : IsTrueUnder g w value
        is_true = record {
          rows = subst (All (λ (r : LaunchRow). value r.class ≡ row_meaning w r (map value r.operands))) (sym graph.rows) told.is_true;
          sorts = subst (All (λ (r : LaunchRow). IsValue (sort_of r.op) (value r.class))) (sym graph.rows) told.sorts;
          inputs =
              subst (All (λ (i : InputClass). value i.class ≡ word (slice_index w.registers i.reg))) (sym graph.inputs)
              (All-map (λ (i : InputClass). value i.class ≡ word (slice_index w.registers i.reg)) (own_input o.rows) (map input_named (inputs_read s))
              (All-map (λ (i : InputReg). value (own_input o.rows i).class ≡ word (slice_index w.registers i.reg)) input_named (inputs_read s)
              (λ k d l. of_leaf (ops.Input (get_or (inputs_read s) k d)) (known.inputs_have k d l))));
          entry = ap value graph.entry ∙ entry_is;
        }

        module _ (does : DoesAsLifted lift w) where
          memory_is : value (memory_target g) ≡ memory does.state.memory
          memory_is =
              ap (λ (sets : List SetClass). value (option_map_or (λ (k : SetClass). k.class) (find (λ (k : SetClass). is_memory_name k.name) sets) g.entry)) graph.sets
              ∙ ap (λ c. value (option_map_or (λ (k : SetClass). k.class) (find (λ (k : SetClass). is_memory_name k.name) (map (own_set s o) (goal_of_lift lift).sets)) c)) graph.entry
              ∙ find_says (goal_of_lift lift).sets all_right 0 (memory w.memory_at_entry) entry_is ∙ sym does.memory_is

          registers : (i r : ℕ) (k : SetClass) → slice_get g.sets i ≡ Some k → k.pin ≡ Some r → value k.class ≡ word (slice_index does.state.registers r)
          registers i r k e p = by (slice_get ts i) refl (sym (slice_get-map (own_set s o) ts i) ∙ ap (λ sets. slice_get sets i) (sym graph.sets) ∙ e)
            where
              ts : List TargetTree
              ts = (goal_of_lift lift).sets

              by : (t : Option TargetTree) → slice_get ts i ≡ t → option_map (own_set s o) (slice_get ts i) ≡ Some k → value k.class ≡ word (slice_index does.state.registers r)
              by None f h = absurd (none-some k (sym (ap (option_map (own_set s o)) f) ∙ h))
              by (Some t) f h =
                  let same : own_set s o t ≡ k = same_Some (own_set s o t) k (sym (ap (option_map (own_set s o)) f) ∙ h) in
                  let right : IsRight t = subst IsRight (get_or_from_slice_get ts i t t f) (all_right i t (slice_get_within ts i t f)) in
                  let there : slice_get (map (expanded_target es) ts) i ≡ Some (expanded_target es t) = slice_get-map (expanded_target es) ts i ∙ ap (option_map (expanded_target es)) f in
                  ap (λ (c : SetClass). value c.class) (sym same) ∙ right
                  ∙ sym (does.targets i r (expanded_target es t) there (ap (λ (c : SetClass). c.pin) same ∙ p))

          pub says : SaysWhatRuns lift.words g w
          says = record { state = does.state; runs = does.runs; value = value; is_true = is_true; memory_is = memory_is; registers = registers }

-- ---- in each world

module _ (words_law : WordsAreFormed) (displaced : AreDisplaced)
    (in_range : (w : World) → IsWorld w → MeaningsAreInRange w)
    (does : (lift : LiftTree) (w : World) → IsLift lift → IsWorld w → MeetsAssumes lift w → DoesAsLifted lift w)
    (decided : (lift : LiftTree) (w : World) → IsLift lift → IsWorld w → MeetsAssumes lift w ⊎ TrapsOnTheWay lift.words w) where
  pub is_true_of : (lift : LiftTree) → IsLift lift → (g : LaunchGraph) → IsOwnGraph lift g → IsTrueOf lift.words g
  is_true_of lift is g graph w is_world none =
      ⊎_elim
      (λ met. says w (in_range w is_world) displaced words_law lift is met g graph (does lift w is is_world met))
      (λ traps. absurd (none traps))
      (decided lift w is is_world)
