-- The first graph of a well-formed goal: what its calls want, and what it is.
use Rattle.std.proofs.Common.{◌≡◌, ℕ, ◌<◌, ◌≤◌, ◌^◌, List, [], ◌∷◌, ◌++◌, map, length, Option, Some, None, option_map, IfSome, All, get_or, refl, sym, ap, ◌∙◌, subst, arith}
use Rattle.std.proofs.lemmas.List.{append_assoc, map-append}
use Rattle.std.proofs.lemmas.List.Elements.{All-cons, All-head, All-tail, All-append, All-contains, All-weaker}
use Rattle.word_ops.specs.Worlds.{word, World, IsWorld}
use Rattle.word_ops.specs.declared.sorts.Op.{Op}
use Rattle.word_ops.specs.declared.sorts.Sort.{Sort}
use Rattle.word_ops.specs.declared.sorts.Sort.TheVariants as sorts
use Rattle.word_terms.specs.Keys.{op_signature}
use Rattle.word_terms.specs.Tree.{Tree, substituted}
use Rattle.axiom_base.specs.Rewrites.{value_in}
use Rattle.egraph.specs.Graph.{Graph, IsGraph}
use Rattle.goal_meaning.specs.Expanded.{expanded, expanded_sides, expanded_target, let_terms, let_values}
use Rattle.goal_meaning.specs.Views.{TwoTrees, TargetTree, GoalTree}
use Rattle.goal_meaning.specs.WellFormed.{AreLets, IsGoal, IsGoalTerm, IsAssume, IsTarget, IsTermOver, let_sorts, sort_of_tree}
use Rattle.goal_meaning.specs.declared.goals.InputReg.{InputReg}
use Rattle.goal_meaning.specs.declared.goals.DeclaredOp.{DeclaredOp}
use Rattle.saturation.specs.AtStart.{IsSorted, IsStarted, IsGrownAtStart, StandsAtStart, StartFaultIs, IsHopelessAtStart, most_rows_at_start}
use Rattle.saturation.specs.OverLets.{IsSortedOver, AreSorted, AreSortedOver, AreSortedLets, CanInsertGoal, CanAssumeAll, AreTermsInserted, AreAssumedOver, AssumeFaultOfAll, terms_over_lets}
use Rattle.saturation.specs.Derives.{Pair}
use Rattle.saturation.specs.GoalTerms.{entry_term, input_term, input_terms, assume_terms, guard_terms, set_terms, kept_terms, present_terms, assumed_pair, assumed_pairs}
use Rattle.saturation.specs.Trace.{AreInserted, AreAssumed, AreRefused}
use Rattle.saturation.specs.declared.faults.StartFault.{StartFault}
use Rattle.saturation.specs.declared.faults.StartFault.TheVariants.{NoWorld, Memory}
use Rattle.saturation.proofs.Built.{Stand, stand_extends}
use Rattle.saturation.proofs.Closed.{Closed, IsClosed, closed_lets}
use Rattle.saturation.proofs.Graphs.{cur}
use Rattle.saturation.proofs.LetTerms.{HaveClasses, have_classes, classes_stand, inserted_without, inserted_closed, LetsStand, lets_stand, assumed_without, refused_without}
use Rattle.saturation.proofs.Present.{all_assumed_made}
use Rattle.saturation.proofs.RoundStands.{closed_below}
use Rattle.saturation.proofs.Standing.{Law, class_value, value_agrees}
use Rattle.saturation.proofs.StartStands.{Stands, nothing_stands, inserted_stands, all_assumed_stand, all_refused}
use Rattle.saturation.proofs.StartSteps.{all_before, all_behind, inserted_append, inserted_goal_few, lets_graph, lets_have, over_extends, over_graph, sorts_kept}
use Rattle.saturation.proofs.Starting.{Placed, placed_later, all_assumed_graph, all_assumed_follow, all_placed, start_is_grown, start_clashes}

-- ---- the terms

entry_sorted : IsSorted entry_term
entry_sorted = record { sort = sorts.Memory; is = (refl, tt, refl, tt) }

inputs_sorted : (xs : List InputReg) → All IsSorted (input_terms xs)
inputs_sorted [] = λ n d l. absurd (omega arith)
inputs_sorted (x ∷ xs) = All-cons IsSorted (input_term x.reg) (input_terms xs) (record { sort = sorts.Word; is = (refl, tt, refl, tt) }) (inputs_sorted xs)

assumes_sorted : (xs : List TwoTrees) → All AreSorted xs → All IsSorted (assume_terms xs)
assumes_sorted [] s = λ n d l. absurd (omega arith)
assumes_sorted (x ∷ xs) s =
    let h = All-head AreSorted x xs s in
    All-cons IsSorted x.left (x.right ∷ assume_terms xs) (record { sort = h.sort; is = h.left })
    (All-cons IsSorted x.right (assume_terms xs) (record { sort = h.sort; is = h.right }) (assumes_sorted xs (All-tail AreSorted x xs s)))

sides_of_all : (P : Tree Op → Type 0) (xs : List TwoTrees) → All P (assume_terms xs) → All (λ (p : Pair). P p.0) (map assumed_pair xs) × All (λ (p : Pair). P p.1) (map assumed_pair xs)
sides_of_all P [] h = (λ n d l. absurd (omega arith), λ n d l. absurd (omega arith))
sides_of_all P (x ∷ xs) h =
    let r = All-tail P x.left (x.right ∷ assume_terms xs) h in
    let k = sides_of_all P xs (All-tail P x.right (assume_terms xs) r) in (
      All-cons (λ (p : Pair). P p.0) (assumed_pair x) (map assumed_pair xs) (All-head P x.left (x.right ∷ assume_terms xs) h) k.0,
      All-cons (λ (p : Pair). P p.1) (assumed_pair x) (map assumed_pair xs) (All-head P x.right (assume_terms xs) r) k.1,
    )

equal_sides : (world : World) (names : ℕ → List ℕ) (xs : List TwoTrees) → All (λ (p : Pair). value_in world names [] p.0 ≡ value_in world names [] p.1) (map assumed_pair xs) →
    All (λ (a : TwoTrees). value_in world names [] a.left ≡ value_in world names [] a.right) xs
equal_sides world names [] h = λ n d l. absurd (omega arith)
equal_sides world names (x ∷ xs) h =
    let P : Pair → Type 0 = λ p. value_in world names [] p.0 ≡ value_in world names [] p.1 in
    All-cons (λ (a : TwoTrees). value_in world names [] a.left ≡ value_in world names [] a.right) x xs
    (All-head P (assumed_pair x) (map assumed_pair xs) h) (equal_sides world names xs (All-tail P (assumed_pair x) (map assumed_pair xs) h))

abbrev nothing : Graph Op
nothing = record { rows = []; current = [] }

sorted_lets : (declared : List DeclaredOp) (inputs : List InputReg) (ss : List Sort) (ts : List (Tree Op)) → AreLets declared inputs ss ts → AreSortedLets ss ts
sorted_lets declared inputs ss [] h = tt
sorted_lets declared inputs ss (t ∷ ts) h = (h.0.sorted, sorted_lets declared inputs (ss ++ sort_of_tree ss t ∷ []) ts h.1)

-- terms with other terms put in for their lets
assumes_put : (es : List (Tree Op)) (xs : List TwoTrees) → map (substituted es) (assume_terms xs) ≡ assume_terms (map (expanded_sides es) xs)
assumes_put es [] = refl
assumes_put es (x ∷ xs) = ap (λ ts. substituted es x.left ∷ substituted es x.right ∷ ts) (assumes_put es xs)

guard_put : (es : List (Tree Op)) (o : Option (Tree Op)) → map (substituted es) (guard_terms o) ≡ guard_terms (option_map (substituted es) o)
guard_put es None = refl
guard_put es (Some t) = refl

sets_put : (es : List (Tree Op)) (xs : List TargetTree) → map (substituted es) (set_terms xs) ≡ set_terms (map (expanded_target es) xs)
sets_put es [] = refl
sets_put es (x ∷ xs) = ap (λ ts. substituted es x.value ∷ ts) (sets_put es xs)

-- why the sides of the terms without lets are not made equal
abbrev ClosedFault : List Pair → Graph Op → StartFault → Type 0
ClosedFault ps g (NoWorld class a b) = AreRefused ps g a b
ClosedFault ps g Memory = Unit {0}

module _ (declared : List DeclaredOp) (goal : GoalTree) (is_goal : IsGoal declared goal) where
  -- ---- its terms over the lets

  abbrev Over : Tree Op → Type 0
  Over t = IsSortedOver (let_sorts goal) t

  assumes_over : (xs : List TwoTrees) → All (AreSortedOver (let_sorts goal)) xs → All Over (assume_terms xs)
  assumes_over [] s = λ n d l. absurd (omega arith)
  assumes_over (x ∷ xs) s =
      let h = All-head (AreSortedOver (let_sorts goal)) x xs s in
      All-cons Over x.left (x.right ∷ assume_terms xs) (record { sort = h.sort; is = h.left })
      (All-cons Over x.right (assume_terms xs) (record { sort = h.sort; is = h.right }) (assumes_over xs (All-tail (AreSortedOver (let_sorts goal)) x xs s)))

  guard_over : (o : Option (Tree Op)) → IfSome o (IsGoalTerm declared goal sorts.Word) → All Over (guard_terms o)
  guard_over None h = λ n d l. absurd (omega arith)
  guard_over (Some t) h = All-cons Over t [] (record { sort = sorts.Word; is = h.sorted }) (λ n d l. absurd (omega arith))

  sets_over : (xs : List TargetTree) → All (IsTarget declared goal) xs → All Over (set_terms xs)
  sets_over [] h = λ n d l. absurd (omega arith)
  sets_over (x ∷ xs) h =
      let k = All-head (IsTarget declared goal) x xs h in
      All-cons Over x.value (set_terms xs) (record { sort = _; is = k.sorted }) (sets_over xs (All-tail (IsTarget declared goal) x xs h))

  sides_over : All (AreSortedOver (let_sorts goal)) goal.assumes
  sides_over = All-weaker (IsAssume declared goal) (AreSortedOver (let_sorts goal)) (λ a h. record { sort = h.sort; left = h.left.sorted; right = h.right.sorted }) goal.assumes is_goal.assumes

  terms_over : All Over (terms_over_lets goal)
  terms_over =
      All-append Over (assume_terms goal.assumes ++ guard_terms goal.guard) (set_terms goal.sets)
      (All-append Over (assume_terms goal.assumes) (guard_terms goal.guard) (assumes_over goal.assumes sides_over) (guard_over goal.guard is_goal.guard))
      (sets_over goal.sets is_goal.sets)

  lets_over : AreSortedLets [] (let_values goal.lets)
  lets_over = sorted_lets declared goal.inputs [] (let_values goal.lets) is_goal.lets

  few : most_rows_at_start goal < 2 ^ 30
  few = omega (arith, is_goal.few, is_goal.rules.few.0)

  pub all_can : IsGraph op_signature nothing → CanInsertGoal nothing goal
  all_can is = record { graph = is; lets = lets_over; terms = terms_over; few = omega (arith, few) }

  -- ---- its terms without lets

  module _ (closed : Closed declared goal) where
    abbrev bare : GoalTree
    bare = expanded goal

    abbrev es : List (Tree Op)
    es = let_terms goal

    abbrev E : List (Tree Op)
    E = entry_term ∷ input_terms goal.inputs

    abbrev A : List (Tree Op)
    A = assume_terms (expanded goal).assumes

    abbrev G : List (Tree Op)
    G = guard_terms (expanded goal).guard

    abbrev S : List (Tree Op)
    S = set_terms (expanded goal).sets

    lets_sorted : All IsSorted es
    lets_sorted = All-weaker (IsClosed declared goal) IsSorted (λ t h. record { sort = h.sort; is = h.is.sorted }) es (closed_lets declared goal (let_sorts goal) es closed.lets)

    sorted_guard : (o : Option (Tree Op)) → IfSome o (IsTermOver declared goal.inputs [] sorts.Word) → All IsSorted (guard_terms o)
    sorted_guard None h = λ n d l. absurd (omega arith)
    sorted_guard (Some t) h = All-cons IsSorted t [] (record { sort = sorts.Word; is = h.sorted }) (λ n d l. absurd (omega arith))

    sorted_sets : (xs : List TargetTree) → All (IsTarget declared (expanded goal)) xs → All IsSorted (set_terms xs)
    sorted_sets [] h = λ n d l. absurd (omega arith)
    sorted_sets (x ∷ xs) h =
        let k = All-head (IsTarget declared (expanded goal)) x xs h in
        All-cons IsSorted x.value (set_terms xs) (record { sort = _; is = k.sorted }) (sorted_sets xs (All-tail (IsTarget declared (expanded goal)) x xs h))

    sorted_assumes : All AreSorted (expanded goal).assumes
    sorted_assumes = All-weaker (IsAssume declared (expanded goal)) AreSorted (λ a h. record { sort = h.sort; left = h.left.sorted; right = h.right.sorted }) (expanded goal).assumes closed.assumes

    sorted : All IsSorted (present_terms goal)
    sorted =
        All-append IsSorted (E ++ es ++ A ++ G) S
        (All-append IsSorted (E ++ es ++ A) G
        (All-append IsSorted (E ++ es) A
        (All-append IsSorted E es (All-cons IsSorted entry_term (input_terms goal.inputs) entry_sorted (inputs_sorted goal.inputs)) lets_sorted)
        (assumes_sorted (expanded goal).assumes sorted_assumes))
        (sorted_guard (expanded goal).guard closed.guard))
        (sorted_sets (expanded goal).sets closed.sets)

    terms_put : map (substituted es) (terms_over_lets goal) ≡ A ++ G ++ S
    terms_put =
        map-append (substituted es) (assume_terms goal.assumes ++ guard_terms goal.guard) (set_terms goal.sets)
        ∙ ap (λ ts. ts ++ map (substituted es) (set_terms goal.sets)) (map-append (substituted es) (assume_terms goal.assumes) (guard_terms goal.guard))
        ∙ ap (λ ts. ts ++ map (substituted es) (guard_terms goal.guard) ++ map (substituted es) (set_terms goal.sets)) (assumes_put es goal.assumes)
        ∙ ap (λ ts. A ++ ts ++ map (substituted es) (set_terms goal.sets)) (guard_put es goal.guard)
        ∙ ap (λ ts. A ++ G ++ ts) (sets_put es goal.sets)

    -- ---- they are inserted

    module _ (is : IsGraph op_signature nothing) (middle : Graph Op) (lets : List ℕ) (w : AreTermsInserted goal nothing lets middle) where
      first_is : IsGraph op_signature w.first
      first_is = over_graph [] w.leaves is

      second_is : IsGraph op_signature w.second
      second_is = lets_graph w.named first_is

      im : IsGraph op_signature middle
      im = over_graph lets w.terms second_is

      lets_there : LetsStand w.first w.second [] (let_values goal.lets) lets
      lets_there = lets_stand [] w.named first_is tt

      second_has : HaveClasses w.second lets es
      second_has = have_classes w.second es lets lets_there.zip

      inserted : AreInserted (present_terms goal) nothing middle
      inserted =
          let named = subst (λ ts. AreInserted ts w.first w.second) (sym lets_there.are) lets_there.inserted in
          let terms = subst (λ ts. AreInserted ts w.second middle) terms_put (inserted_without lets es w.terms second_is second_has) in
          let order : (E ++ es) ++ (A ++ G ++ S) ≡ present_terms goal = sym (append_assoc (E ++ es) (A ++ G) S) ∙ ap (λ ts. ts ++ S) (sym (append_assoc (E ++ es) A G)) in
          subst (λ ts. AreInserted ts nothing middle) order (inserted_append (inserted_append (inserted_closed w.leaves) named) terms)

      lets_stay : Stand middle lets es
      lets_stay = stand_extends w.second middle (over_extends lets w.terms) lets es (classes_stand w.second second_is es lets second_has)

      assumed_closed : (new : Graph Op) → AreAssumedOver lets (map assumed_pair goal.assumes) middle new → AreAssumed (assumed_pairs goal) middle new
      assumed_closed new h = assumed_without lets es goal.assumes h im lets_stay

      fault_closed : (fault : StartFault) → AssumeFaultOfAll lets (map assumed_pair goal.assumes) middle fault → ClosedFault (assumed_pairs goal) middle fault
      fault_closed (NoWorld class a b) h = refused_without lets es goal.assumes h im lets_stay
      fault_closed Memory h = tt

      made : length middle.current ≤ most_rows_at_start goal
      made = omega (arith, inserted_goal_few goal w)

      pub assumes_can : CanAssumeAll middle lets goal.assumes
      assumes_can = record {
        graph = im;
        variables = let_sorts goal;
        have = sorts_kept w.second middle second_is (over_extends lets w.terms) lets (let_sorts goal) (lets_have [] w.named first_is tt lets_over);
        sorted = sides_over;
        few = omega (arith, made, few);
      }

      placed : All (Placed middle) (present_terms goal)
      placed = all_placed inserted is

      none_made : (new : Graph Op) → AreAssumed (assumed_pairs goal) middle new → length new.current ≡ length middle.current
      none_made new assumed =
          let of_assumes = all_behind (Placed middle) (E ++ es) A
          (all_before (Placed middle) (E ++ es ++ A) G
          (all_before (Placed middle) (E ++ es ++ A ++ G) S placed)) in
          let sides = sides_of_all (Placed middle) (expanded goal).assumes of_assumes in
          all_assumed_made im assumed sides.0 sides.1

      -- the terms that are kept are among those that are present
      kept_placed : All (Placed middle) (kept_terms goal)
      kept_placed =
          let three = all_before (Placed middle) (E ++ es ++ A ++ G) S placed in
          let two = all_before (Placed middle) (E ++ es ++ A) G three in
          All-append (Placed middle) (E ++ es ++ G) S
          (All-append (Placed middle) (E ++ es) G
          (all_before (Placed middle) (E ++ es) A two)
          (all_behind (Placed middle) (E ++ es ++ A) G three))
          (all_behind (Placed middle) (E ++ es ++ A ++ G) S placed)

      -- ---- the sides are made equal

      module _ (new : Graph Op) (over : AreAssumedOver lets (map assumed_pair goal.assumes) middle new) where
        assumed : AreAssumed (assumed_pairs goal) middle new
        assumed = assumed_closed new over

        graph_is : IsGraph op_signature new
        graph_is = all_assumed_graph assumed im

        pub started : IsStarted goal new
        started = record { middle = middle; inserted = inserted; assumed = assumed }

        pub few_classes : length new.current ≤ most_rows_at_start goal
        few_classes = omega (arith, made, none_made new assumed)

        pub few_made : length new.current < 2 ^ 30
        few_made = omega (arith, few_classes, few)

        pub few_rows : length new.rows ≤ most_rows_at_start goal
        few_rows = let f = graph_is.few_rows in omega (arith, few_classes, f)

        pub grown : IsGrownAtStart goal new
        grown added = start_is_grown added (present_terms goal) (assumed_pairs goal) middle new is inserted assumed

      module _ (law : Law) where
        middle_stands : (world : World) (is_world : IsWorld world) (names : ℕ → List ℕ) → Stands law world is_world names middle
        middle_stands world is_world names = inserted_stands law world is_world names inserted is sorted (nothing_stands law world is_world names)

        pub stands : (new : Graph Op) → AreAssumedOver lets (map assumed_pair goal.assumes) middle new → StandsAtStart goal new
        stands new over names added = record {
          classes = λ t h.
              let p = placed_later middle new (all_assumed_follow (assumed_closed new over) im) t (All-contains (Placed middle) (kept_terms goal) t kept_placed h) in
              (cur new p.class, p.is);
          values = λ world is_world holds.
              let s = all_assumed_stand law world is_world names (expanded goal).assumes (assumed_closed new over) sorted_assumes (equal_sides world names (expanded goal).assumes holds.equal_hold) im (middle_stands world is_world names) in (
                s.values,
                s.true,
                λ t c h m.
                    class_value law world is_world names new s.values s.true [] m
                    ∙ value_agrees law world is_world names 0 (λ n. s.values (get_or [] n 0)) (λ n. get_or [] n (word 0)) (λ n l. absurd (omega (arith, l))) t (closed_below new t m),
              );
        }

        refused_never : (fault : StartFault) → ClosedFault (assumed_pairs goal) middle fault → IsHopelessAtStart goal fault
        refused_never (NoWorld class x y) refused = λ names added world is_world holds.
            all_refused law world is_world names (expanded goal).assumes refused sorted_assumes (equal_sides world names (expanded goal).assumes holds.equal_hold) im (middle_stands world is_world names)
        refused_never Memory h = tt

        pub hopeless : (fault : StartFault) → AssumeFaultOfAll lets (map assumed_pair goal.assumes) middle fault → IsHopelessAtStart goal fault
        hopeless fault h = refused_never fault (fault_closed fault h)

      refused_is : (fault : StartFault) → ClosedFault (assumed_pairs goal) middle fault → StartFaultIs goal fault
      refused_is (NoWorld class x y) refused = λ added.
          let k = start_clashes added (present_terms goal) (assumed_pairs goal) middle x y is inserted refused in
          record { derived = k.0; differ = k.1 }
      refused_is Memory h = tt

      pub fault_is : (fault : StartFault) → AssumeFaultOfAll lets (map assumed_pair goal.assumes) middle fault → StartFaultIs goal fault
      fault_is fault h = refused_is fault (fault_closed fault h)
