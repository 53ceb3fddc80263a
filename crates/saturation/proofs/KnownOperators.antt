-- Rounds make no operator that the goal and its axioms don't have, but for those that need no declaration.
use Rattle.std.proofs.Common.{◌≡◌, ℕ, zero, suc, ◌+◌, ◌<◌, ◌^◌, Bool, true, false, ◌&&◌, Option, Some, None, List, [], ◌∷◌, ◌++◌, length, map, refl, sym, subst, inl, inr, arith, All, Contains}
use Rattle.std.specs.List.{list_all, flat_map, range_with_len}
use Rattle.std.specs.Prelude.{IfSome}
use Rattle.std.proofs.lemmas.Bool.{cases_lt}
use Rattle.std.proofs.lemmas.List.{get_or_past, map-append}
use Rattle.std.proofs.lemmas.List.Elements.{All-nil, All-cons, All-head, All-tail, All-append, All-map, All-weaker, All-contains, All-get_or, All-contains_itself, Contains-append_left, Contains-append_right, Contains-append_cases}
use Rattle.word_ops.specs.Operators.{operators}
use Rattle.word_ops.specs.declared.sorts.Arity.{Arity}
use Rattle.word_ops.specs.declared.sorts.Sort.{Sort}
use Rattle.word_ops.specs.declared.sorts.Sort.TheVariants as sorts
use Rattle.word_ops.specs.declared.sorts.Op.{Op}
use Rattle.word_ops.specs.declared.sorts.Op.TheVariants.{Entry, Input, Constant, Word, Select, Store, Load, Put, Declared}
use Rattle.word_terms.specs.Keys.{op_signature}
use Rattle.word_terms.specs.OperatorsIn.{EachOperator, EachOperatorOfAll}
use Rattle.word_terms.specs.Sorting.{HasSort, HaveSorts, Occurs, OccursInOne}
use Rattle.word_terms.specs.Tree.{Tree, Trees, variable, application, none, more, put_in, substituted, each_substituted}
use Rattle.axiom_base.specs.Rewrites.{Rewrite, IsRule, IsUsable}
use Rattle.axiom_base.specs.Equations.{equations}
use Rattle.axiom_base.specs.Computed.{calc_right}
use Rattle.axiom_base.specs.Schemes.{AddedRules, Scheme, IsOf, IsRuleOf, schemes, calc_kinds, plain, computed, folding, itself, calculated, folded}
use Rattle.axiom_base.specs.declared.kinds.Calc.{Calc}
use Rattle.axiom_base.specs.declared.kinds.Calc.TheVariants.{C1}
use Rattle.axiom_base.specs.declared.kinds.Given.{Given}
use Rattle.axiom_library.specs.Asked.{asked_axioms, asked_equations, equations_of}
use Rattle.axiom_library.specs.Libraries.{families_of}
use Rattle.axiom_library.specs.declared.families.Family.{Family}
use Rattle.axiom_library.specs.declared.families.Family.TheVariants as families
use Rattle.axiom_library.specs.declared.libraries.Library.{Library}
use Rattle.egraph.specs.Graph.{Graph, IsGraph, HasClass}
use Rattle.egraph.specs.declared.rows.Row.{Row}
use Rattle.pattern_match.specs.Classes.{IsClass, AreClasses, at_row, no_classes, classes}
use Rattle.goal_meaning.specs.Expanded.{expanded, let_terms}
use Rattle.goal_meaning.specs.Views.{TwoTrees, TargetTree, GoalTree, AxiomTree, InputTree}
use Rattle.goal_meaning.specs.WellFormed.{IsInput, IsGoal, IsAxiom, IsAssume, IsTarget, IsTermOver, IsOfGoal, IsOfAxiom, IsDeclared}
use Rattle.goal_meaning.specs.WellFormed.{input_registers, let_sorts}
use Rattle.goal_meaning.specs.declared.goals.InputReg.{InputReg}
use Rattle.goal_meaning.specs.declared.goals.DeclaredOp.{DeclaredOp}
use Rattle.saturation.specs.Derives.{Derives, DerivesEach, Pair, IsAmong, first, rest, given, assumed, symmetric, transitive, later, operand, congruent, by_rule, no_operands, operands}
use Rattle.saturation.specs.GoalTerms.{entry_term, input_term, input_terms, guard_terms, set_terms, sides_of, assume_terms, kept_terms, present_terms, assumed_pair, assumed_pairs, renumbered, rule_of, rules_of, variables_below}
use Rattle.saturation.specs.Grown.{IsGrown, AreInhabited}
use Rattle.saturation.specs.Launched.{IsKnown, CanMakeLaunchGraph}
use Rattle.saturation.proofs.Closed.{Closed, IsClosed, closed_lets}
use Rattle.saturation.proofs.LaunchedGraphs.{all_left, all_of_map}

-- ---- operators of trees

mutual
  each_weaker : (P Q : Op → Type 0) → ((op : Op) → P op → Q op) → (t : Tree Op) → EachOperator P t → EachOperator Q t
  each_weaker P Q h (variable n) k = tt
  each_weaker P Q h (application op ts) k = (h op k.0, each_weaker_all P Q h ts k.1)

  each_weaker_all : (P Q : Op → Type 0) → ((op : Op) → P op → Q op) → (ts : Trees Op) → EachOperatorOfAll P ts → EachOperatorOfAll Q ts
  each_weaker_all P Q h none k = tt
  each_weaker_all P Q h (more t ts) k = (each_weaker P Q h t k.0, each_weaker_all P Q h ts k.1)

module _ (P : Op → Type 0) where
  -- of one operand
  of_operand : (t : Tree Op) (ts : Trees Op) → IsAmong t ts → EachOperatorOfAll P ts → EachOperator P t
  of_operand t _ first k = k.0
  of_operand t _ (rest {ts = ts} h) k = of_operand t ts h k.1

  mutual
    -- what is put in for variables that stand in the tree
    put_has : (trees : List (Tree Op)) (t : Tree Op) (n : ℕ) → Occurs n t → EachOperator P (substituted trees t) → EachOperator P (put_in trees n)
    put_has trees (variable m) n e k = subst (λ i. EachOperator P (put_in trees i)) (sym e) k
    put_has trees (application op ts) n e k = puts_have trees ts n e k.1

    puts_have : (trees : List (Tree Op)) (ts : Trees Op) (n : ℕ) → OccursInOne n ts → EachOperatorOfAll P (each_substituted trees ts) → EachOperator P (put_in trees n)
    puts_have trees none n e k = absurd e
    puts_have trees (more t ts) n (inl e) k = put_has trees t n e k.0
    puts_have trees (more t ts) n (inr e) k = puts_have trees ts n e k.1

  mutual
    substituted_has : (trees : List (Tree Op)) (t : Tree Op) → EachOperator P t → ((n : ℕ) → Occurs n t → EachOperator P (put_in trees n)) → EachOperator P (substituted trees t)
    substituted_has trees (variable n) k h = h n refl
    substituted_has trees (application op ts) k h = (k.0, substituted_have trees ts k.1 h)

    substituted_have : (trees : List (Tree Op)) (ts : Trees Op) → EachOperatorOfAll P ts → ((n : ℕ) → OccursInOne n ts → EachOperator P (put_in trees n)) → EachOperatorOfAll P (each_substituted trees ts)
    substituted_have trees none k h = tt
    substituted_have trees (more t ts) k h = (substituted_has trees t k.0 (λ n e. h n (inl e)), substituted_have trees ts k.1 (λ n e. h n (inr e)))

  variables_put : (trees : List (Tree Op)) → All (EachOperator P) trees → (n : ℕ) → EachOperator P (put_in trees n)
  variables_put trees h n = elim (cases_lt n (length trees)) [
    | inl l ↦ All-get_or (EachOperator P) trees n (variable n) l h
    | inr l ↦ subst (EachOperator P) (sym (get_or_past trees n (variable n) l)) tt
  ]

mutual
  occurs_below : (variables : List Sort) (sort : Sort) (t : Tree Op) (n : ℕ) → HasSort op_signature variables sort t → Occurs n t → n < length variables
  occurs_below variables sort (variable m) n h e = subst (λ i. i < length variables) (sym e) h.0
  occurs_below variables sort (application op ts) n h e = one_below variables op 0 ts n h.3 e

  one_below : (variables : List Sort) (op : Op) (at : ℕ) (ts : Trees Op) (n : ℕ) → HaveSorts op_signature variables op at ts → OccursInOne n ts → n < length variables
  one_below variables op at none n h e = absurd e
  one_below variables op at (more t ts) n h (inl e) = occurs_below variables (op_signature.operand_sort op at) t n h.0 e
  one_below variables op at (more t ts) n h (inr e) = one_below variables op (at + 1) ts n h.1 e

-- ---- operators that every text has

abbrev is_common : Op → Bool
is_common (Input register) = false
is_common (Declared index arity) = false
is_common op = true

abbrev mutual
  all_common : Tree Op → Bool
  all_common (variable n) = true
  all_common (application op ts) = is_common op && each_common ts

  each_common : Trees Op → Bool
  each_common none = true
  each_common (more t ts) = all_common t && each_common ts

both : (a b : Bool) → a && b ≡ true → (a ≡ true) × (b ≡ true)
both true b e = (refl, e)
both false b e = absurd (let k : false ≡ true = e in cc)

abbrev right_common : Rewrite → Bool
right_common r = all_common r.right

all_equations : list_all right_common equations ≡ true
all_equations = refl

all_by_test : {X : Type 0} (test : X → Bool) (xs : List X) → list_all test xs ≡ true → All (λ x. test x ≡ true) xs
all_by_test test [] e = All-nil (λ x. test x ≡ true)
all_by_test test (x ∷ xs) e = let p = both (test x) (list_all test xs) e in All-cons (λ x. test x ≡ true) x xs p.0 (all_by_test test xs p.1)

library_common : (family : Family) → list_all right_common (equations_of family) ≡ true
library_common families.Unaligned = refl
library_common _ = refl

all_flat_map : {X Y : Type 0} (P : Y → Type 0) (f : X → List Y) (xs : List X) → ((x : X) → All P (f x)) → All P (flat_map f xs)
all_flat_map P f [] h = All-nil P
all_flat_map P f (x ∷ xs) h = All-append P (f x) (flat_map f xs) (h x) (all_flat_map P f xs h)

calc_common : (kind : Calc) (constants : Given) → all_common (calc_right kind constants) ≡ true
calc_common C1 constants = refl
calc_common _ constants = refl

module _ (declared : List DeclaredOp) where
  known_common : (op : Op) → is_common op ≡ true → IsKnown declared op
  known_common Entry e = tt
  known_common (Input r) e = absurd (cc)
  known_common (Constant c) e = tt
  known_common (Word op) e = tt
  known_common (Select access) e = tt
  known_common (Store access) e = tt
  known_common (Load access) e = tt
  known_common (Put access) e = tt
  known_common (Declared i a) e = absurd (cc)

  abbrev pub HasKnown : Tree Op → Type 0
  HasKnown t = EachOperator (IsKnown declared) t

  mutual
    common_known : (t : Tree Op) → all_common t ≡ true → HasKnown t
    common_known (variable n) e = tt
    common_known (application op ts) e = let p = both (is_common op) (each_common ts) e in (known_common op p.0, commons_known ts p.1)

    commons_known : (ts : Trees Op) → each_common ts ≡ true → EachOperatorOfAll (IsKnown declared) ts
    commons_known none e = tt
    commons_known (more t ts) e = let p = both (all_common t) (each_common ts) e in (common_known t p.0, commons_known ts p.1)

  -- ---- operators of a goal and of an axiom

  goal_known : (inputs : List InputReg) → All (λ r. r < 31) (input_registers inputs) → (op : Op) → IsOfGoal declared inputs op → IsKnown declared op
  goal_known inputs low Entry k = tt
  goal_known inputs low (Input r) k = All-contains (λ r. r < 31) (input_registers inputs) r low k
  goal_known inputs low (Constant c) k = tt
  goal_known inputs low (Word op) k = tt
  goal_known inputs low (Select access) k = tt
  goal_known inputs low (Store access) k = tt
  goal_known inputs low (Load access) k = tt
  goal_known inputs low (Put access) k = tt
  goal_known inputs low (Declared i a) k = k

  axiom_known : (others : List DeclaredOp) → ((index : ℕ) (arity : Arity) → IsDeclared others index arity → IsDeclared declared index arity) → (op : Op) → IsOfAxiom others op → IsKnown declared op
  axiom_known others h Entry k = absurd k
  axiom_known others h (Input r) k = absurd k
  axiom_known others h (Constant c) k = tt
  axiom_known others h (Word op) k = tt
  axiom_known others h (Select access) k = tt
  axiom_known others h (Store access) k = tt
  axiom_known others h (Load access) k = tt
  axiom_known others h (Put access) k = tt
  axiom_known others h (Declared i a) k = h i a k

  -- ---- rules

  renumbered_known : (a : AxiomTree) (t : Tree Op) → HasKnown t → HasKnown (renumbered a t)
  renumbered_known a t k =
      substituted_has (IsKnown declared) (map (λ n. variable (length (variables_below a n))) (range_with_len 0 (length a.variables))) t k
      (λ n e. variables_put (IsKnown declared) (map (λ n. variable (length (variables_below a n))) (range_with_len 0 (length a.variables)))
      (All-map HasKnown (λ n. variable (length (variables_below a n))) (range_with_len 0 (length a.variables)) (λ k d l. tt)) n)

  abbrev PlainKnown : Scheme → Type 0
  PlainKnown (plain r) = HasKnown r.right
  PlainKnown (computed kind) = Unit {0}
  PlainKnown (folding op) = Unit {0}

  abbrev RightKnown : Rewrite → Type 0
  RightKnown r = HasKnown r.right

  equations_known : All RightKnown equations
  equations_known = All-weaker (λ r. right_common r ≡ true) RightKnown (λ r e. common_known r.right e) equations (all_by_test right_common equations all_equations)

  axioms_known : (others : List DeclaredOp) → ((index : ℕ) (arity : Arity) → IsDeclared others index arity → IsDeclared declared index arity) → (axioms : List AxiomTree) → All (IsAxiom others) axioms → All RightKnown (map rule_of axioms)
  axioms_known others h axioms are =
      All-map RightKnown rule_of axioms
      (All-weaker (IsAxiom others) (λ a. RightKnown (rule_of a)) (λ a is. renumbered_known a a.right (each_weaker (IsOfAxiom others) (IsKnown declared) (axiom_known others h) a.right is.right_operators)) axioms are)

  of_library_known : (library : Library) → All RightKnown (asked_equations library)
  of_library_known library = all_flat_map RightKnown equations_of (families_of library) (λ family. All-weaker (λ r. right_common r ≡ true) RightKnown (λ r e. common_known r.right e) (equations_of family) (all_by_test right_common (equations_of family) (library_common family)))

  -- what a library asks for names no operator that is declared
  added_known : (library : Library) (axioms : List AxiomTree) → All (IsAxiom declared) axioms → All (IsAxiom []) (asked_axioms library) → All RightKnown (map rule_of (axioms ++ asked_axioms library) ++ asked_equations library)
  added_known library axioms are asked =
      All-append RightKnown (map rule_of (axioms ++ asked_axioms library)) (asked_equations library)
      (subst (All RightKnown) (sym (map-append rule_of axioms (asked_axioms library)))
      (All-append RightKnown (map rule_of axioms) (map rule_of (asked_axioms library))
      (axioms_known declared (λ i a k. k) axioms are)
      (axioms_known [] (λ i a k. (let b = k.below in absurd (omega (arith, b)))) (asked_axioms library) asked)))
      (of_library_known library)

  schemes_known : (added : AddedRules) → All RightKnown added.axioms → All PlainKnown (schemes added)
  schemes_known added are =
      let axioms = added.axioms in
      let kinds = calc_kinds ++ added.kinds in
      All-append PlainKnown (map plain equations ++ map plain axioms ++ map computed kinds) (map folding operators)
      (All-append PlainKnown (map plain equations ++ map plain axioms) (map computed kinds)
      (All-append PlainKnown (map plain equations) (map plain axioms)
      (All-map PlainKnown plain equations equations_known)
      (All-map PlainKnown plain axioms are))
      (All-map PlainKnown computed kinds (λ k d l. tt)))
      (All-map PlainKnown folding operators (λ k d l. tt))

  scheme_known : (added : AddedRules) → All RightKnown added.axioms → (s : Scheme) → Contains (schemes added) s → (r : Rewrite) → IsOf s r → HasKnown r.right
  scheme_known added are (plain r) h _ (itself _) = All-contains PlainKnown (schemes added) (plain r) (schemes_known added are) h
  scheme_known added are (computed kind) h _ (calculated _ cs constants _) = common_known (calc_right kind constants) (calc_common kind constants)
  scheme_known added are (folding op) h _ (folded _ cs _ _) = (tt, tt)

  rule_known : (added : AddedRules) → All RightKnown added.axioms → (r : Rewrite) → IsRuleOf added r → HasKnown r.right
  rule_known added are r is = scheme_known added are is.scheme is.there r is.of

  -- ---- what is derived

  module _ (added : AddedRules) (are : All RightKnown added.axioms) (usable : (r : Rewrite) → IsRuleOf added r → IsUsable r)
      (present : List (Tree Op)) (present_known : All HasKnown present) (equal : List Pair) (equal_known : All (λ (p : Pair). HasKnown p.0 × HasKnown p.1) equal) where
    right_known : (r : Rewrite) (values : List (Tree Op)) → IsRuleOf added r → HasKnown (substituted values r.left) → HasKnown (substituted values r.right)
    right_known r values is known =
        let use_of = usable r is in
        substituted_has (IsKnown declared) values r.right (rule_known added are r is)
        (λ n e. put_has (IsKnown declared) values r.left n (use_of.all n (occurs_below r.variables use_of.sort r.right n use_of.right e)) known)

    mutual
      derived_known : {j : ℕ} {t u : Tree Op} → Derives added present equal j t u → HasKnown t × HasKnown u
      derived_known (given t h) = let k = All-contains HasKnown present t present_known h in (k, k)
      derived_known (assumed t u h) = All-contains (λ (p : Pair). HasKnown p.0 × HasKnown p.1) equal (t, u) equal_known h
      derived_known (symmetric d) = let k = derived_known d in (k.1, k.0)
      derived_known (transitive d e) = ((derived_known d).0, (derived_known e).1)
      derived_known (later d) = derived_known d
      derived_known (operand {ts = ts} t among d) = let k = of_operand (IsKnown declared) t ts among (derived_known d).0.1 in (k, k)
      derived_known (congruent d each) = let k = (derived_known d).0 in (k, (k.0, (deriveds_known each).1))
      derived_known (by_rule r values is d constants) = let k = (derived_known d).0 in (k, right_known r values is k)

      deriveds_known : {j : ℕ} {ts us : Trees Op} → DerivesEach added present equal j ts us → EachOperatorOfAll (IsKnown declared) ts × EachOperatorOfAll (IsKnown declared) us
      deriveds_known no_operands = (tt, tt)
      deriveds_known (operands d each) =
          let k = derived_known d in
          let l = deriveds_known each in
          ((k.0, l.0), (k.1, l.1))

  -- ---- the terms of a goal

  all_flat : {X Y : Type 0} (P : Y → Type 0) (f : X → List Y) (xs : List X) → All (λ x. All P (f x)) xs → All P (flat_map f xs)
  all_flat P f [] h = All-nil P
  all_flat P f (x ∷ xs) h = All-append P (f x) (flat_map f xs) (All-head (λ x. All P (f x)) x xs h) (all_flat P f xs (All-tail (λ x. All P (f x)) x xs h))

  module _ (goal : GoalTree) (is : IsGoal declared goal) (closed : Closed declared goal) where
    low : All (λ r. r < 31) (input_registers goal.inputs)
    low = all_left (λ r. r < 31) (input_registers goal.inputs) goal.pool is.rules.low

    term_known : (sort : Sort) (t : Tree Op) → IsTermOver declared goal.inputs [] sort t → HasKnown t
    term_known sort t k = each_weaker (IsOfGoal declared goal.inputs) (IsKnown declared) (goal_known goal.inputs low) t k.operators

    inputs_known : All HasKnown (input_terms goal.inputs)
    inputs_known = All-map HasKnown (λ (i : InputReg). input_term i.reg) goal.inputs
        (All-weaker (λ (i : InputReg). i.reg < 31) (λ (i : InputReg). HasKnown (input_term i.reg)) (λ i l. (l, tt)) goal.inputs (all_of_map (λ r. r < 31) (λ (i : InputReg). i.reg) goal.inputs low))

    lets_known : All HasKnown (let_terms goal)
    lets_known = All-weaker (IsClosed declared goal) HasKnown (λ t h. term_known h.sort t h.is) (let_terms goal) (closed_lets declared goal (let_sorts goal) (let_terms goal) closed.lets)

    guard_known : (o : Option (Tree Op)) → IfSome o (IsTermOver declared goal.inputs [] sorts.Word) → All HasKnown (guard_terms o)
    guard_known None h = All-nil HasKnown
    guard_known (Some t) h = All-cons HasKnown t [] (term_known sorts.Word t h) (All-nil HasKnown)

    sets_known : All HasKnown (set_terms (expanded goal).sets)
    sets_known = All-map HasKnown (λ (s : TargetTree). s.value) (expanded goal).sets (All-weaker (IsTarget declared (expanded goal)) (λ s. HasKnown s.value) (λ s k. term_known _ s.value k) (expanded goal).sets closed.sets)

    sides_known : (a : TwoTrees) → IsAssume declared (expanded goal) a → HasKnown a.left × HasKnown a.right
    sides_known a k = (term_known k.sort a.left k.left, term_known k.sort a.right k.right)

    assumes_known : All HasKnown (assume_terms (expanded goal).assumes)
    assumes_known = all_flat HasKnown sides_of (expanded goal).assumes
        (All-weaker (IsAssume declared (expanded goal)) (λ a. All HasKnown (sides_of a)) (λ a k. let p = sides_known a k in All-cons HasKnown a.left (a.right ∷ []) p.0 (All-cons HasKnown a.right [] p.1 (All-nil HasKnown))) (expanded goal).assumes closed.assumes)

    pub present_known : All HasKnown (present_terms goal)
    present_known =
        let first = entry_term ∷ input_terms goal.inputs in
        All-append HasKnown (first ++ let_terms goal ++ assume_terms (expanded goal).assumes ++ guard_terms (expanded goal).guard) (set_terms (expanded goal).sets)
        (All-append HasKnown (first ++ let_terms goal ++ assume_terms (expanded goal).assumes) (guard_terms (expanded goal).guard)
        (All-append HasKnown (first ++ let_terms goal) (assume_terms (expanded goal).assumes)
        (All-append HasKnown first (let_terms goal)
        (All-cons HasKnown entry_term (input_terms goal.inputs) (tt, tt) inputs_known)
        lets_known)
        assumes_known)
        (guard_known (expanded goal).guard closed.guard))
        sets_known

    pub equal_known : All (λ (p : Pair). HasKnown p.0 × HasKnown p.1) (assumed_pairs goal)
    equal_known = All-map (λ (p : Pair). HasKnown p.0 × HasKnown p.1) assumed_pair (expanded goal).assumes (All-weaker (IsAssume declared (expanded goal)) (λ a. HasKnown a.left × HasKnown a.right) sides_known (expanded goal).assumes closed.assumes)

    pub kept_present : (t : Tree Op) → Contains (kept_terms goal) t → Contains (present_terms goal) t
    kept_present t h =
        let A = (entry_term ∷ input_terms goal.inputs) ++ let_terms goal in
        let B = assume_terms (expanded goal).assumes in
        let C = guard_terms (expanded goal).guard in
        let D = set_terms (expanded goal).sets in
        elim (Contains-append_cases (A ++ C) D t h) [
          | inl k ↦ Contains-append_left (A ++ B ++ C) D t (elim (Contains-append_cases A C t k) [
            | inl l ↦ Contains-append_left (A ++ B) C t (Contains-append_left A B t l)
            | inr l ↦ Contains-append_right (A ++ B) C t l
          ])
          | inr k ↦ Contains-append_right (A ++ B ++ C) D t k
        ]

-- ---- graphs

-- classes of the graph are those of terms
classes_inhabited : (g : Graph Op) → AreInhabited g → (cs : List ℕ) → All (HasClass g) cs → (ts : Trees Op) × AreClasses g [] ts cs
classes_inhabited g inhabited [] h = (none, no_classes)
classes_inhabited g inhabited (c ∷ cs) h =
    let t = inhabited c (All-head (HasClass g) c cs h) in
    let ts = classes_inhabited g inhabited cs (All-tail (HasClass g) c cs h) in
    (more t.0 ts.0, classes t.1 ts.1)

later_all : (added : AddedRules) (present : List (Tree Op)) (equal : List Pair) (j : ℕ) (t u : Tree Op) → Derives added present equal 0 t u → Derives added present equal j t u
later_all added present equal zero t u d = d
later_all added present equal (suc j) t u d = let e : j + 1 ≡ suc j = omega arith in subst (λ n. Derives added present equal n t u) e (later (later_all added present equal j t u d))

pub can_be_launched : (library : Library) (input : InputTree) (goal : GoalTree) (graph : Graph Op) (j : ℕ) → ((added : AddedRules) (r : Rewrite) → All IsRule added.axioms → IsRuleOf added r → IsUsable r) → All IsRule (rules_of library input).axioms → All (IsAxiom []) (asked_axioms library) → (IsGoal input.ops goal → Closed input.ops goal) → IsInput input → Contains input.goals goal → IsGraph op_signature graph → length graph.rows < 2 ^ 30 → IsGrown (rules_of library input) (present_terms goal) (assumed_pairs goal) graph j → CanMakeLaunchGraph input.ops goal graph
can_be_launched library input goal graph j usable rules asked law is given_goal is_graph few grown =
    let goal_is = All-contains (IsGoal input.ops) input.goals goal is.goals given_goal in
    let closed = law goal_is in
    record {
      graph_is = is_graph;
      few = few;
      operators = All-weaker (Contains graph.rows) (λ (r : Row Op). IsKnown input.ops r.op)
          (λ r h.
          let ts = classes_inhabited graph grown.inhabited r.operands (All-contains (λ (t : Row Op). All (HasClass graph) t.operands) graph.rows r is_graph.operands h) in
          let term = application r.op ts.0 in
          let class : IsClass graph [] term r.class = at_row ts.1 h in
          let derived = (grown.exact term term).0 (record { class = r.class; first = class; second = class }) in
          (derived_known input.ops (rules_of library input) (added_known input.ops library input.axioms is.axioms asked) (λ q rule. usable (rules_of library input) q rules rule) (present_terms goal) (present_known input.ops goal goal_is closed) (assumed_pairs goal) (equal_known input.ops goal goal_is closed) derived).0.0)
          graph.rows (All-contains_itself graph.rows);
      classes = λ t h.
          let has = (grown.exact t t).1 (later_all (rules_of library input) (present_terms goal) (assumed_pairs goal) j t t (given t (kept_present input.ops goal goal_is closed t h))) in
          (has.class, has.first);
    }
