-- What a text writes is well formed.
use Rattle.std.proofs.Common.{◌≡◌, ℕ, zero, suc, ◌+◌, ◌<◌, ◌^◌, ◌++◌, if◌then◌else◌, Bool, true, false, Option, Some, List, [], ◌∷◌, map, length, get_or, replicate, refl, sym, ap, ◌∙◌, subst, arith, bytes_eq, codes}
use Rattle.std.specs.Prelude.{All, Contains, IfSome}
use Rattle.std.proofs.lemmas.List.{append-nil, get_or-replicate, length-replicate}
use Rattle.std.proofs.lemmas.List.Elements.{All-nil, All-cons}
use Rattle.forms.specs.Forms.{Form, atom, list, name, forms_from, is_list}
use Rattle.forms.specs.Printing.{CanPrint, plain_of}
use Rattle.machine_table.specs.Grammar.{Each, more_of}
use Rattle.machine_table.specs.Grammar as grammar
use Rattle.machine_table.specs.Tables.{IsTable, ev6}
use Rattle.machine_table.specs.declared.tables.Table.{Table}
use Rattle.word_ops.specs.declared.sorts.Op.{Op}
use Rattle.word_ops.specs.declared.sorts.Sort.{Sort}
use Rattle.word_ops.specs.declared.sorts.Sort.TheVariants as sorts
use Rattle.word_terms.specs.Sorting.{IsApplication, sort_at}
use Rattle.word_terms.specs.Tree.{Tree}
use Rattle.goal_meaning.specs.declared.goals.DeclaredOp.{DeclaredOp}
use Rattle.goal_meaning.specs.declared.goals.InputReg.{InputReg}
use Rattle.goal_meaning.specs.Expanded.{let_values}
use Rattle.goal_reader.specs.declared.scopes.Leaf.{Leaf}
use Rattle.goal_reader.specs.declared.scopes.Named.TheVariants.{Memory, Input, Variable, Let}
use Rattle.goal_reader.specs.declared.scopes.Scope.{Scope}
use Rattle.goal_reader.specs.Grammar.{WritesLets, no_lets, one_let, sorted_from, scope_of_goal, WritesAssume, WritesGuard, WritesTarget, WritesGoal, WritesAxiom, WritesMachine, WritesText, axiom_scope, unguarded, guarded, built_in, own}
use Rattle.goal_meaning.specs.Names.{IsNamedInput}
use Rattle.goal_meaning.specs.InputForms.{input_plains}
use Rattle.goal_meaning.specs.WellFormed.{input_registers, AreLets, IsTermOver, IsOfAxiom, IsOfGoal, IsOperation, IsAxiom, IsGoalTerm, IsAssume, IsTarget, IsGoal, IsInput, axiom_sorts, operators_of_axiom, operators_of_goal, operators_of_input}
use Rattle.goal_reader.specs.Roles.{goal_scope, let_scope, rank_from}
use Rattle.goal_reader.specs.Scopes.{SortedName, leaf_named, sorts_of_names}
use Rattle.goal_reader.specs.Terms.{Writes, memory, input, variable, binding, constant, application}
use Rattle.goal_meaning.specs.Views.{LetTree, TwoTrees, TargetTree, GoalTree, AxiomTree, InputTree}
use Rattle.goal_reader.proofs.AxiomForms.{left_told}
use Rattle.goal_reader.proofs.Fitting.{Fits, FitAll, fit_head, fit_tail, front_fits, back_fits, parts_fit, axiom_fits, goal_fits}
use Rattle.goal_reader.proofs.LetForms.{in_goal, input_leaf, leaves_of, let_variables, sort_is}
use Rattle.goal_reader.proofs.LetScopes.{sorts_from, sorts_more}
use Rattle.goal_reader.proofs.WellSorted.{NamesVariables, Means, is_sorted, each_operator, of_operator, no_constant}
use Rattle.goal_reader.proofs.WrittenSizes.{at_most_all}

-- what holds of what each form writes
each_keeps : {Y : Type 0} (n : ℕ) (W : Form → Y → Type 0) (P : Y → Type 0) → ((f : Form) (y : Y) → W f y → Fits n (plain_of f) → P y) → (fs : List Form) (ys : List Y) → Each W fs ys → FitAll n (map plain_of fs) → All P ys
each_keeps n W P step _ _ grammar.none all = All-nil P
each_keeps n W P step _ _ (more_of {form = f} {forms = fs} {y = y} {ys = ys} one others) all =
    All-cons P y ys (step f y one (fit_head n (plain_of f) (map plain_of fs) all)) (each_keeps n W P step fs ys others (fit_tail n (plain_of f) (map plain_of fs) all))

-- ---- axioms
rank_below : (n k : ℕ) (names : List (List ℕ)) (w : List ℕ) → rank_from n names w ≡ Some k → k < n + length names
rank_below n k [] w e = cc
rank_below n k (m ∷ names) w e = by_test (bytes_eq m w) e (rank_below (n + 1) k names w)
  where
    by_test : (b : Bool) → (if b then Some n else rank_from (n + 1) names w) ≡ Some k → (rank_from (n + 1) names w ≡ Some k → k < (n + 1) + length names) → k < n + length (m ∷ names)
    by_test true f later = let same : n ≡ k = cc in omega (arith, same)
    by_test false f later = let low = later f in omega (arith, low)

variable_is : (m n : ℕ) → Variable m ≡ Variable n → m ≡ n
variable_is m n e = cc

no_memory : (k : ℕ) → Memory ≡ Variable k → ⊥
no_memory k e = cc

no_let : (n : ℕ) (s : Sort) (k : ℕ) → Let n s ≡ Variable k → ⊥
no_let n s k e = cc

no_input : (r k : ℕ) → Input r ≡ Variable k → ⊥
no_input r k e = cc

module _ (declared : List DeclaredOp) (names : List (List ℕ)) where
  abbrev variables : List Sort
  variables = replicate (length names) sorts.Word

  axiom_words : (bytes : List ℕ) (n : ℕ) → leaf_named (axiom_scope declared names).leaves bytes ≡ Some (Variable n) → (n < length variables) × (sort_at variables n ≡ sorts.Word)
  axiom_words bytes n l =
      let told = left_told declared names (atom 0 (name bytes)) bytes (Variable n) l in
      let low = rank_below 0 told.0 names bytes told.1 in
      let same = variable_is n told.0 told.2 in
      let below : n < length names = omega (arith, low, same) in
      (omega (arith, below, length-replicate (length names) sorts.Word), get_or-replicate (length names) n sorts.Word sorts.Word below)

  axiom_variables : NamesVariables (axiom_scope declared names) variables
  axiom_variables = record {
    words = axiom_words;
    lets = λ bytes n s l. let told = left_told declared names (atom 0 (name bytes)) bytes (Let n s) l in absurd (no_let n s told.0 told.2);
  }

  axiom_means : Means (axiom_scope declared names) (IsOfAxiom declared)
  axiom_means = record {
    memory_is = λ bytes l. let told = left_told declared names (atom 0 (name bytes)) bytes Memory l in absurd (no_memory told.0 told.2);
    input_is = λ bytes r l. let told = left_told declared names (atom 0 (name bytes)) bytes (Input r) l in absurd (no_input r told.0 told.2);
    constant_is = λ n. tt;
    operator_is = λ bytes op e. of_operator declared (IsOfAxiom declared) (λ w t. t) (λ access. tt) (λ access. tt) (λ index arity is. is) bytes op e;
  }

operation_of : (scope : Scope) {sort : Sort} {f : Form} {t : Tree Op} → Writes scope sort f t → is_list f ≡ true → IsApplication t × IsOperation t
operation_of scope (memory l) e = cc
operation_of scope (input l) e = cc
operation_of scope (variable l) e = cc
operation_of scope (binding l) e = cc
operation_of scope constant e = cc
operation_of scope (application {bytes = bytes} {op = op} k s n each) e = (tt, no_constant scope.declared bytes op k)

axiom_keeps : (declared : List DeclaredOp) (f : Form) (a : AxiomTree) → WritesAxiom declared f a → Fits 64 (plain_of f) → operators_of_axiom a < 2 ^ 29 → IsAxiom declared a
axiom_keeps declared f a w fits few =
    let scope = axiom_scope declared a.variables in
    let parts = (parts_fit 63 (codes "axiom") (list w.place (forms_from w.names) ∷ w.left_form ∷ w.right_form ∷ []) f w.is fits).0 in
    let operation = operation_of scope w.left w.application in
    let sorted = axiom_variables declared a.variables in
    let means = axiom_means declared a.variables in
    record {
      named = (axiom_fits 64 declared f a w fits).1;
      some = w.some;
      differ = w.differ;
      own = w.own;
      left = is_sorted scope (axiom_sorts a) sorted w.left parts.1.0;
      right = is_sorted scope (axiom_sorts a) sorted w.right parts.1.1.0;
      left_operators = each_operator scope (IsOfAxiom declared) means w.left;
      right_operators = each_operator scope (IsOfAxiom declared) means w.right;
      application = operation.0;
      operation = operation.1;
      bound = w.bound;
      few = few;
    }

-- ---- goals
no_input_let : (r n : ℕ) (s : Sort) → Input r ≡ Let n s → ⊥
no_input_let r n s e = cc

register_is : (r s : ℕ) → Input r ≡ Input s → r ≡ s
register_is r s e = cc

abbrev scope_with : List DeclaredOp → List Leaf → Scope
scope_with declared leaves = record { declared = declared; leaves = leaves }

module _ (declared : List DeclaredOp) (inputs : List InputReg) where
  input_of : (bytes : List ℕ) (r : ℕ) → leaf_named (goal_scope declared inputs).leaves bytes ≡ Some (Input r) → Contains (input_registers inputs) r
  input_of bytes r l = by_test (bytes_eq (codes "M") bytes) l
    where
      by_test : (b : Bool) → (if b then Some Memory else leaf_named (leaves_of inputs) bytes) ≡ Some (Input r) → Contains (input_registers inputs) r
      by_test true e = cc
      by_test false e =
          let leaf = input_leaf inputs bytes (Input r) e in
          let same = register_is r leaf.1.reg leaf.4 in
          (leaf.0, leaf.2, at_any leaf.0 (input_registers inputs) leaf.2 ∙ leaf.3 ∙ sym same)
        where
          at_any : (k : ℕ) (xs : List ℕ) → k < length xs → get_or xs k r ≡ get_or xs k 0
          at_any k [] h = omega (arith, h)
          at_any zero (x ∷ xs) h = refl
          at_any (suc k) (x ∷ xs) h = at_any k xs (omega (arith, h))

  goal_means : (lets : List SortedName) → Means (let_scope declared inputs lets) (IsOfGoal declared inputs)
  goal_means lets = record {
    memory_is = λ bytes l. tt;
    input_is = λ bytes r l. input_of bytes r (in_goal declared inputs lets bytes (Input r) (no_input_let r) l);
    constant_is = λ n. tt;
    operator_is = λ bytes op e. of_operator declared (IsOfGoal declared inputs) (λ w t. t) (λ access. tt) (λ access. tt) (λ index arity is. is) bytes op e;
  }

  -- a term that is written over lets is one over their sorts
  over_lets : (lets : List SortedName) {sort : Sort} {f : Form} {t : Tree Op} → Writes (let_scope declared inputs lets) sort f t → CanPrint (plain_of f) → IsTermOver declared inputs (sorts_of_names lets) sort t
  over_lets lets w p = record {
    sorted = is_sorted (let_scope declared inputs lets) (sorts_of_names lets) (let_variables declared inputs lets) w p;
    operators = each_operator (let_scope declared inputs lets) (IsOfGoal declared inputs) (goal_means lets) w;
  }

  -- and without lets one over no sorts
  pub term_keeps : {sort : Sort} {f : Form} {t : Tree Op} → Writes (goal_scope declared inputs) sort f t → CanPrint (plain_of f) → IsTermOver declared inputs [] sort t
  term_keeps {sort} {f} {t} w p =
      over_lets [] (subst (λ (s : Scope). Writes s sort f t) (ap (λ ls. scope_with declared ls) (sym (append-nil (goal_scope declared inputs).leaves))) w) p

  lets_keep : {before : List SortedName} {fs : List Form} {ls : List LetTree} → WritesLets declared inputs before fs ls → FitAll 63 (map plain_of fs) → AreLets declared inputs (sorts_of_names before) (let_values ls)
  lets_keep no_lets all = tt
  lets_keep (one_let {before = before} {form = f} {forms = fs} {one = l} {others = ls} one others) all =
      let parts = (parts_fit 62 (codes "let") (one.first ∷ one.second ∷ []) f one.is (fit_head 63 (plain_of f) (map plain_of fs) all)).0 in
      let here = over_lets before one.value parts.1.0 in
      let rest = lets_keep others (fit_tail 63 (plain_of f) (map plain_of fs) all) in (
        subst (λ s. IsTermOver declared inputs (sorts_of_names before) s l.value) (sym (sort_is declared inputs before one.value)) here,
        subst (λ ss. AreLets declared inputs ss (let_values ls)) (sorts_more before l) rest,
      )

module _ (declared : List DeclaredOp) (goal : GoalTree) where
  abbrev scope_of : Scope
  scope_of = scope_of_goal declared goal

  goal_term : {sort : Sort} {f : Form} {t : Tree Op} → Writes scope_of sort f t → CanPrint (plain_of f) → IsGoalTerm declared goal sort t
  goal_term {sort} {f} {t} w p =
      subst (λ ss. IsTermOver declared goal.inputs ss sort t) (sorts_from [] goal.lets) (over_lets declared goal.inputs (sorted_from [] goal.lets) w p)

  assume_keeps : (f : Form) (a : TwoTrees) → WritesAssume scope_of f a → Fits 63 (plain_of f) → IsAssume declared goal a
  assume_keeps f a w fits =
      let parts = (parts_fit 62 (codes "assume") (w.first ∷ w.second ∷ []) f w.is fits).0 in
      record { sort = w.sort; left = goal_term w.left parts.0; right = goal_term w.right parts.1.0 }

  guard_keeps : (fs : List Form) (t : Option (Tree Op)) → WritesGuard scope_of fs t → FitAll 63 (map plain_of fs) → IfSome t (IsGoalTerm declared goal sorts.Word)
  guard_keeps _ _ unguarded all = tt
  guard_keeps _ _ (guarded {form = f} one is w) all = goal_term w (parts_fit 62 (codes "when") (one ∷ []) f is (fit_head 63 (plain_of f) [] all)).0.0

  target_keeps : (f : Form) (t : TargetTree) → WritesTarget scope_of f t → Fits 63 (plain_of f) → IsTarget declared goal t
  target_keeps f t w fits =
      let parts = parts_fit 62 (codes "set") (w.first ∷ (w.pins ++ w.last ∷ [])) f w.is fits in
      let behind = back_fits 62 w.pins (w.last ∷ []) (fit_tail 62 (plain_of w.first) (map plain_of (w.pins ++ w.last ∷ [])) parts) in
      goal_term w.value (fit_head 62 (plain_of w.last) [] behind).0

goal_keeps : (declared : List DeclaredOp) (f : Form) (g : GoalTree) → WritesGoal declared f g → Fits 64 (plain_of f) → operators_of_goal g < 2 ^ 29 → IsGoal declared g
goal_keeps declared f g w fits few =
    let scope = scope_of_goal declared g in
    let after_lets = w.assumes ++ (w.whens ++ w.sets) in
    let after_pools = w.bindings ++ after_lets in
    let items = w.ins ++ (w.pools ++ after_pools) in
    let parts = parts_fit 63 (codes "goal") (w.name_form ∷ items) f w.is fits in
    let all = fit_tail 63 (plain_of w.name_form) (map plain_of items) parts in
    let from_lets = back_fits 63 w.pools after_pools (back_fits 63 w.ins (w.pools ++ after_pools) all) in
    let behind = back_fits 63 w.bindings after_lets from_lets in
    let last = back_fits 63 w.assumes (w.whens ++ w.sets) behind in
    record {
      named = (goal_fits 62 declared f g w fits).1;
      rules = w.rules;
      lets = lets_keep declared g.inputs w.lets (front_fits 63 w.bindings after_lets from_lets);
      assumes = each_keeps 63 (WritesAssume scope) (IsAssume declared g) (assume_keeps declared g) w.assumes g.assumes w.assumptions (front_fits 63 w.assumes (w.whens ++ w.sets) behind);
      guard = guard_keeps declared g w.whens g.guard w.guard (front_fits 63 w.whens w.sets last);
      sets = each_keeps 63 (WritesTarget scope) (IsTarget declared g) (target_keeps declared g) w.sets g.sets w.targets (back_fits 63 w.whens w.sets last);
      few = few;
    }

-- ---- texts
machine_keeps : IsTable ev6 → (fs : List Form) (t : Table) (b : Bool) → WritesMachine fs t b → IsTable t × (b ≡ true → t ≡ ev6)
machine_keeps is _ _ _ built_in = (is, λ e. refl)
machine_keeps is _ _ _ (own w) = (w.well_formed, λ e. cc)

pub text_keeps : IsTable ev6 → (fs : List Form) (i : InputTree) → WritesText fs i → FitAll 64 (map plain_of fs) → FitAll 64 (input_plains i) → IsNamedInput i → operators_of_input i < 2 ^ 29 → IsInput i
text_keeps is fs i w all printed named few =
    let whole = subst (λ gs. FitAll 64 (map plain_of gs)) w.are all in
    let last = back_fits 64 w.ops (w.axioms ++ w.goals) (back_fits 64 w.machines (w.ops ++ (w.axioms ++ w.goals)) whole) in
    let machine = machine_keeps is w.machines i.table i.builtin w.machine in
    let axioms = each_keeps 64 (WritesAxiom i.ops) (λ a. operators_of_axiom a < 2 ^ 29 → IsAxiom i.ops a) (axiom_keeps i.ops) w.axioms i.axioms w.equations (front_fits 64 w.axioms w.goals last) in
    let goals = each_keeps 64 (WritesGoal i.ops) (λ g. operators_of_goal g < 2 ^ 29 → IsGoal i.ops g) (goal_keeps i.ops) w.goals i.goals w.all_goals (back_fits 64 w.axioms w.goals last) in
    record {
      table = machine.0;
      slots = named.slots;
      builtin = machine.1;
      operators = named.operators;
      operators_differ = w.op_names;
      own_names = w.own_names;
      axioms = λ k d l. axioms k d l (let a = at_most_all operators_of_axiom i.axioms k d l in omega (arith, a, few));
      goals = λ k d l. goals k d l (let a = at_most_all operators_of_goal i.goals k d l in omega (arith, a, few));
      goals_differ = w.goal_names;
      some_goal = w.some_goal;
      few = w.few;
      few_operators = few;
      nested = printed.1;
    }
