-- The forms that write an input write that one alone, and have no fault.
use Rattle.std.proofs.Common.{◌≡◌, ◌≢◌, ℕ, ◌+◌, ◌<◌, ◌≤◌, ◌||◌, ◌++◌, ◌==◌, Bool, true, false, All, Some, List, [], ◌∷◌, map, length, get_or, filter_map, refl, sym, ap, ap₂, ◌∙◌, subst, arith, codes, length-append}
use Rattle.std.specs.Prelude.{AllPairs}
use Rattle.std.specs.List.{list_any}
use Rattle.forms.specs.Forms.{Form, Forms, parts_of, name_in, forms_list, forms_of}
use Rattle.forms.specs.Reading.{TextHasTrees, IsFirstReadFault}
use Rattle.machine_table.specs.Grammar.{Each, WritesTable}
use Rattle.machine_table.specs.Roles.{IsMachineFault}
use Rattle.machine_table.specs.declared.tables.Table.{Table}
use Rattle.text_core.specs.Trees.{SexpTrees}
use Rattle.text_core.specs.declared.faults.Kind.{Kind}
use Rattle.goal_reader.specs.declared.order.Admission.TheVariants.{Admitted}
use Rattle.goal_meaning.specs.declared.goals.DeclaredOp.{DeclaredOp}
use Rattle.goal_reader.specs.Grammar.{WritesDeclaration, WritesAxiom, WritesGoal, WritesMachine, WritesText, Reads, IsFirstTextFault, built_in, own}
use Rattle.goal_reader.specs.Reading.{IsClear}
use Rattle.goal_reader.specs.Roles as roles
use Rattle.text_core.specs.Names.{is_among}
use Rattle.goal_reader.specs.Roles.{Role, a_list, a_machine, wrong, own_name, an_arity, IsTextFault, no_goal, in_form, in_machine, rank, of_rank, is_of_rank, text_keywords, text_bounds, bound_at, top_role, role_in, declared_in, declaration_in, names_given, second_name, arity_named}
use Rattle.goal_meaning.specs.Names.{is_reserved, names_of_declared}
use Rattle.goal_reader.specs.TextDrafts.{IsClearForm}
use Rattle.goal_reader.specs.TextFaults.{as_role, as_machine}
use Rattle.goal_meaning.specs.Views.{AxiomTree, GoalTree, InputTree}
use Rattle.goal_reader.proofs.Admitting.{role_told}
use Rattle.goal_reader.proofs.Arities.{arity_clear, declaration_only}
use Rattle.goal_reader.proofs.AxiomClear.{written_axiom_clear}
use Rattle.goal_reader.proofs.GoalClear.{one_longer, within, written_goal_clear, some_there, any_behind, sets_counted}
use Rattle.goal_reader.proofs.GoalSteps.{map_more, mapped_more, nothing_more}
use Rattle.goal_reader.proofs.Grouped.{AllOf, all_ranked, listed_rank, first_of, skip_of, of_other}
use Rattle.goal_reader.proofs.NewNames.{own_name_clear}
use Rattle.goal_reader.proofs.ReadParts.{each_once, declaration_once, declaration_told, declaration_ranked, axiom_once, axiom_ranked, goal_once, goal_ranked, goal_told, arity_told}
use Rattle.goal_reader.proofs.TextEnd.{no_text_fault}
use Rattle.goal_reader.proofs.TextForms.{list_clear, machine_clear}
use Rattle.goal_reader.proofs.TextSteps.{same_rank, other_declared, other_goals}
use Rattle.goal_reader.proofs.Walks as walks
use Rattle.goal_reader.proofs.Walks.{parts_clear, no_role, Walk, walk_at, walk_both, group_walk, Behind, behind_more, behind_next, name_new}

-- ---- a declaration
pub written_declaration_clear : (declared : List DeclaredOp) (form : Form) (o : DeclaredOp) → WritesDeclaration form o → is_reserved o.name ≡ false → is_among (names_of_declared declared) o.name ≡ false → IsClear (a_list (roles.declaration declared)) form
written_declaration_clear declared form o w free fresh =
    let names = names_of_declared declared in
    let parts = ap parts_of w.is.is in
    parts_clear (a_list (roles.declaration declared)) form _ parts (λ k p. let l = declaration_only declared form k p in let n = ap length parts in omega (arith, l, n)) (
      (λ other e. no_role other _ e),
      (
        (λ other e. walks.as_role (own_name names) w.first (own_name_clear names w.first o.name (record { named = ap name_in w.named.is; free = ap₂ (λ x y. x || y) free fresh })) other e),
        ((λ other e. walks.as_role an_arity w.second (arity_clear w.second _ o.arity (ap Rattle.forms.specs.Forms.number_in w.counted.is) (arity_told o.arity)) other e), tt),
      ),
    )

-- ---- what a machine form says; what machine_table says of all of them is handed in
module _ (table_once : (form : Form) (table other : Table) → WritesTable form table → WritesTable form other → table ≡ other)
    (table_clear : (form : Form) (table : Table) → WritesTable form table → (place : ℕ) (kind : Kind) → IsMachineFault form place kind → ⊥) where
  table_ranked : (form : Form) (table : Table) → WritesTable form table → rank text_keywords form ≡ Some 0
  table_ranked form table w = listed_rank text_keywords (codes "machine") _ form w.is

  machine_ranked : (fs : List Form) (table : Table) (builtin : Bool) → WritesMachine fs table builtin → AllOf text_keywords 0 fs
  machine_ranked _ _ _ built_in = tt
  machine_ranked _ _ _ (own {form = form} {table = table} w) = (table_ranked form table w, tt)

  machine_once : (fs : List Form) (t u : Table) (b c : Bool) → WritesMachine fs t b → WritesMachine fs u c → (t ≡ u) × (b ≡ c)
  machine_once _ _ _ _ _ built_in built_in = (refl, refl)
  machine_once _ t u _ _ (own {form = form} w) (own v) = (table_once form t u w v, refl)

  -- ---- the groups of a text
  module _ (fs : List Form) (i : InputTree) (w : WritesText fs i) where
    abbrev m : List Form
    m = w.machines

    abbrev o : List Form
    o = w.ops

    abbrev a : List Form
    a = w.axioms

    abbrev g : List Form
    g = w.goals

    all_machines : AllOf text_keywords 0 w.machines
    all_machines = machine_ranked w.machines i.table i.builtin w.machine

    all_ops : AllOf text_keywords 1 w.ops
    all_ops = all_ranked text_keywords WritesDeclaration 1 declaration_ranked w.ops i.ops w.declared

    all_axioms : AllOf text_keywords 2 w.axioms
    all_axioms = all_ranked text_keywords (WritesAxiom i.ops) 2 (axiom_ranked i.ops) w.axioms i.axioms w.equations

    all_goals : AllOf text_keywords 3 w.goals
    all_goals = all_ranked text_keywords (WritesGoal i.ops) 3 (goal_ranked i.ops) w.goals i.goals w.all_goals

    machines_are : of_rank text_keywords 0 fs ≡ w.machines
    machines_are =
        ap (of_rank text_keywords 0) w.are
        ∙ first_of text_keywords 0 w.machines _ all_machines (skip_of text_keywords 1 0 w.ops _ all_ops refl ∙ skip_of text_keywords 2 0 w.axioms _ all_axioms refl ∙ of_other text_keywords 3 0 w.goals all_goals refl)

    ops_are : of_rank text_keywords 1 fs ≡ w.ops
    ops_are =
        ap (of_rank text_keywords 1) w.are ∙ skip_of text_keywords 0 1 w.machines _ all_machines refl
        ∙ first_of text_keywords 1 w.ops _ all_ops (skip_of text_keywords 2 1 w.axioms _ all_axioms refl ∙ of_other text_keywords 3 1 w.goals all_goals refl)

    axioms_are : of_rank text_keywords 2 fs ≡ w.axioms
    axioms_are =
        ap (of_rank text_keywords 2) w.are ∙ skip_of text_keywords 0 2 w.machines _ all_machines refl ∙ skip_of text_keywords 1 2 w.ops _ all_ops refl
        ∙ first_of text_keywords 2 w.axioms _ all_axioms (of_other text_keywords 3 2 w.goals all_goals refl)

    goals_are : of_rank text_keywords 3 fs ≡ w.goals
    goals_are =
        ap (of_rank text_keywords 3) w.are ∙ skip_of text_keywords 0 3 w.machines _ all_machines refl ∙ skip_of text_keywords 1 3 w.ops _ all_ops refl ∙ skip_of text_keywords 2 3 w.axioms _ all_axioms refl
        ∙ ap (of_rank text_keywords 3) (sym (nothing_more w.goals)) ∙ first_of text_keywords 3 w.goals [] all_goals refl

    abbrev r : ℕ → List Form
    r at = of_rank text_keywords at fs

    reads_machine : WritesMachine (r 0) i.table i.builtin
    reads_machine = subst (λ xs. WritesMachine xs i.table i.builtin) (sym machines_are) w.machine

    reads_ops : Each WritesDeclaration (r 1) i.ops
    reads_ops = subst (λ xs. Each WritesDeclaration xs i.ops) (sym ops_are) w.declared

    reads_axioms : Each (WritesAxiom i.ops) (r 2) i.axioms
    reads_axioms = subst (λ xs. Each (WritesAxiom i.ops) xs i.axioms) (sym axioms_are) w.equations

    reads_goals : Each (WritesGoal i.ops) (r 3) i.goals
    reads_goals = subst (λ xs. Each (WritesGoal i.ops) xs i.goals) (sym goals_are) w.all_goals

  input_of_parts : Table → Bool → List DeclaredOp → List AxiomTree → List GoalTree → InputTree
  input_of_parts t b os xs gs = record { table = t; builtin = b; ops = os; axioms = xs; goals = gs }

  input_back : (i : InputTree) → input_of_parts i.table i.builtin i.ops i.axioms i.goals ≡ i
  unfolding input_of_parts
  input_back i = refl

  text_once : (fs : List Form) (i j : InputTree) → WritesText fs i → WritesText fs j → i ≡ j
  text_once fs i j w v =
      let machines = machine_once (r fs i w 0) i.table j.table i.builtin j.builtin (reads_machine fs i w) (reads_machine fs j v) in
      let ops = each_once WritesDeclaration declaration_once (r fs i w 1) i.ops j.ops (reads_ops fs i w) (reads_ops fs j v) in
      let axs = each_once (WritesAxiom j.ops) (axiom_once j.ops) (r fs i w 2) i.axioms j.axioms (subst (λ ds. Each (WritesAxiom ds) (r fs i w 2) i.axioms) ops (reads_axioms fs i w)) (reads_axioms fs j v) in
      let gs = each_once (WritesGoal j.ops) (goal_once j.ops) (r fs i w 3) i.goals j.goals (subst (λ ds. Each (WritesGoal ds) (r fs i w 3) i.goals) ops (reads_goals fs i w)) (reads_goals fs j v) in
      sym (input_back i) ∙ ap₂ (λ t b. input_of_parts t b i.ops i.axioms i.goals) machines.0 machines.1 ∙ ap₂ (λ os xs. input_of_parts j.table j.builtin os xs i.goals) ops axs
      ∙ ap (λ gs. input_of_parts j.table j.builtin j.ops j.axioms gs) gs ∙ input_back j

  -- ---- what stands before a form
  record Before (before : List Form) (at n : ℕ) (ops : List DeclaredOp) (names : List (List ℕ)) : Type 0 where
    pub order : Behind text_keywords before at n
    pub ops_are : declared_in before ≡ ops
    pub names_are : names_given (of_rank text_keywords 3 before) ≡ names

  before_next : (before : List Form) (at n : ℕ) (ops : List DeclaredOp) (names : List (List ℕ)) → Before before at n ops names → Before before (at + 1) 0 ops names
  before_next before at n ops names b = record { order = behind_next text_keywords before at n b.order; ops_are = b.ops_are; names_are = b.names_are }

  abbrev HasNoFault : List Form → Form → Type 0
  HasNoFault before form = IsClearForm (role_in text_keywords text_bounds before (top_role before) form) form

  abbrev roles_of : List DeclaredOp → List (List ℕ) → ℕ → Role
  roles_of ops names at = get_or (a_machine ∷ a_list (roles.declaration ops) ∷ a_list (roles.equation ops) ∷ a_list (roles.goal ops names) ∷ []) at wrong

  admitted : (before : List Form) (at n : ℕ) (ops : List DeclaredOp) (names : List (List ℕ)) (form : Form) → Before before at n ops names → rank text_keywords form ≡ Some at → n < (bound_at text_bounds at).most
      → IsClearForm (roles_of ops names at) form → HasNoFault before form
  admitted before at n ops names form b e l clear =
      let few : length (of_rank text_keywords at before) < (bound_at text_bounds at).most = subst (λ k. k < (bound_at text_bounds at).most) (sym b.order.count) l in
      let told = role_told text_keywords text_bounds before (top_role before) form at Admitted e (b.order.later, few) in
      let same : top_role before at ≡ roles_of ops names at =
      ap (λ os. roles_of os (names_given (of_rank text_keywords 3 before)) at) b.ops_are ∙ ap (λ ns. roles_of ops ns at) b.names_are in
      subst (λ (x : Role). IsClearForm x form) (sym (told ∙ same)) clear

  plain_more : (before : List Form) (at n : ℕ) (ops : List DeclaredOp) (names : List (List ℕ)) (form : Form) → Before before at n ops names → rank text_keywords form ≡ Some at → (at == 1) ≡ false → (at == 3) ≡ false → Before (before ++ form ∷ []) at (n + 1) ops names
  plain_more before at n ops names form b e t1 t3 = record {
    order = behind_more text_keywords before at n form b.order e;
    ops_are = other_declared at form before e t1 ∙ b.ops_are;
    names_are = other_goals at form before e t3 ∙ b.names_are;
  }

  module _ (i : InputTree) (op_names : AllPairs (λ (x y : DeclaredOp). x.name ≢ y.name) i.ops) (own_names : All (λ (x : DeclaredOp). is_reserved x.name ≡ false) i.ops)
      (goal_names : AllPairs (λ (x y : GoalTree). x.name ≢ y.name) i.goals) (few : (length i.ops ≤ 16) × (length i.axioms ≤ 64) × (length i.goals ≤ 64)) where
    machine_walk : (fs : List Form) (t : Table) (b : Bool) → WritesMachine fs t b → Before [] 0 0 [] [] → (n : ℕ) × Walk HasNoFault [] fs × Before fs 0 n [] []
    machine_walk _ t b built_in s = (0, tt, s)
    machine_walk _ t b (own {form = form} w) s =
        let e = table_ranked form t w in
        (1, (admitted [] 0 0 [] [] form s e (omega arith) (machine_clear form (table_clear form t w)), tt), plain_more [] 0 0 [] [] form s e refl refl)

    one_of : (done rest : List DeclaredOp) (x : DeclaredOp) → i.ops ≡ done ++ x ∷ rest → is_reserved x.name ≡ false
    one_of done rest x is = subst (λ (y : DeclaredOp). is_reserved y.name ≡ false) (here done) (subst (λ xs. All (λ (y : DeclaredOp). is_reserved y.name ≡ false) xs) is own_names (length done) x (let n = length-append done (x ∷ rest) in omega (arith, n)))
      where
        here : (zs : List DeclaredOp) → get_or (zs ++ x ∷ rest) (length zs) x ≡ x
        here [] = refl
        here (z ∷ zs) = here zs

    op_step : (before : List Form) (done rest : List DeclaredOp) (form : Form) (x : DeclaredOp) → i.ops ≡ done ++ x ∷ rest → Before before 1 (length done) done [] → WritesDeclaration form x
        → HasNoFault before form × Before (before ++ form ∷ []) 1 (length (done ++ x ∷ [])) (done ++ x ∷ []) []
    op_step before done rest form x is b w =
        let e = declaration_ranked form x w in (
          admitted before 1 (length done) done [] form b e (within done rest x i.ops 16 is few.0)
              (list_clear (roles.declaration done) form (written_declaration_clear done form x w (one_of done rest x is) (name_new (λ (y : DeclaredOp). y.name) i.ops done x rest is op_names))),
          record {
            order = subst (λ n. Behind text_keywords (before ++ form ∷ []) 1 n) (one_longer done x) (behind_more text_keywords before 1 (length done) form b.order e);
            ops_are = ap (filter_map declaration_in) (same_rank 1 1 form before true e refl) ∙ map_more declaration_in (of_rank text_keywords 1 before) form x (declaration_told form x w) ∙ ap (λ ds. ds ++ x ∷ []) b.ops_are;
            names_are = other_goals 1 form before e refl ∙ b.names_are;
          },
        )

    axiom_step : (before : List Form) (done rest : List AxiomTree) (form : Form) (x : AxiomTree) → i.axioms ≡ done ++ x ∷ rest → Before before 2 (length done) i.ops [] → WritesAxiom i.ops form x
        → HasNoFault before form × Before (before ++ form ∷ []) 2 (length (done ++ x ∷ [])) i.ops []
    axiom_step before done rest form x is b w =
        let e = axiom_ranked i.ops form x w in (
          admitted before 2 (length done) i.ops [] form b e (within done rest x i.axioms 64 is few.1) (list_clear (roles.equation i.ops) form (written_axiom_clear i.ops form x w)),
          subst (λ n. Before (before ++ form ∷ []) 2 n i.ops []) (one_longer done x) (plain_more before 2 (length done) i.ops [] form b e refl refl),
        )

    abbrev named : List GoalTree → List (List ℕ)
    named gs = map (λ (x : GoalTree). x.name) gs

    goal_step : (before : List Form) (done rest : List GoalTree) (form : Form) (x : GoalTree) → i.goals ≡ done ++ x ∷ rest → Before before 3 (length done) i.ops (named done) → WritesGoal i.ops form x
        → HasNoFault before form × Before (before ++ form ∷ []) 3 (length (done ++ x ∷ [])) i.ops (named (done ++ x ∷ []))
    goal_step before done rest form x is b w =
        let e = goal_ranked i.ops form x w in (
          admitted before 3 (length done) i.ops (named done) form b e (within done rest x i.goals 64 is few.2)
              (list_clear (roles.goal i.ops (named done)) form (written_goal_clear i.ops (named done) form x w (name_new (λ (y : GoalTree). y.name) i.goals done x rest is goal_names))),
          record {
            order = subst (λ n. Behind text_keywords (before ++ form ∷ []) 3 n) (one_longer done x) (behind_more text_keywords before 3 (length done) form b.order e);
            ops_are = other_declared 3 form before e refl ∙ b.ops_are;
            names_are = ap names_given (same_rank 3 3 form before true e refl) ∙ map_more second_name (of_rank text_keywords 3 before) form x.name (goal_told i.ops form x w) ∙ ap (λ ns. ns ++ x.name ∷ []) b.names_are
                ∙ sym (mapped_more (λ (y : GoalTree). y.name) done x);
          },
        )

    forms_walk : (m o a g : List Form) → WritesMachine m i.table i.builtin → Each WritesDeclaration o i.ops → Each (WritesAxiom i.ops) a i.axioms → Each (WritesGoal i.ops) g i.goals → Walk HasNoFault [] (m ++ (o ++ (a ++ g)))
    forms_walk m o a g wm wo wa wg =
        let start : Before [] 0 0 [] [] = record { order = record { later = refl; count = refl }; ops_are = refl; names_are = refl } in
        let one = machine_walk m i.table i.builtin wm start in
        let two = group_walk HasNoFault WritesDeclaration (λ before done. Before before 1 (length done) done []) i.ops op_step m [] o i.ops wo refl (before_next m 0 one.0 [] [] one.2) in
        let three = group_walk HasNoFault (WritesAxiom i.ops) (λ before done. Before before 2 (length done) i.ops []) i.axioms axiom_step (m ++ o) [] a i.axioms wa refl (before_next (m ++ o) 1 (length i.ops) i.ops [] two.1) in
        let four = group_walk HasNoFault (WritesGoal i.ops) (λ before done. Before before 3 (length done) i.ops (named done)) i.goals goal_step ((m ++ o) ++ a) [] g i.goals wg refl (before_next ((m ++ o) ++ a) 2 (length i.axioms) i.ops [] three.1) in
        walk_both HasNoFault [] m _ one.1 (walk_both HasNoFault m o _ two.0 (walk_both HasNoFault (m ++ o) a g three.0 four.0))

  walk_of : (fs : List Form) (i : InputTree) → WritesText fs i → Walk HasNoFault [] fs
  walk_of fs i w = subst (λ xs. Walk HasNoFault [] xs) (sym w.are) (forms_walk i w.op_names w.own_names w.goal_names w.few w.machines w.ops w.axioms w.goals w.machine w.declared w.equations w.all_goals)

  goal_there : (fs : List Form) (i : InputTree) → WritesText fs i → list_any (is_of_rank text_keywords 3) fs ≡ true
  goal_there fs i w =
      ap (list_any (is_of_rank text_keywords 3)) w.are
      ∙ any_behind _ w.machines _ (any_behind _ w.ops _ (any_behind _ w.axioms w.goals (some_there text_keywords 3 w.goals (all_goals fs i w) (sets_counted (WritesGoal i.ops) w.goals i.goals w.all_goals w.some_goal))))

  text_clear : (size : ℕ) (fs : List Form) (i : InputTree) → WritesText fs i → (place : ℕ) (kind : Kind) → IsTextFault size fs place kind → ⊥
  text_clear size fs i w place kind (no_goal e p) = let x : true ≡ false = sym (goal_there fs i w) ∙ e in cc
  text_clear size fs i w place kind (in_form at form got fault) = walk_at HasNoFault [] fs (walk_of fs i w) at form got place kind (as_role fault)
  text_clear size fs i w place kind (in_machine at form got e fault) = walk_at HasNoFault [] fs (walk_of fs i w) at form got place kind (as_machine e fault)

  -- ---- the whole text; what forms says of all texts is handed in
  module _ (text : List ℕ) (one_forest : (trees others : SexpTrees) → TextHasTrees text trees → TextHasTrees text others → trees ≡ others)
      (apart : (trees : SexpTrees) (place : ℕ) (kind : Kind) → TextHasTrees text trees → IsFirstReadFault text place kind → ⊥) where
    pub reads_once : (i j : InputTree) → Reads text i → Reads text j → i ≡ j
    reads_once i j a b =
        let same = one_forest a.trees b.trees a.has b.has in
        text_once (forms_list (forms_of text b.trees)) i j (subst (λ (ts : SexpTrees). WritesText (forms_list (forms_of text ts)) i) same a.written) b.written

    pub reads_apart : (i : InputTree) (place : ℕ) (kind : Kind) → Reads text i → IsFirstTextFault text place kind → ⊥
    reads_apart i place kind a f = no_text_fault text one_forest apart a.trees a.has (text_clear (length text) (forms_list (forms_of text a.trees)) i a.written) place kind f
