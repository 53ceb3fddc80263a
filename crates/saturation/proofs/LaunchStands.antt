-- A launch graph that is made of an E-graph that stands for the goal's terms stands for the goal.
use Rattle.std.proofs.Common.{◌≡◌, ℕ, ◌∙◌, List, [], ◌∷◌, Option, Some, None, map, slice_index, get_or, refl, sym, ap, subst, arith, All, Contains}
use Rattle.std.specs.List.{AllZip}
use Rattle.std.proofs.lemmas.List.Elements.{All-nil, All-cons, All-contains, All-contains_itself, All-weaker}
use Rattle.egraph.specs.Graph.{Graph}
use Rattle.egraph.specs.declared.rows.Row.{Row}
use Rattle.word_ops.specs.Worlds.{World, IsWorld, IsValue, Value, word}
use Rattle.word_ops.specs.Meanings.{meaning, sort_of, as_word}
use Rattle.word_ops.specs.declared.sorts.Op.{Op}
use Rattle.word_ops.specs.declared.sorts.Op.TheVariants as op
use Rattle.word_ops.specs.declared.sorts.Arity.{Arity}
use Rattle.word_terms.specs.Tree.{Tree, Trees, each_value}
use Rattle.axiom_base.specs.Rewrites.{value_in}
use Rattle.goal_meaning.specs.Expanded.{expanded}
use Rattle.goal_meaning.specs.Holds.{HoldsFor}
use Rattle.goal_meaning.specs.Names.{declared_name}
use Rattle.goal_meaning.specs.Views.{TargetTree, GoalTree, InputTree}
use Rattle.goal_meaning.specs.declared.goals.InputReg.{InputReg}
use Rattle.goal_meaning.specs.declared.goals.DeclaredOp.{DeclaredOp}
use Rattle.graph_meaning.specs.Graphs.{row_meaning}
use Rattle.graph_meaning.specs.declared.graphs.LaunchGraph.{LaunchGraph}
use Rattle.graph_meaning.specs.declared.graphs.LaunchRow.{LaunchRow}
use Rattle.graph_meaning.specs.declared.graphs.InputClass.{InputClass}
use Rattle.graph_meaning.specs.declared.graphs.SetClass.{SetClass}
use Rattle.graph_meaning.specs.declared.graphs.Guard.{Guard}
use Rattle.pattern_match.specs.Classes.{AreClasses, at_variable, at_row, no_classes, classes}
use Rattle.axiom_library.specs.declared.libraries.Library.{Library}
use Rattle.saturation.specs.GoalTerms.{entry_term, input_term, kept_terms, assumed_pairs, rules_of}
use Rattle.saturation.specs.GraphStands.{GraphStands, RulesHold, IsTrueGraph}
use Rattle.saturation.specs.Launched.{IsLaunched, row_in}
use Rattle.saturation.specs.StandsFor.{StandsFor, HasValues, HasGuardValue, HasSetValue, HasClassIn, IsInputClass, IsSetClass, IsGuardOf, graph_view, row_view, numbered_op, declared_number}
use Rattle.saturation.proofs.Mapped.{contains_map, contains_map_back, map_twice}

same_meaning : (declared : List DeclaredOp) (world : World) (o : Op) (name : List ℕ) (vs : List Value) → ((index : ℕ) (arity : Arity) → o ≡ op.Declared index arity → declared_name declared (declared_number declared name) ≡ name) → meaning world (declared_name declared) (numbered_op declared o name) vs ≡ meaning world (λ _. name) o vs
same_meaning declared world op.Entry name vs h = refl
same_meaning declared world (op.Input r) name vs h = refl
same_meaning declared world (op.Constant c) name vs h = refl
same_meaning declared world (op.Word o) name vs h = refl
same_meaning declared world (op.Select access) name vs h = refl
same_meaning declared world (op.Store access) name vs h = refl
same_meaning declared world (op.Load access) name vs h = refl
same_meaning declared world (op.Put access) name vs h = refl
same_meaning declared world (op.Declared index arity) name vs h = ap (λ n. word (world.declared n (map as_word vs))) (h index arity refl)

same_sort : (declared : List DeclaredOp) (o : Op) (name : List ℕ) → sort_of (numbered_op declared o name) ≡ sort_of o
same_sort declared op.Entry name = refl
same_sort declared (op.Input r) name = refl
same_sort declared (op.Constant c) name = refl
same_sort declared (op.Word o) name = refl
same_sort declared (op.Select access) name = refl
same_sort declared (op.Store access) name = refl
same_sort declared (op.Load access) name = refl
same_sort declared (op.Put access) name = refl
same_sort declared (op.Declared index arity) name = refl

module _ (declared : List DeclaredOp) (goal : GoalTree) (graph : Graph Op) (g : LaunchGraph) (launched : IsLaunched declared goal graph g) (world : World) (values : ℕ → Value) (true_in : IsTrueGraph world (declared_name declared) values graph) where
  abbrev pub at : ℕ → Value
  at c = values (launched.class_in c)

  abbrev means : Op → List Value → Value
  means o vs = meaning world (declared_name declared) o vs

  inside : (r : LaunchRow) → Contains g.rows r → Contains graph.rows (row_in declared launched.class_in r)
  inside r here = subst (λ (rows : List (Row Op)). Contains rows (row_in declared launched.class_in r)) (sym launched.rows) (contains_map (row_in declared launched.class_in) g.rows r here)

  row_true : (r : LaunchRow) → Contains g.rows r → means (numbered_op declared r.op r.name) (map at r.operands) ≡ at r.class
  row_true r here =
      ap (means (numbered_op declared r.op r.name)) (sym (map_twice launched.class_in values r.operands))
      ∙ sym (All-contains (λ (q : Row Op). values q.class ≡ means q.op (map values q.operands)) graph.rows (row_in declared launched.class_in r) true_in.rows (inside r here))

  mutual
    class_value : (t : Tree Op) (c : ℕ) → HasClassIn declared g t c → at c ≡ value_in world (declared_name declared) [] t
    class_value _ _ (at_variable lt) = absurd (omega (arith, lt))
    class_value _ _ (at_row {op = o} {ts = ts} {cs = cs} {c = c} are here) =
        let back = contains_map_back (row_view declared) g.rows (record { op = o; operands = cs; class = c }) here in
        ap (λ (q : Row Op). at q.class) back.2
        ∙ (sym (row_true back.0 back.1)
        ∙ (sym (ap (λ (q : Row Op). means q.op (map at q.operands)) back.2)
        ∙ ap (means o) (class_values ts cs are)))

    class_values : (ts : Trees Op) (cs : List ℕ) → AreClasses (graph_view declared g) [] ts cs → map at cs ≡ each_value (meaning world (declared_name declared)) (λ n. get_or [] n (word 0)) ts
    class_values _ _ no_classes = refl
    class_values _ _ (classes {t = t} {ts = ts} {c = c} {cs = cs} one rest) =
        ap (λ (v : Value). v ∷ map at cs) (class_value t c one) ∙ ap (λ (vs : List Value). value_in world (declared_name declared) [] t ∷ vs) (class_values ts cs rest)

  abbrev HasInputValue : InputClass → Type 0
  HasInputValue c = at c.class ≡ word (slice_index world.registers c.reg)

  inputs_have : (cs : List InputClass) (is : List InputReg) → AllZip (IsInputClass declared g) cs is → All HasInputValue cs
  inputs_have [] is z = All-nil HasInputValue
  inputs_have (c ∷ cs) [] z = absurd z
  inputs_have (c ∷ cs) (i ∷ is) z =
      All-cons HasInputValue c cs
      (class_value (input_term i.reg) c.class z.0.class ∙ ap (λ r. word (slice_index world.registers r)) (sym z.0.register))
      (inputs_have cs is z.1)

  sets_have : (cs : List SetClass) (ss : List TargetTree) → AllZip (IsSetClass declared g) cs ss → AllZip (HasSetValue declared world at) cs ss
  sets_have [] [] z = tt
  sets_have [] (s ∷ ss) z = absurd z
  sets_have (c ∷ cs) [] z = absurd z
  sets_have (c ∷ cs) (s ∷ ss) z = (class_value s.value c.class z.0.class, sets_have cs ss z.1)

  guard_has : (c : Option Guard) (t : Option (Tree Op)) → IsGuardOf declared g c t → HasGuardValue declared world at c t
  guard_has None None of = tt
  guard_has None (Some t) of = tt
  guard_has (Some c) None of = tt
  guard_has (Some c) (Some t) of = class_value t c.class of.0

  pub has_values : HasValues declared goal g world at
  has_values = record {
    rows = record {
      rows = All-weaker (Contains g.rows) (λ (r : LaunchRow). at r.class ≡ row_meaning world r (map at r.operands))
          (λ r here. sym (row_true r here) ∙ same_meaning declared world r.op r.name (map at r.operands) (λ index arity is. launched.named r index arity here is))
          g.rows (All-contains_itself g.rows);
      sorts = All-weaker (Contains g.rows) (λ (r : LaunchRow). IsValue (sort_of r.op) (at r.class))
          (λ r here. subst (λ s. IsValue s (at r.class)) (same_sort declared r.op r.name) (All-contains (λ (q : Row Op). IsValue (sort_of q.op) (values q.class)) graph.rows (row_in declared launched.class_in r) true_in.values (inside r here)))
          g.rows (All-contains_itself g.rows);
      inputs = inputs_have g.inputs goal.inputs launched.of.inputs;
      entry = class_value entry_term g.entry launched.of.entry;
    };
    guard = guard_has g.guard (expanded goal).guard launched.of.guard;
    sets = sets_have g.sets (expanded goal).sets launched.of.sets;
  }

pub stands_for : (library : Library) (input : InputTree) (goal : GoalTree) (graph : Graph Op) (g : LaunchGraph) → IsLaunched input.ops goal graph g → GraphStands (declared_name input.ops) (rules_of library input) (assumed_pairs goal) (kept_terms goal) graph → ((world : World) → IsWorld world → HoldsFor input goal world → RulesHold world (declared_name input.ops) (rules_of library input) (assumed_pairs goal)) → StandsFor input goal g
stands_for library input goal graph g launched stands rules = record {
  of = launched.of;
  values = λ world is holds.
      let v = stands.values world is (rules world is holds) in
      ((λ c. v.0 (launched.class_in c)), has_values input.ops goal graph g launched world v.0 v.1);
}
