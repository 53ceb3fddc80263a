-- Five signs at least are written for each four operators, and a text has no more signs than bytes. A sign is an atom or
-- a list's parenthesis.
use Rattle.std.proofs.Common.{◌≡◌, ℕ, zero, suc, ◌+◌, ◌*◌, ◌<◌, ◌≤◌, ◌++◌, length, get_or, Option, List, [], ◌∷◌, refl, ap, arith}
use Rattle.std.specs.Option.{option_map_or}
use Rattle.word_ops.specs.Meanings.{arity_of_op}
use Rattle.word_ops.specs.declared.sorts.Op.{Op}
use Rattle.word_ops.specs.declared.sorts.Sort.{Sort}
use Rattle.word_terms.specs.Laws.{op_takes_at_most_four}
use Rattle.word_terms.specs.OperatorsIn.{operators_in, operators_in_all}
use Rattle.word_terms.specs.Tree.{Tree, Trees}
use Rattle.forms.specs.Forms.{Form, Forms, atom, list, none, more, forms_list, forms_from, Stands, Stand}
use Rattle.machine_table.specs.Grammar.{Each, more_of, IsListOf}
use Rattle.machine_table.specs.Grammar as grammar
use Rattle.goal_meaning.specs.declared.goals.DeclaredOp.{DeclaredOp}
use Rattle.goal_reader.specs.declared.scopes.Scope.{Scope}
use Rattle.goal_reader.specs.Grammar.{WritesLet, WritesLets, no_lets, one_let, sorted_let, scope_of_goal, WritesAssume, WritesGuard, WritesTarget, WritesGoal, WritesAxiom, WritesText, unguarded, guarded, axiom_scope}
use Rattle.goal_reader.specs.Roles.{let_scope}
use Rattle.goal_reader.specs.Scopes.{SortedName}
use Rattle.goal_meaning.specs.Expanded.{let_values}
use Rattle.goal_meaning.specs.declared.goals.InputReg.{InputReg}
use Rattle.goal_reader.specs.Terms.{Writes, WritesEach, memory, input, variable, binding, constant, application, nothing, operand}
use Rattle.goal_meaning.specs.Views.{LetTree, TwoTrees, TargetTree, GoalTree, AxiomTree, InputTree}
use Rattle.goal_meaning.specs.WellFormed.{sum_over, operators_of_sides, operators_of_target, operators_of_goal, operators_of_axiom, operators_of_input}

abbrev mutual
  pub signs : Form → ℕ
  signs (atom place a) = 1
  signs (list place parts) = 1 + signs_of parts

  pub signs_of : Forms → ℕ
  signs_of none = 0
  signs_of (more form forms) = signs form + signs_of forms

-- ---- signs and bytes
mutual
  pub signs_within : (low high : ℕ) (f : Form) → Stands low high f → low + signs f ≤ high
  signs_within low high (atom place a) s = let a = s.0 in let b = s.1 in omega (arith, a, b)
  signs_within low high (list place parts) s = let a = s.0 in let b = all_within (place + 1) high parts s.1 in omega (arith, a, b)

  pub all_within : (low high : ℕ) (fs : Forms) → Stand low high fs → low + signs_of fs ≤ high
  all_within low high none s = omega (arith, s)
  all_within low high (more form forms) s =
      let a = signs_within low s.0 form s.1.0 in
      let b = all_within s.0 high forms s.1.1 in
      omega (arith, a, b)

-- ---- signs of lists
pub from_listed : (fs : Forms) → signs_of fs ≡ sum_over signs (forms_list fs)
from_listed none = refl
from_listed (more form forms) = ap (λ n. signs form + n) (from_listed forms)

to_listed : (fs : List Form) → signs_of (forms_from fs) ≡ sum_over signs fs
to_listed [] = refl
to_listed (form ∷ forms) = ap (λ n. signs form + n) (to_listed forms)

-- the parenthesis and the keyword beside the parts
signs_listed : (word : List ℕ) (parts : List Form) (f : Form) → IsListOf word parts f → signs f ≡ 2 + sum_over signs parts
signs_listed word parts f is =
    let e : signs f ≡ 1 + (1 + signs_of (forms_from parts)) = ap signs is.is in
    let l = to_listed parts in
    omega (arith, e, l)

signs_behind : (fs gs : List Form) → sum_over signs (fs ++ gs) ≡ sum_over signs fs + sum_over signs gs
signs_behind [] gs = omega arith
signs_behind (f ∷ fs) gs = let e = signs_behind fs gs in omega (arith, e)

-- ---- what forms write
each_few : {Y : Type 0} (W : Form → Y → Type 0) (size : Y → ℕ) → ((f : Form) (y : Y) → W f y → 5 * size y ≤ 4 * signs f) → (fs : List Form) (ys : List Y) → Each W fs ys → 5 * sum_over size ys ≤ 4 * sum_over signs fs
each_few W size step _ _ grammar.none = omega arith
each_few W size step _ _ (more_of {form = f} {forms = fs} {y = y} {ys = ys} one others) =
    let a = step f y one in
    let b = each_few W size step fs ys others in
    omega (arith, a, b)

module _ (scope : Scope) where
  mutual
    pub few_operators : {sort : Sort} {f : Form} {t : Tree Op} → Writes scope sort f t → 5 * operators_in t ≤ 4 * signs f + 1
    few_operators (memory l) = omega arith
    few_operators (input l) = omega arith
    few_operators (variable l) = omega arith
    few_operators (binding l) = omega arith
    few_operators constant = omega arith
    few_operators (application {op = op} {operands = operands} k s n each) =
        let a = few_of_all each in
        let four = op_takes_at_most_four op in
        let count : length (forms_list operands) ≡ arity_of_op op = n in
        omega (arith, a, four, count)

    few_of_all : {op : Op} {at : ℕ} {fs : Forms} {ts : Trees Op} → WritesEach scope op at fs ts → 5 * operators_in_all ts ≤ 4 * signs_of fs + length (forms_list fs)
    few_of_all nothing = omega arith
    few_of_all (operand one others) =
        let a = few_operators one in
        let b = few_of_all others in
        omega (arith, a, b)

  let_few : (f : Form) (l : LetTree) → WritesLet scope f l → 5 * operators_in l.value ≤ 4 * signs f
  let_few f l w =
      let a = few_operators w.value in
      let e = signs_listed _ (w.first ∷ w.second ∷ []) f w.is in
      omega (arith, a, e)

  assume_few : (f : Form) (a : TwoTrees) → WritesAssume scope f a → 5 * operators_of_sides a ≤ 4 * signs f
  assume_few f a w =
      let l = few_operators w.left in
      let r = few_operators w.right in
      let e = signs_listed _ (w.first ∷ w.second ∷ []) f w.is in
      omega (arith, l, r, e)

  guard_few : (fs : List Form) (t : Option (Tree Op)) → WritesGuard scope fs t → 5 * option_map_or operators_in t 0 ≤ 4 * sum_over signs fs
  guard_few _ _ unguarded = omega arith
  guard_few _ _ (guarded {form = f} {term = t} one is w) =
      let a = few_operators w in
      let e = signs_listed _ (one ∷ []) f is in
      omega (arith, a, e)

  target_few : (f : Form) (t : TargetTree) → WritesTarget scope f t → 5 * operators_of_target t ≤ 4 * signs f
  target_few f t w =
      let a = few_operators w.value in
      let e = signs_listed _ (w.first ∷ (w.pins ++ w.last ∷ [])) f w.is in
      let b = signs_behind w.pins (w.last ∷ []) in
      omega (arith, a, b, e)

lets_few : (declared : List DeclaredOp) (inputs : List InputReg) (before : List SortedName) (fs : List Form) (ls : List LetTree) → WritesLets declared inputs before fs ls → 5 * sum_over operators_in (let_values ls) ≤ 4 * sum_over signs fs
lets_few declared inputs before _ _ no_lets = omega arith
lets_few declared inputs before _ _ (one_let {form = f} {forms = fs} {one = l} {others = ls} one others) =
    let a = let_few (let_scope declared inputs before) f l one in
    let b = lets_few declared inputs (before ++ sorted_let before l ∷ []) fs ls others in
    omega (arith, a, b)

pub goal_few : (declared : List DeclaredOp) (f : Form) (g : GoalTree) → WritesGoal declared f g → 5 * operators_of_goal g ≤ 4 * signs f
goal_few declared f g w =
    let scope = scope_of_goal declared g in
    let m = lets_few declared g.inputs [] w.bindings g.lets w.lets in
    let a = each_few (WritesAssume scope) operators_of_sides (assume_few scope) w.assumes g.assumes w.assumptions in
    let b = guard_few scope w.whens g.guard w.guard in
    let c = each_few (WritesTarget scope) operators_of_target (target_few scope) w.sets g.sets w.targets in
    let d = signs_listed _ (w.name_form ∷ w.ins ++ (w.pools ++ (w.bindings ++ (w.assumes ++ (w.whens ++ w.sets))))) f w.is in
    let i = signs_behind w.ins (w.pools ++ (w.bindings ++ (w.assumes ++ (w.whens ++ w.sets)))) in
    let j = signs_behind w.pools (w.bindings ++ (w.assumes ++ (w.whens ++ w.sets))) in
    let n = signs_behind w.bindings (w.assumes ++ (w.whens ++ w.sets)) in
    let k = signs_behind w.assumes (w.whens ++ w.sets) in
    let l = signs_behind w.whens w.sets in
    omega (arith, m, a, b, c, d, i, j, n, k, l)

pub axiom_few : (declared : List DeclaredOp) (f : Form) (a : AxiomTree) → WritesAxiom declared f a → 5 * operators_of_axiom a ≤ 4 * signs f
axiom_few declared f a w =
    let scope = axiom_scope declared a.variables in
    let l = few_operators scope w.left in
    let r = few_operators scope w.right in
    let e = signs_listed _ (list w.place (forms_from w.names) ∷ w.left_form ∷ w.right_form ∷ []) f w.is in
    omega (arith, l, r, e)

pub input_few : (fs : List Form) (i : InputTree) → WritesText fs i → 5 * operators_of_input i ≤ 4 * sum_over signs fs
input_few fs i w =
    let a = each_few (WritesAxiom i.ops) operators_of_axiom (axiom_few i.ops) w.axioms i.axioms w.equations in
    let b = each_few (WritesGoal i.ops) operators_of_goal (goal_few i.ops) w.goals i.goals w.all_goals in
    let d = ap (sum_over signs) w.are in
    let j = signs_behind w.machines (w.ops ++ (w.axioms ++ w.goals)) in
    let k = signs_behind w.ops (w.axioms ++ w.goals) in
    let l = signs_behind w.axioms w.goals in
    omega (arith, a, b, d, j, k, l)

-- one of several is no larger than all
pub at_most_all : {A : Type 0} (size : A → ℕ) (xs : List A) (k : ℕ) (d : A) → k < length xs → size (get_or xs k d) ≤ sum_over size xs
at_most_all size [] k d h = omega (arith, h)
at_most_all size (x ∷ xs) zero d h = omega arith
at_most_all size (x ∷ xs) (suc k) d h = let a = at_most_all size xs k d (omega (arith, h)) in omega (arith, a)
