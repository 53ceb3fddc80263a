-- A form writes one term at most.
use Rattle.std.proofs.Common.{◌≡◌, ℕ, Option, Some, refl, sym, ap, ap₂, ◌∙◌}
use Rattle.word_ops.specs.declared.sorts.Sort.{Sort}
use Rattle.word_ops.specs.declared.sorts.Op.{Op}
use Rattle.word_ops.specs.declared.sorts.Op.TheVariants as ops
use Rattle.word_terms.specs.Tree as tree
use Rattle.word_terms.specs.Tree.{Tree, Trees}
use Rattle.text_core.specs.declared.faults.Kind.{Kind}
use Rattle.text_core.specs.Faults.{IsFirst}
use Rattle.forms.specs.Forms.{Form, Forms}
use Rattle.goal_reader.specs.declared.scopes.Scope.{Scope}
use Rattle.goal_reader.specs.declared.scopes.Named.TheVariants.{Memory, Input, Variable, Let}
use Rattle.goal_reader.specs.Terms.{Writes, WritesEach, memory, input, variable, binding, constant, application, nothing, operand}
use Rattle.goal_reader.specs.Roles.{term, IsFaultAs, WritesTerm}
use Rattle.goal_reader.proofs.Apart.{writes_clear}

mutual
  pub one_term : {scope : Scope} {sort other : Sort} {form : Form} {t u : Tree Op} → Writes scope sort form t → Writes scope other form u → t ≡ u
  one_term (memory l) (memory m) = refl
  one_term (memory l) (input m) = let e : Some Memory ≡ Some (Input _) = sym l ∙ m in absurd cc
  one_term (memory l) (variable m) = let e : Some Memory ≡ Some (Variable _) = sym l ∙ m in absurd cc
  one_term (memory l) (binding m) = let e : Some Memory ≡ Some (Let _ _) = sym l ∙ m in absurd cc
  one_term (input l) (memory m) = let e : Some (Input _) ≡ Some Memory = sym l ∙ m in absurd cc
  one_term (input {register = r} l) (input {register = s} m) =
      let e : Some (Input r) ≡ Some (Input s) = sym l ∙ m in
      let same : r ≡ s = cc in ap (λ n. tree.application (ops.Input n) tree.none) same
  one_term (input l) (variable m) = let e : Some (Input _) ≡ Some (Variable _) = sym l ∙ m in absurd cc
  one_term (input l) (binding m) = let e : Some (Input _) ≡ Some (Let _ _) = sym l ∙ m in absurd cc
  one_term (variable l) (memory m) = let e : Some (Variable _) ≡ Some Memory = sym l ∙ m in absurd cc
  one_term (variable l) (input m) = let e : Some (Variable _) ≡ Some (Input _) = sym l ∙ m in absurd cc
  one_term (variable {n = r} l) (variable {n = s} m) =
      let e : Some (Variable r) ≡ Some (Variable s) = sym l ∙ m in
      let same : r ≡ s = cc in ap tree.variable same
  one_term (variable l) (binding m) = let e : Some (Variable _) ≡ Some (Let _ _) = sym l ∙ m in absurd cc
  one_term (binding l) (memory m) = let e : Some (Let _ _) ≡ Some Memory = sym l ∙ m in absurd cc
  one_term (binding l) (input m) = let e : Some (Let _ _) ≡ Some (Input _) = sym l ∙ m in absurd cc
  one_term (binding l) (variable m) = let e : Some (Let _ _) ≡ Some (Variable _) = sym l ∙ m in absurd cc
  one_term (binding {n = r} {sort = a} l) (binding {n = s} {sort = b} m) =
      let e : Some (Let r a) ≡ Some (Let s b) = sym l ∙ m in
      let same : r ≡ s = cc in ap tree.variable same
  one_term constant constant = refl
  one_term (application {op = op} k s n each) (application {op = other} l t m all) =
      let e : Some op ≡ Some other = sym k ∙ l in
      let same : op ≡ other = cc in
      ap₂ tree.application same (one_each each all)

  one_each : {scope : Scope} {op other : Op} {at by : ℕ} {forms : Forms} {ts us : Trees Op} → WritesEach scope op at forms ts → WritesEach scope other by forms us → ts ≡ us
  one_each nothing nothing = refl
  one_each (operand a b) (operand c d) = ap₂ tree.more (one_term a c) (one_each b d)

pub term_once : (scope : Scope) (wanted : Option Sort) (form : Form) (t u : Tree Op) → WritesTerm scope wanted form t → WritesTerm scope wanted form u → t ≡ u
term_once scope wanted form t u one two = one_term one.writes two.writes

pub term_apart : (scope : Scope) (wanted : Option Sort) (form : Form) (t : Tree Op) (place : ℕ) (kind : Kind) → WritesTerm scope wanted form t → IsFirst (IsFaultAs (term scope wanted) form) place kind → ⊥
term_apart scope wanted form t place kind one first = writes_clear one.writes wanted one.wanted_one place kind first.found
