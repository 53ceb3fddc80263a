-- Terms: a name, a number, or an operator's name and its operands between parentheses. Source: this project.
use Rattle.std.specs.Prelude.{ℕ, ◌≡◌, ◌+◌, List, length, Some}
use Rattle.word_ops.specs.Meanings.{arity_of_op, sort_of, operand_sort}
use Rattle.word_ops.specs.declared.sorts.Sort.{Sort}
use Rattle.word_ops.specs.declared.sorts.Sort.TheVariants as sorts
use Rattle.word_ops.specs.declared.sorts.Op.{Op}
use Rattle.word_ops.specs.declared.sorts.Op.TheVariants as ops
use Rattle.word_terms.specs.Tree as tree
use Rattle.word_terms.specs.Tree.{Tree, Trees}
use Rattle.forms.specs.Forms.{Form, Forms, atom, list, none, more, name, number, forms_list}
use Rattle.goal_reader.specs.declared.scopes.Scope.{Scope}
use Rattle.goal_reader.specs.declared.scopes.Named.TheVariants.{Memory, Input, Variable, Let}
use Rattle.goal_reader.specs.Scopes.{leaf_named, operator_named}

mutual
  -- the form writes this term of this sort
  pub data Writes (scope : Scope) : Sort → Form → Tree Op → Type 0 where
    memory : {place : ℕ} {bytes : List ℕ}
        → leaf_named scope.leaves bytes ≡ Some Memory
        → Writes scope sorts.Memory (atom place (name bytes)) (tree.application ops.Entry tree.none)
    input : {place : ℕ} {bytes : List ℕ} {register : ℕ}
        → leaf_named scope.leaves bytes ≡ Some (Input register)
        → Writes scope sorts.Word (atom place (name bytes)) (tree.application (ops.Input register) tree.none)
    variable : {place : ℕ} {bytes : List ℕ} {n : ℕ}
        → leaf_named scope.leaves bytes ≡ Some (Variable n)
        → Writes scope sorts.Word (atom place (name bytes)) (tree.variable n)
    binding : {place : ℕ} {bytes : List ℕ} {n : ℕ} {sort : Sort}
        → leaf_named scope.leaves bytes ≡ Some (Let n sort)
        → Writes scope sort (atom place (name bytes)) (tree.variable n)
    constant : {place n : ℕ}
        → Writes scope sorts.Word (atom place (number n)) (tree.application (ops.Constant n) tree.none)
    application : {place head : ℕ} {bytes : List ℕ} {op : Op} {sort : Sort} {operands : Forms} {trees : Trees Op}
        → operator_named scope.declared bytes ≡ Some op → sort ≡ sort_of op
        → length (forms_list operands) ≡ arity_of_op op
        → WritesEach scope op 0 operands trees
        → Writes scope sort (list place (more (atom head (name bytes)) operands)) (tree.application op trees)

  -- the forms write an operator's operands from this number on, each of the sort that the operator takes there
  pub data WritesEach (scope : Scope) : Op → ℕ → Forms → Trees Op → Type 0 where
    nothing : {op : Op} {at : ℕ} → WritesEach scope op at none tree.none
    operand : {op : Op} {at : ℕ} {form : Form} {forms : Forms} {one : Tree Op} {trees : Trees Op}
        → Writes scope (operand_sort op at) form one → WritesEach scope op (at + 1) forms trees
        → WritesEach scope op at (more form forms) (tree.more one trees)
