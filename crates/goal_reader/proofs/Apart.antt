-- A form that writes a term has no fault.
use Rattle.std.proofs.Common.{◌≡◌, ℕ, zero, suc, ◌+◌, Option, None, Some, List, length, refl, sym, ap, ◌∙◌, subst, arith, slice_get, option_map}
use Rattle.word_ops.specs.Meanings.{arity_of_op, operand_sort}
use Rattle.word_ops.specs.declared.sorts.Sort.{Sort}
use Rattle.word_ops.specs.declared.sorts.Op.{Op}
use Rattle.word_terms.specs.Tree.{Tree, Trees}
use Rattle.text_core.specs.declared.faults.Kind.{Kind}
use Rattle.forms.specs.Forms.{Form, Forms, Atom, atom, list, more, name, number, forms_list, name_in}
use Rattle.forms.specs.Faults.{own, inside}
use Rattle.forms.proofs.First.{no_fault}
use Rattle.goal_reader.specs.declared.scopes.Scope.{Scope}
use Rattle.goal_meaning.specs.declared.goals.DeclaredOp.{DeclaredOp}
use Rattle.goal_reader.specs.declared.scopes.Named.TheVariants.{Memory, Input, Variable, Let}
use Rattle.goal_reader.specs.Scopes.{operator_named}
use Rattle.goal_reader.specs.Terms.{Writes, WritesEach, memory, input, variable, binding, constant, application, nothing, operand}
use Rattle.goal_reader.specs.Roles.{Role, term, operator, IsOwn, part_role, IsFaultAs, IsWanted, operator_in}
use Rattle.goal_reader.proofs.Owns as owns

-- an atom has no parts
atom_clear : (role : Role) (p : ℕ) (a : Atom) → ((k : Kind) → IsOwn role (atom p a) k → ⊥) → (place : ℕ) (kind : Kind) → IsFaultAs role (atom p a) place kind → ⊥
atom_clear role p a clear = no_fault IsOwn part_role role (atom p a) clear (λ j part other place kind g. let e : None ≡ Some part = g in absurd cc)

pub operator_name_clear : (declared : List DeclaredOp) (form : Form) (bytes : List ℕ) (op : Op) → name_in form ≡ Some bytes → operator_named declared bytes ≡ Some op → (place : ℕ) (kind : Kind) → IsFaultAs (operator declared) form place kind → ⊥
operator_name_clear declared form bytes op n k =
    no_fault IsOwn part_role (operator declared) form (owns.operator_clear declared form bytes op n k)
    (λ j part other place kind g e. let f : None ≡ Some other = e in absurd cc)

pub at_role : (role other : Role) (form part : Form) (place : ℕ) (kind : Kind) → other ≡ role → part ≡ form → IsFaultAs other part place kind → IsFaultAs role form place kind
at_role role other form part place kind r f fault = subst (λ (x : Role). IsFaultAs x form place kind) r (subst (λ (x : Form). IsFaultAs other x place kind) f fault)

pub operand_role : (scope : Scope) (op : Op) (known : Option Op) (i : ℕ) (other : Role) → known ≡ Some op → option_map (λ o. term scope (Some (operand_sort o i))) known ≡ Some other → other ≡ term scope (Some (operand_sort op i))
operand_role scope op known i other k e =
    let f : Some other ≡ Some (term scope (Some (operand_sort op i))) = sym e ∙ ap (option_map (λ o. term scope (Some (operand_sort o i)))) k in cc

mutual
  pub writes_clear : {scope : Scope} {sort : Sort} {form : Form} {t : Tree Op} → Writes scope sort form t → (wanted : Option Sort) → IsWanted wanted sort → (place : ℕ) (kind : Kind) → IsFaultAs (term scope wanted) form place kind → ⊥
  writes_clear {scope} (memory {place = p} {bytes = bytes} l) wanted w place kind fault =
      atom_clear (term scope wanted) p (name bytes) (owns.name_clear scope p wanted bytes Memory l (λ e. cc) w) place kind fault
  writes_clear {scope} (input {place = p} {bytes = bytes} {register = r} l) wanted w place kind fault =
      atom_clear (term scope wanted) p (name bytes) (owns.name_clear scope p wanted bytes (Input r) l (λ e. cc) w) place kind fault
  writes_clear {scope} (variable {place = p} {bytes = bytes} {n = n} l) wanted w place kind fault =
      atom_clear (term scope wanted) p (name bytes) (owns.name_clear scope p wanted bytes (Variable n) l (λ e. cc) w) place kind fault
  writes_clear {scope} (binding {place = p} {bytes = bytes} {n = n} {sort = s} l) wanted w place kind fault =
      atom_clear (term scope wanted) p (name bytes) (owns.name_clear scope p wanted bytes (Let n s) l (λ e. cc) w) place kind fault
  writes_clear {scope} (constant {place = p} {n = n}) wanted w place kind fault =
      atom_clear (term scope wanted) p (number n) (owns.number_clear scope p wanted n w) place kind fault
  writes_clear {scope} (application {place = p} {head = q} {bytes = bytes} {op = op} {operands = operands} k s n each) wanted w place kind (own is placed) =
      owns.application_clear scope p (atom q (name bytes)) operands wanted op
      (record { known = k; count = (let c : length (forms_list operands) ≡ arity_of_op op = n in omega (arith, c)); wanted_one = subst (IsWanted wanted) s w }) kind is
  writes_clear {scope} (application {place = p} {head = q} {bytes = bytes} {op = op} {operands = operands} k s n each) wanted w place kind (inside zero part other a1 a2 g r fault) =
      let same : part ≡ atom q (name bytes) = cc in
      let role : other ≡ operator scope.declared = cc in
      operator_name_clear scope.declared (atom q (name bytes)) bytes op refl k place kind (at_role _ other _ part place kind role same fault)
  writes_clear {scope} (application {place = p} {head = q} {bytes = bytes} {op = op} {operands = operands} k s n each) wanted w place kind (inside (suc i) part other a1 a2 g r fault) =
      let role = operand_role scope op (operator_in scope.declared (list p (more (atom q (name bytes)) operands))) i other k r in
      each_clear each i part g place kind (at_role _ other _ part place kind (role ∙ ap (λ m. term scope (Some (operand_sort op m))) (omega arith)) refl fault)

  pub each_clear : {scope : Scope} {op : Op} {at : ℕ} {forms : Forms} {ts : Trees Op} → WritesEach scope op at forms ts → (i : ℕ) (part : Form) → slice_get (forms_list forms) i ≡ Some part → (place : ℕ) (kind : Kind) → IsFaultAs (term scope (Some (operand_sort op (at + i)))) part place kind → ⊥
  each_clear nothing i part g place kind fault = cc
  each_clear {scope} {op} {at} (operand {form = form} one others) zero part g place kind fault =
      let same : part ≡ form = cc in
      writes_clear one (Some (operand_sort op at)) refl place kind (at_role _ _ form part place kind (ap (λ m. term scope (Some (operand_sort op m))) (omega arith)) same fault)
  each_clear {scope} {op} {at} (operand one others) (suc i) part g place kind fault =
      each_clear others i part g place kind (at_role _ _ part part place kind (ap (λ m. term scope (Some (operand_sort op m))) (omega arith)) refl fault)
