-- A form of a text, read as its role has it or as a machine, and what it adds.
use Rattle.std.proofs.Common.{◌≡◌, ℕ, None, List, [], refl, sym, subst}
use Rattle.text_core.specs.declared.faults.Kind.{Kind}
use Rattle.text_core.specs.Faults.{IsFirst}
use Rattle.forms.specs.Forms.{Form}
use Rattle.forms.specs.Faults.{own, inside}
use Rattle.machine_table.specs.Roles.{IsMachineFault}
use Rattle.machine_table.specs.Grammar.{Each}
use Rattle.machine_table.specs.Grammar as grammar
use Rattle.goal_reader.specs.Roles.{Role, Shape, a_list, a_machine, IsOwn, IsFaultAs}
use Rattle.goal_reader.specs.Reading.{IsClear}
use Rattle.goal_reader.specs.TextFaults.{IsFormFault, as_role, as_machine}
use Rattle.goal_reader.specs.TextDrafts.{IsClearForm, IsTextWritten, IsAxiomOf, IsGoalOf, no_table}
use Rattle.goal_reader.specs.Grammar.{WritesDeclaration}
use Rattle.goal_meaning.specs.declared.goals.Axiom.{Axiom}
use Rattle.goal_meaning.specs.declared.goals.Goal.{Goal}
use Rattle.goal_meaning.specs.declared.goals.DeclaredOp.{DeclaredOp}

no_list : (shape : Shape) → a_list shape ≡ a_machine → ⊥
no_list shape e = cc

as_form : (role : Role) (form : Form) → (role ≡ a_machine → ⊥) → (place : ℕ) (kind : Kind) → IsFormFault role form place kind → IsFaultAs role form place kind
as_form role form n place kind (as_role f) = f
as_form role form n place kind (as_machine e f) = absurd (n e)

pub list_first : (shape : Shape) (form : Form) (place : ℕ) (kind : Kind) → IsFirst (IsFaultAs (a_list shape) form) place kind → IsFirst (IsFormFault (a_list shape) form) place kind
list_first shape form place kind first = record {
  found = as_role first.found;
  earliest = λ p k f. first.earliest p k (as_form (a_list shape) form (no_list shape) p k f);
}

pub list_clear : (shape : Shape) (form : Form) → IsClear (a_list shape) form → IsClearForm (a_list shape) form
list_clear shape form clear place kind f = clear place kind (as_form (a_list shape) form (no_list shape) place kind f)

none_own : {form : Form} {kind : Kind} → IsOwn a_machine form kind → ⊥
none_own o = elim o [ ]

no_machine_role : (form : Form) (place : ℕ) (kind : Kind) → IsFaultAs a_machine form place kind → ⊥
no_machine_role form place kind (own o p) = none_own o
no_machine_role form place kind (inside at part other a1 a2 g e f) = cc

machine_fault : (form : Form) (place : ℕ) (kind : Kind) → IsFormFault a_machine form place kind → IsMachineFault form place kind
machine_fault form place kind (as_role f) = absurd (no_machine_role form place kind f)
machine_fault form place kind (as_machine e f) = f

pub machine_first : (form : Form) (place : ℕ) (kind : Kind) → IsFirst (IsMachineFault form) place kind → IsFirst (IsFormFault a_machine form) place kind
machine_first form place kind first = record {
  found = as_machine refl first.found;
  earliest = λ p k f. first.earliest p k (machine_fault form p k f);
}

pub machine_clear : (form : Form) → ((place : ℕ) (kind : Kind) → IsMachineFault form place kind → ⊥) → IsClearForm a_machine form
machine_clear form clear place kind f = clear place kind (machine_fault form place kind f)

pub empty_text : (ops : List DeclaredOp) (axs : List Axiom) (gs : List Goal) → ops ≡ [] → axs ≡ [] → gs ≡ [] → IsTextWritten [] (record { table = None; declared = ops; axioms = axs; goals = gs })
empty_text ops axs gs e f g = record {
  sorted = refl;
  machine = no_table;
  declared = subst (λ xs. Each WritesDeclaration [] xs) (sym e) grammar.none;
  equations = subst (λ xs. Each (IsAxiomOf ops) [] xs) (sym f) grammar.none;
  goals = subst (λ xs. Each (IsGoalOf ops) [] xs) (sym g) grammar.none;
}
