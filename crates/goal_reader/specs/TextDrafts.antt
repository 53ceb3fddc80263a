-- A text that is being read: what each form adds to it, and what the forms before give. No public clause rests on this.
-- Source: this project.
use Rattle.std.specs.Prelude.{ℕ, ◌≡◌, ◌≢◌, ◌≤◌, false, List, [], ◌∷◌, ◌++◌, get_or, length, Option, Some, None, All, AllPairs}
use Rattle.text_core.specs.Limits.{most_declared, most_axioms, most_goals}
use Rattle.forms.specs.Forms.{Form}
use Rattle.goal_reader.specs.Drafts.{names_of_goals}
use Rattle.goal_reader.specs.Grammar.{WritesDeclaration, WritesAxiom, WritesGoal}
use Rattle.goal_reader.specs.Roles as roles
use Rattle.goal_reader.specs.Roles.{Role, a_list, a_machine, wrong, declaration_in, declared_in, names_given, of_rank, text_keywords}
use Rattle.goal_meaning.specs.Names.{is_reserved}
use Rattle.goal_reader.specs.TextFaults.{IsFormFault}
use Rattle.goal_meaning.specs.Views.{axiom_view, goal_view}
use Rattle.goal_meaning.specs.declared.goals.Axiom.{Axiom}
use Rattle.goal_meaning.specs.declared.goals.Goal.{Goal}
use Rattle.goal_meaning.specs.declared.goals.DeclaredOp.{DeclaredOp}
use Rattle.goal_reader.specs.declared.texts.TextDraft.{TextDraft}
use Rattle.machine_table.specs.Grammar.{Each, WritesTable}
use Rattle.machine_table.specs.declared.tables.Table.{Table}
use Rattle.text_core.specs.declared.faults.Kind.{Kind}

-- a form of a text without faults
abbrev pub IsClearForm : Role → Form → Type 0
IsClearForm role form = (place : ℕ) (kind : Kind) → IsFormFault role form place kind → ⊥

abbrev pub with_table : TextDraft → Table → TextDraft
with_table d table = record {
  table = Some table;
  declared = d.declared;
  axioms = d.axioms;
  goals = d.goals;
}

abbrev pub with_declaration : TextDraft → DeclaredOp → TextDraft
with_declaration d o = record {
  table = d.table;
  declared = d.declared ++ o ∷ [];
  axioms = d.axioms;
  goals = d.goals;
}

abbrev pub with_axiom : TextDraft → Axiom → TextDraft
with_axiom d a = record {
  table = d.table;
  declared = d.declared;
  axioms = d.axioms ++ a ∷ [];
  goals = d.goals;
}

abbrev pub with_goal : TextDraft → Goal → TextDraft
with_goal d g = record {
  table = d.table;
  declared = d.declared;
  axioms = d.axioms;
  goals = d.goals ++ g ∷ [];
}

abbrev pub IsAxiomOf : List DeclaredOp → Form → Axiom → Type 0
IsAxiomOf declared form a = WritesAxiom declared form (axiom_view a)

abbrev pub IsGoalOf : List DeclaredOp → Form → Goal → Type 0
IsGoalOf declared form g = WritesGoal declared form (goal_view g)

-- what a form with the keyword of this number adds
pub data IsNextForm (form : Form) (d : TextDraft) : ℕ → TextDraft → Type 0 where
  machine : {next : TextDraft} (t : Table) → WritesTable form t → next ≡ with_table d t → IsNextForm form d 0 next
  declaration : {next : TextDraft} (o : DeclaredOp) → declaration_in form ≡ Some o
      → next ≡ with_declaration d o → IsNextForm form d 1 next
  equation : {next : TextDraft} (a : Axiom) → IsAxiomOf d.declared form a
      → next ≡ with_axiom d a → IsNextForm form d 2 next
  goal : {next : TextDraft} (g : Goal) → IsGoalOf d.declared form g → next ≡ with_goal d g → IsNextForm form d 3 next

-- what a form with the keyword of this number is read as, behind what was read
abbrev pub text_role : TextDraft → ℕ → Role
text_role d at =
    get_or
    (a_machine ∷ a_list (roles.declaration d.declared) ∷ a_list (roles.equation d.declared)
    ∷ a_list (roles.goal d.declared (names_of_goals d.goals)) ∷ [])
    at wrong

-- the draft is that of the forms before
pub record IsTextDraft (before : List Form) (d : TextDraft) : Type 0 where
  pub declared : d.declared ≡ declared_in before
  pub goals : names_of_goals d.goals ≡ names_given (of_rank text_keywords 3 before)

-- [ machine ]
pub data IsTableWritten : List Form → Option Table → Type 0 where
  no_table : IsTableWritten [] None
  one_table : {form : Form} {table : Table} → WritesTable form table → IsTableWritten (form ∷ []) (Some table)

-- the forms before stand in order, and each group writes what the draft has of it
pub record IsTextWritten (before : List Form) (d : TextDraft) : Type 0 where
  pub sorted : before
      ≡ of_rank text_keywords 0 before ++ (of_rank text_keywords 1 before
      ++ (of_rank text_keywords 2 before ++ of_rank text_keywords 3 before))
  pub machine : IsTableWritten (of_rank text_keywords 0 before) d.table
  pub declared : Each WritesDeclaration (of_rank text_keywords 1 before) d.declared
  pub equations : Each (IsAxiomOf d.declared) (of_rank text_keywords 2 before) d.axioms
  pub goals : Each (IsGoalOf d.declared) (of_rank text_keywords 3 before) d.goals

-- the names that were read keep the rules of a text, and so do the numbers of forms
pub record KeepsText (d : TextDraft) : Type 0 where
  pub op_names : AllPairs (λ (a b : DeclaredOp). a.name ≢ b.name) d.declared
  pub own_names : All (λ (a : DeclaredOp). is_reserved a.name ≡ false) d.declared
  pub goal_names : AllPairs (λ (g h : Goal). g.name ≢ h.name) d.goals
  pub few : (length d.declared ≤ most_declared) × (length d.axioms ≤ most_axioms) × (length d.goals ≤ most_goals)
