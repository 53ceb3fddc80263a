-- The grammar of lifts: which forms write them, which texts they stand in, and the first fault of a text. Source: this
-- project.
use Rattle.std.specs.Prelude.{ℕ, ◌≡◌, ◌≢◌, ◌<◌, ◌≤◌, List, [], ◌∷◌, ◌++◌, AllPairs, length, codes, Option, None, Some}
use Rattle.text_core.specs.Faults.{IsFirst}
use Rattle.text_core.specs.Trees.{SexpTrees}
use Rattle.text_core.specs.declared.faults.Kind.{Kind}
use Rattle.forms.specs.Forms.{Form, list, forms_from, forms_list, forms_of}
use Rattle.forms.specs.Reading.{IsFirstReadFault, TextHasTrees}
use Rattle.machine_table.specs.Grammar.{Each, IsListOf, IsNameOf, IsNumberOf}
use Rattle.goal_reader.specs.Grammar.{IsRegister, WritesMachine}
use Rattle.code_lift.specs.LiftRoles.{IsLiftTextFault}
use Rattle.code_lift.specs.Limits.{most_lifts}
use Rattle.code_lift.specs.Views.{LiftTree, LiftsTree}
use Rattle.code_lift.specs.WellFormed.{KeepsLiftRules}

-- ( {NUMBER} )
pub record WritesNumbers (form : Form) (numbers : List ℕ) : Type 0 where
  pub place : ℕ
  pub parts : List Form
  pub is : form ≡ list place (forms_from parts)
  pub each : Each (λ f n. IsNumberOf n f) parts numbers

-- ( out {REGISTER} ), or the same by another keyword
pub record WritesRegisters (keyword : List ℕ) (form : Form) (registers : List ℕ) : Type 0 where
  pub parts : List Form
  pub is : IsListOf keyword parts form
  pub each : Each (λ f r. IsRegister r f) parts registers

-- [( pool {REGISTER} )]
pub data WritesLiftPool : List Form → Option (List ℕ) → Type 0 where
  none_given : WritesLiftPool [] None
  one_given : {form : Form} {registers : List ℕ} → WritesRegisters (codes "pool") form registers
      → WritesLiftPool (form ∷ []) (Some registers)

-- ( lift NAME ( {NUMBER} ) ( out {REGISTER} ) [( pool {REGISTER} )] )
pub record WritesLift (form : Form) (lift : LiftTree) : Type 0 where
  pub name_form : Form
  pub words_form : Form
  pub out_form : Form
  pub pools : List Form
  pub is : IsListOf (codes "lift") (name_form ∷ words_form ∷ out_form ∷ pools) form
  pub named : IsNameOf lift.name name_form
  pub words : WritesNumbers words_form lift.words
  pub out : WritesRegisters (codes "out") out_form lift.out
  pub pool : WritesLiftPool pools lift.pool
  pub rules : KeepsLiftRules lift

-- [machine] lift {lift}
pub record WritesLifts (forms : List Form) (lifts : LiftsTree) : Type 0 where
  pub machines : List Form
  pub others : List Form
  pub are : forms ≡ machines ++ others
  pub machine : WritesMachine machines lifts.table lifts.builtin
  pub each : Each WritesLift others lifts.lifts
  pub differ : AllPairs (λ (a b : LiftTree). a.name ≢ b.name) lifts.lifts
  pub some : 0 < length lifts.lifts
  pub few : length lifts.lifts ≤ most_lifts

-- The text reads as these lifts.
pub record ReadsLifts (text : List ℕ) (lifts : LiftsTree) : Type 0 where
  pub trees : SexpTrees
  pub has : TextHasTrees text trees
  pub written : WritesLifts (forms_list (forms_of text trees)) lifts

-- The first fault of a text: of its bytes, else of its parentheses, else of its forms.
pub data IsFirstLiftFault (text : List ℕ) : ℕ → Kind → Type 0 where
  in_passes : {place : ℕ} {kind : Kind} → IsFirstReadFault text place kind → IsFirstLiftFault text place kind
  in_forms : {place : ℕ} {kind : Kind} (trees : SexpTrees) → TextHasTrees text trees
      → IsFirst (IsLiftTextFault (length text) (forms_list (forms_of text trees))) place kind
      → IsFirstLiftFault text place kind
