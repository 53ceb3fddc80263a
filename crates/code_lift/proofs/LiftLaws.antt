-- A text has one reading as lifts, or one first fault. What is said of all texts and tables is handed in.
use Rattle.std.proofs.Common.{◌≡◌, ℕ, List, length, Result, Ok, Err, IfOk, IfErr, subst}
use Rattle.text_core.proofs.Outcomes.{first_once}
use Rattle.text_core.specs.Faults.{IsFaultBy, IsFirst}
use Rattle.text_core.specs.Trees.{SexpTrees}
use Rattle.text_core.specs.declared.faults.Kind.{Kind}
use Rattle.text_core.specs.declared.faults.TextFault.{TextFault}
use Rattle.forms.specs.Forms.{Form, forms_list, forms_of}
use Rattle.forms.specs.Reading.{IsFirstReadFault, TextHasTrees}
use Rattle.forms.proofs.Told.{told_as}
use Rattle.machine_table.specs.Grammar.{WritesTable}
use Rattle.machine_table.specs.Reading.{IsClearTableForm}
use Rattle.machine_table.specs.Roles.{machine}
use Rattle.machine_table.specs.declared.tables.Table.{Table}
use Rattle.code_lift.specs.LiftGrammar.{IsFirstLiftFault, ReadsLifts, WritesLifts, in_forms, in_passes}
use Rattle.code_lift.specs.LiftRoles.{IsLiftTextFault}
use Rattle.code_lift.specs.Views.{LiftsTree}
use Rattle.code_lift.proofs.LiftOnce.{text_once, written_text_clear}

-- what is given, or told, says what follows from it
pub given_as : {X E : Type 0} (P Q : X → Type 0) → ((x : X) → P x → Q x) → (r : Result X E) → IfOk r P → IfOk r Q
given_as P Q step (Ok x) h = step x h
given_as P Q step (Err e) h = tt

pub refused_as : {X : Type 0} (IsAt IsOther : ℕ → Kind → Type 0) → ((p : ℕ) (k : Kind) → IsAt p k → IsOther p k) → (r : Result X TextFault) → IfErr r (IsFaultBy IsAt) → IfErr r (IsFaultBy IsOther)
refused_as IsAt IsOther step (Ok x) h = tt
refused_as IsAt IsOther step (Err e) h = told_as IsAt IsOther step e h

module _ (text : List ℕ) where
  abbrev FaultOf : SexpTrees → ℕ → Kind → Type 0
  FaultOf trees = IsLiftTextFault (length text) (forms_list (forms_of text trees))

  module _ (one_forest : (trees others : SexpTrees) → TextHasTrees text trees → TextHasTrees text others → trees ≡ others)
      (apart : (trees : SexpTrees) (place : ℕ) (kind : Kind) → TextHasTrees text trees → IsFirstReadFault text place kind → ⊥) where
    module _ (first : (place other : ℕ) (kind another : Kind) → IsFirstReadFault text place kind → IsFirstReadFault text other another → (place ≡ other) × (kind ≡ another)) where
      pub one_lift_fault : (place other : ℕ) (kind another : Kind) → IsFirstLiftFault text place kind → IsFirstLiftFault text other another → (place ≡ other) × (kind ≡ another)
      one_lift_fault place other kind another (in_passes f) (in_passes g) = first place other kind another f g
      one_lift_fault place other kind another (in_passes f) (in_forms trees has g) = absurd (apart trees place kind has f)
      one_lift_fault place other kind another (in_forms trees has f) (in_passes g) = absurd (apart trees other another has g)
      one_lift_fault place other kind another (in_forms trees has f) (in_forms others has2 g) =
          let same = one_forest others trees has2 has in
          first_once (FaultOf trees) place other kind another f (subst (λ (ts : SexpTrees). IsFirst (FaultOf ts) other another) same g)

    no_lift_fault : (trees : SexpTrees) → TextHasTrees text trees → ((place : ℕ) (kind : Kind) → FaultOf trees place kind → ⊥) → (place : ℕ) (kind : Kind) → IsFirstLiftFault text place kind → ⊥
    no_lift_fault trees has clear place kind (in_passes f) = apart trees place kind has f
    no_lift_fault trees has clear place kind (in_forms others has2 f) =
        clear place kind (subst (λ (ts : SexpTrees). FaultOf ts place kind) (one_forest others trees has2 has) f.found)

    pub reads_once : ((form : Form) (table other : Table) → WritesTable form table → WritesTable form other → table ≡ other) → (a b : LiftsTree) → ReadsLifts text a → ReadsLifts text b → a ≡ b
    reads_once table_once a b v w =
        let same = one_forest v.trees w.trees v.has w.has in
        text_once table_once (forms_list (forms_of text w.trees)) a b (subst (λ (ts : SexpTrees). WritesLifts (forms_list (forms_of text ts)) a) same v.written) w.written

    pub reads_apart : ((form : Form) (table : Table) → WritesTable form table → IsClearTableForm machine form) → (lifts : LiftsTree) (place : ℕ) (kind : Kind) → ReadsLifts text lifts → IsFirstLiftFault text place kind → ⊥
    reads_apart machine_clear lifts place kind w f =
        no_lift_fault w.trees w.has (written_text_clear machine_clear (length text) (forms_list (forms_of text w.trees)) lifts w.written) place kind f
