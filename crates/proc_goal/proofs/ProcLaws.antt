-- A text has one reading as a proc, or one first fault. What is said of all texts, terms and tables below is handed in.
use Rattle.std.proofs.Common.{◌≡◌, ℕ, List, length, Option, Result, Ok, Err, IfOk, IfErr, sym, subst}
use Rattle.text_core.proofs.Outcomes.{first_once}
use Rattle.text_core.specs.Faults.{IsFaultBy, IsFirst}
use Rattle.text_core.specs.declared.faults.TextFault.{TextFault}
use Rattle.forms.proofs.Told.{told_as}
use Rattle.text_core.specs.Trees.{SexpTrees}
use Rattle.text_core.specs.declared.faults.Kind.{Kind}
use Rattle.forms.specs.Forms.{Form, forms_list, forms_of}
use Rattle.forms.specs.Reading.{IsFirstReadFault, TextHasTrees}
use Rattle.machine_table.specs.Grammar.{WritesTable}
use Rattle.machine_table.specs.Reading.{IsClearTableForm}
use Rattle.machine_table.specs.Roles.{machine}
use Rattle.machine_table.specs.declared.tables.Table.{Table}
use Rattle.word_ops.specs.declared.sorts.Op.{Op}
use Rattle.word_ops.specs.declared.sorts.Sort.{Sort}
use Rattle.word_terms.specs.Tree.{Tree}
use Rattle.goal_reader.specs.Roles.{IsFaultAs, WritesTerm, term}
use Rattle.goal_reader.specs.declared.scopes.Scope.{Scope}
use Rattle.proc_goal.specs.ProcGrammar.{IsFirstProcFault, ReadsProc, WritesProcText, in_forms, in_passes}
use Rattle.proc_goal.specs.ProcRoles.{IsProcTextFault}
use Rattle.proc_goal.specs.Views.{ProcTree}
use Rattle.proc_goal.proofs.ProcClear.{written_text_clear}
use Rattle.proc_goal.proofs.ProcOnce.{text_once}

-- what is given, or told, says what follows from it
pub ok_as : {X E : Type 0} (P Q : X → Type 0) → ((x : X) → P x → Q x) → (r : Result X E) → IfOk r P → IfOk r Q
ok_as P Q step (Ok x) h = step x h
ok_as P Q step (Err e) h = tt

pub err_as : {X : Type 0} (IsAt IsOther : ℕ → Kind → Type 0) → ((p : ℕ) (k : Kind) → IsAt p k → IsOther p k) → (r : Result X TextFault) → IfErr r (IsFaultBy IsAt) → IfErr r (IsFaultBy IsOther)
err_as IsAt IsOther step (Ok x) h = tt
err_as IsAt IsOther step (Err e) h = told_as IsAt IsOther step e h

module _ (text : List ℕ) where
  abbrev FaultOf : SexpTrees → ℕ → Kind → Type 0
  FaultOf trees = IsProcTextFault (length text) (forms_list (forms_of text trees))

  module _ (one_forest : (trees others : SexpTrees) → TextHasTrees text trees → TextHasTrees text others → trees ≡ others)
      (apart : (trees : SexpTrees) (place : ℕ) (kind : Kind) → TextHasTrees text trees → IsFirstReadFault text place kind → ⊥) where
    module _ (first : (place other : ℕ) (kind another : Kind) → IsFirstReadFault text place kind → IsFirstReadFault text other another → (place ≡ other) × (kind ≡ another)) where
      pub one_proc_fault : (place other : ℕ) (kind another : Kind) → IsFirstProcFault text place kind → IsFirstProcFault text other another → (place ≡ other) × (kind ≡ another)
      one_proc_fault place other kind another (in_passes f) (in_passes g) = first place other kind another f g
      one_proc_fault place other kind another (in_passes f) (in_forms trees has g) = absurd (apart trees place kind has f)
      one_proc_fault place other kind another (in_forms trees has f) (in_passes g) = absurd (apart trees other another has g)
      one_proc_fault place other kind another (in_forms trees has f) (in_forms others has2 g) =
          let same = one_forest others trees has2 has in
          first_once (FaultOf trees) place other kind another f (subst (λ (ts : SexpTrees). IsFirst (FaultOf ts) other another) same g)

    pub no_proc_fault : (trees : SexpTrees) → TextHasTrees text trees → ((place : ℕ) (kind : Kind) → FaultOf trees place kind → ⊥) → (place : ℕ) (kind : Kind) → IsFirstProcFault text place kind → ⊥
    no_proc_fault trees has clear place kind (in_passes f) = apart trees place kind has f
    no_proc_fault trees has clear place kind (in_forms others has2 f) =
        clear place kind (subst (λ (ts : SexpTrees). FaultOf ts place kind) (one_forest others trees has2 has) f.found)

    pub reads_once : ((scope : Scope) (wanted : Option Sort) (form : Form) (t u : Tree Op) → WritesTerm scope wanted form t → WritesTerm scope wanted form u → t ≡ u)
        → ((form : Form) (table other : Table) → WritesTable form table → WritesTable form other → table ≡ other) → (p q : ProcTree) → ReadsProc text p → ReadsProc text q → p ≡ q
    reads_once term_once table_once p q a b =
        let same = one_forest a.trees b.trees a.has b.has in
        text_once term_once table_once (forms_list (forms_of text b.trees)) p q (subst (λ (ts : SexpTrees). WritesProcText (forms_list (forms_of text ts)) p) same a.written) b.written

    pub reads_apart : ((scope : Scope) (wanted : Option Sort) (form : Form) (t : Tree Op) (place : ℕ) (kind : Kind) → WritesTerm scope wanted form t → IsFaultAs (term scope wanted) form place kind → ⊥)
        → ((form : Form) (table : Table) → WritesTable form table → IsClearTableForm machine form) → (p : ProcTree) (place : ℕ) (kind : Kind) → ReadsProc text p → IsFirstProcFault text place kind → ⊥
    reads_apart term_clear machine_clear p place kind a f =
        no_proc_fault a.trees a.has (written_text_clear term_clear machine_clear (length text) (forms_list (forms_of text a.trees)) p a.written) place kind f
