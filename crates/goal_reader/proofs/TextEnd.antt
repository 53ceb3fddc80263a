-- The forms of a text that were read make the input, and which fault of a text is first.
use Rattle.std.proofs.Common.{◌≡◌, ◌≢◌, ℕ, ◌<◌, ◌≤◌, ◌||◌, if◌then◌else◌, Bool, true, false, Option, None, Some, List, [], ◌∷◌, length, refl, sym, ap, ◌∙◌, subst, arith, slice_get, get_or, All, Ok, Err, Result, IfOk, IfErr}
use Rattle.std.specs.Prelude.{AllPairs, unwrap_or, is_none}
use Rattle.std.specs.List.{list_any}
use Rattle.std.proofs.lemmas.List.{length-map}
use Rattle.std.proofs.lemmas.Option.{slice_get-get_or}
use Rattle.text_core.specs.declared.faults.Kind.{Kind}
use Rattle.text_core.specs.declared.faults.Kind.TheVariants.{BadForm}
use Rattle.text_core.specs.declared.sexps.Sexp.{Sexp}
use Rattle.text_core.specs.Faults.{IsFirst, IsFaultBy, RefusesUnlessMemory}
use Rattle.text_core.specs.Trees.{SexpTrees}
use Rattle.text_core.specs.declared.faults.TextFault.{TextFault}
use Rattle.text_core.specs.declared.faults.TextFault.TheVariants as answers
use Rattle.text_core.proofs.Outcomes.{first_once}
use Rattle.forms.specs.Reading.{TextHasTrees, IsFirstReadFault}
use Rattle.text_core.specs.Sexps.{sexp_tree, sexp_trees}
use Rattle.forms.specs.Forms.{Form, more, Stand, forms_from, forms_list, form_of, forms_of, sexp_form, sexp_forms}
use Rattle.machine_table.specs.Grammar.{Each}
use Rattle.machine_table.specs.Tables.{ev6}
use Rattle.machine_table.specs.declared.tables.Table.{Table}
use Rattle.goal_meaning.specs.declared.goals.Goal.{Goal}
use Rattle.goal_meaning.specs.declared.goals.Input.{Input}
use Rattle.goal_meaning.specs.declared.goals.DeclaredOp.{DeclaredOp}
use Rattle.goal_reader.specs.declared.texts.TextDraft.{TextDraft}
use Rattle.goal_reader.specs.Grammar.{WritesDeclaration, WritesAxiom, WritesGoal, WritesMachine, WritesText, IsFirstTextFault, in_passes, in_forms, built_in, own}
use Rattle.goal_meaning.specs.Names as goal_names
use Rattle.goal_reader.specs.Roles.{is_of_rank, of_rank, text_keywords, IsTextFault, no_goal, in_form, in_machine}
use Rattle.goal_reader.specs.TextDrafts.{IsTextWritten, IsTableWritten, KeepsText, IsAxiomOf, IsGoalOf, one_table}
use Rattle.goal_reader.specs.TextFaults.{IsFormFault, as_role, as_machine, role_at, AreClear}
use Rattle.goal_meaning.specs.Views.{GoalTree, input_view, goal_view, axiom_view}
use Rattle.goal_reader.proofs.Different.{pairs_map}
use Rattle.goal_reader.proofs.Finish.{each_map}
use Rattle.goal_reader.proofs.Fixed.{got_within}
use Rattle.goal_reader.proofs.Heads.{list_from, part_form}
use Rattle.goal_reader.proofs.Keeping.{each_length}
use Rattle.goal_reader.proofs.TextFirst.{form_first, goal_lacks}

-- ---- the forms of the code
pub forms_map : (text : List ℕ) (sexps : List Sexp) → forms_of text (sexp_trees sexps) ≡ forms_from (sexp_forms text sexps)
unfolding sexp_form
forms_map text [] = refl
forms_map text (sexp ∷ sexps) = ap (λ fs. more (form_of text (sexp_tree sexp)) fs) (forms_map text sexps)

pub forms_are : (text : List ℕ) (sexps : List Sexp) → forms_list (forms_of text (sexp_trees sexps)) ≡ sexp_forms text sexps
forms_are text sexps = ap forms_list (forms_map text sexps) ∙ list_from (sexp_forms text sexps)

pub nth_form : (text : List ℕ) (sexps : List Sexp) (i : ℕ) (sexp : Sexp) → i < length sexps → sexp ≡ get_or sexps i sexp → slice_get (sexp_forms text sexps) i ≡ Some (sexp_form text sexp)
nth_form text sexps i sexp l is = part_form text sexps i sexp (slice_get-get_or sexps i sexp l ∙ ap Some (sym is))

-- ---- the first fault
pub form_is_first : (size : ℕ) (all : List Form) → Stand 0 size (forms_from all) → (at : ℕ) (form : Form) (place : ℕ) (kind : Kind) → slice_get all at ≡ Some form → AreClear all at
    → IsFirst (IsFormFault (role_at all at form) form) place kind → IsFirst (IsTextFault size all) place kind
form_is_first size all h at form place kind =
    subst (λ (fs : List Form). slice_get fs at ≡ Some form → AreClear fs at → IsFirst (IsFormFault (role_at fs at form) form) place kind → IsFirst (IsTextFault size fs) place kind) (list_from all)
    (form_first size (forms_from all) h at form place kind)

goal_is_missing : (size : ℕ) (all : List Form) → Stand 0 size (forms_from all) → AreClear all (length all) → list_any (is_of_rank text_keywords 3) all ≡ false → IsFirst (IsTextFault size all) size BadForm
goal_is_missing size all h =
    subst (λ (fs : List Form). AreClear fs (length fs) → list_any (is_of_rank text_keywords 3) fs ≡ false → IsFirst (IsTextFault size fs) size BadForm) (list_from all)
    (goal_lacks size (forms_from all) h)

none_kept : (b : Bool) (f : Form) (rest : List Form) (other : Bool) → (if b then f ∷ rest else rest) ≡ [] → (rest ≡ [] → other ≡ false) → b || other ≡ false
none_kept true f rest other e later = cc
none_kept false f rest other e later = later e

none_of_rank : (fs : List Form) → of_rank text_keywords 3 fs ≡ [] → list_any (is_of_rank text_keywords 3) fs ≡ false
none_of_rank [] e = refl
none_of_rank (f ∷ fs) e = none_kept (is_of_rank text_keywords 3 f) f (of_rank text_keywords 3 fs) (list_any (is_of_rank text_keywords 3) fs) e (none_of_rank fs)

no_items : {X : Type 0} (xs : List X) → length xs ≡ 0 → xs ≡ []
no_items [] e = refl
no_items (x ∷ xs) e = absurd (omega (arith, e))

pub missing_goal : (size : ℕ) (all : List Form) (d : TextDraft) (i : ℕ) → Stand 0 size (forms_from all) → IsTextWritten all d → AreClear all i → length all ≤ i → d.goals ≡ [] → IsFirst (IsTextFault size all) size BadForm
missing_goal size all d i h w clear most none =
    let count = each_length (IsGoalOf d.declared) (of_rank text_keywords 3 all) d.goals w.goals in
    let zero_goals = ap length none in
    goal_is_missing size all h (λ j form place kind l g f. clear j form place kind (omega (arith, l, most)) g f)
    (none_of_rank all (no_items (of_rank text_keywords 3 all) (omega (arith, count, zero_goals))))

kept_some : (b : Bool) (f : Form) (rest : List Form) (other : Bool) → 0 < length (if b then f ∷ rest else rest) → (0 < length rest → other ≡ true) → b || other ≡ true
kept_some true f rest other l later = refl
kept_some false f rest other l later = later l

some_of_rank : (fs : List Form) → 0 < length (of_rank text_keywords 3 fs) → list_any (is_of_rank text_keywords 3) fs ≡ true
some_of_rank [] l = absurd (omega (arith, l))
some_of_rank (f ∷ fs) l = kept_some (is_of_rank text_keywords 3 f) f (of_rank text_keywords 3 fs) (list_any (is_of_rank text_keywords 3) fs) l (some_of_rank fs)

pub some_goals : (gs : List Goal) (b : Bool) → b ≡ false → (gs ≡ [] → b ≡ true) → 0 < length gs
some_goals [] b f h = let e : true ≡ false = sym (h refl) ∙ f in cc
some_goals (g ∷ gs) b f h = omega arith

-- forms that were all read have no fault
pub no_fault : (size : ℕ) (all : List Form) (d : TextDraft) (i : ℕ) → IsTextWritten all d → AreClear all i → length all ≤ i → 0 < length d.goals → (place : ℕ) (kind : Kind) → IsTextFault size all place kind → ⊥
no_fault size all d i w clear most some place kind (no_goal e p) =
    let count = each_length (IsGoalOf d.declared) (of_rank text_keywords 3 all) d.goals w.goals in
    let f : true ≡ false = sym (some_of_rank all (omega (arith, count, some))) ∙ e in
    cc
no_fault size all d i w clear most some place kind (in_form at form g f) = let l = got_within all at form g in clear at form place kind (omega (arith, l, most)) g (as_role f)
no_fault size all d i w clear most some place kind (in_machine at form g e f) = let l = got_within all at form g in clear at form place kind (omega (arith, l, most)) g (as_machine e f)

-- ---- one first fault, or none; what forms says of all texts is handed in
module _ (text : List ℕ) where
  abbrev FaultOf : SexpTrees → ℕ → Kind → Type 0
  FaultOf trees = IsTextFault (length text) (forms_list (forms_of text trees))

  module _ (one_forest : (trees others : SexpTrees) → TextHasTrees text trees → TextHasTrees text others → trees ≡ others)
      (apart : (trees : SexpTrees) (place : ℕ) (kind : Kind) → TextHasTrees text trees → IsFirstReadFault text place kind → ⊥) where
    module _ (first : (place other : ℕ) (kind another : Kind) → IsFirstReadFault text place kind → IsFirstReadFault text other another → (place ≡ other) × (kind ≡ another)) where
      pub one_text_fault : (place other : ℕ) (kind another : Kind) → IsFirstTextFault text place kind → IsFirstTextFault text other another → (place ≡ other) × (kind ≡ another)
      one_text_fault place other kind another (in_passes f) (in_passes g) = first place other kind another f g
      one_text_fault place other kind another (in_passes f) (in_forms trees has g) = absurd (apart trees place kind has f)
      one_text_fault place other kind another (in_forms trees has f) (in_passes g) = absurd (apart trees other another has g)
      one_text_fault place other kind another (in_forms trees has f) (in_forms others has2 g) =
          let same = one_forest others trees has2 has in
          first_once (FaultOf trees) place other kind another f (subst (λ (ts : SexpTrees). IsFirst (FaultOf ts) other another) same g)

    pub no_text_fault : (trees : SexpTrees) → TextHasTrees text trees → ((place : ℕ) (kind : Kind) → FaultOf trees place kind → ⊥) → (place : ℕ) (kind : Kind) → IsFirstTextFault text place kind → ⊥
    no_text_fault trees has clear place kind (in_passes f) = apart trees place kind has f
    no_text_fault trees has clear place kind (in_forms others has2 f) =
        clear place kind (subst (λ (ts : SexpTrees). FaultOf ts place kind) (one_forest others trees has2 has) f.found)

err_refuses : (X : Type 0) (First : ℕ → Kind → Type 0) → ((p q : ℕ) (k l : Kind) → First p k → First q l → (p ≡ q) × (k ≡ l)) → (f : TextFault) (place : ℕ) (kind : Kind) → First place kind → IsFaultBy First f → RefusesUnlessMemory {X = X} place kind (Err f)
err_refuses X First once (answers.Fault f) place kind first found = once f.place place f.kind kind found first
err_refuses X First once answers.Memory place kind first found = tt

pub refuses_by : {X : Type 0} (First : ℕ → Kind → Type 0) → ((p q : ℕ) (k l : Kind) → First p k → First q l → (p ≡ q) × (k ≡ l)) → (r : Result X TextFault) → IfOk r (λ _. (p : ℕ) (k : Kind) → First p k → ⊥) → IfErr r (IsFaultBy First)
    → (place : ℕ) (kind : Kind) → First place kind → RefusesUnlessMemory place kind r
refuses_by First once (Ok x) ok err place kind first = ok place kind first
refuses_by {X} First once (Err f) ok err place kind first = err_refuses X First once f place kind first err

-- ---- the input
machine_written : (fs : List Form) (o : Option Table) (t : Table) (b : Bool) → IsTableWritten fs o → t ≡ unwrap_or o ev6 → b ≡ is_none o → WritesMachine fs t b
machine_written [] None t b w e f = subst (λ x. WritesMachine [] x b) (sym e) (subst (λ x. WritesMachine [] ev6 x) (sym f) built_in)
machine_written (form ∷ fs) None t b w e f = elim w [ ]
machine_written fs (Some table) t b (one_table is) e f = subst (λ x. WritesMachine fs x b) (sym e) (subst (λ x. WritesMachine fs table x) (sym f) (own is))

pub text_written : (fs : List Form) (d : TextDraft) (i : Input) → IsTextWritten fs d → KeepsText d → 0 < length d.goals → i.table ≡ unwrap_or d.table ev6 → i.builtin ≡ is_none d.table
    → i.ops ≡ d.declared → i.axioms ≡ d.axioms → i.goals ≡ d.goals → WritesText fs (input_view i)
text_written fs d i w k some table builtin ops axs gs =
    let axiom_count = length-map i.axioms axiom_view in
    let goal_count = length-map i.goals goal_view in
    let o = ap length ops in
    let a = ap length axs in
    let g = ap length gs in
    let few = k.few in
    record {
      machines = of_rank text_keywords 0 fs;
      ops = of_rank text_keywords 1 fs;
      axioms = of_rank text_keywords 2 fs;
      goals = of_rank text_keywords 3 fs;
      are = w.sorted;
      machine = machine_written (of_rank text_keywords 0 fs) d.table i.table i.builtin w.machine table builtin;
      declared = subst (λ ds. Each WritesDeclaration (of_rank text_keywords 1 fs) ds) (sym ops) w.declared;
      equations = each_map (WritesAxiom i.ops) axiom_view (of_rank text_keywords 2 fs) i.axioms
          (subst (λ xs. Each (IsAxiomOf i.ops) (of_rank text_keywords 2 fs) xs) (sym axs) (subst (λ (ds : List DeclaredOp). Each (IsAxiomOf ds) (of_rank text_keywords 2 fs) d.axioms) (sym ops) w.equations));
      all_goals = each_map (WritesGoal i.ops) goal_view (of_rank text_keywords 3 fs) i.goals
          (subst (λ xs. Each (IsGoalOf i.ops) (of_rank text_keywords 3 fs) xs) (sym gs) (subst (λ (ds : List DeclaredOp). Each (IsGoalOf ds) (of_rank text_keywords 3 fs) d.goals) (sym ops) w.goals));
      op_names = subst (λ ds. AllPairs (λ (x y : DeclaredOp). x.name ≢ y.name) ds) (sym ops) k.op_names;
      own_names = subst (λ ds. All (λ (x : DeclaredOp). goal_names.is_reserved x.name ≡ false) ds) (sym ops) k.own_names;
      goal_names = pairs_map (λ (x y : GoalTree). x.name ≢ y.name) goal_view i.goals (subst (λ xs. AllPairs (λ (x y : Goal). x.name ≢ y.name) xs) (sym gs) k.goal_names);
      some_goal = omega (arith, some, goal_count, g);
      few = (omega (arith, o, few.0), omega (arith, axiom_count, a, few.1), omega (arith, goal_count, g, few.2));
    }
