-- What a form writes, it writes without a fault: variables, targets, sets, guards, and where a block leads to.
use Rattle.std.proofs.Common.{◌≡◌, ◌≢◌, ℕ, zero, suc, ◌+◌, ◌<◌, ◌≤◌, ◌||◌, ◌++◌, Bool, true, false, Option, None, Some, List, [], ◌∷◌, length, map, take, drop, get_or, refl, sym, ap, ap₂, ◌∙◌, subst, arith, slice_get, bytes_eq, codes}
use Rattle.std.specs.Prelude.{AllPairs, All}
use Rattle.std.proofs.lemmas.Bool.{or_right}
use Rattle.std.proofs.lemmas.Slice.Eq.{bytes_eq-Decides}
use Rattle.text_core.specs.Names.{is_among}
use Rattle.text_core.specs.declared.faults.Kind.{Kind}
use Rattle.forms.specs.Forms.{Form, parts_of, name_in}
use Rattle.machine_table.specs.Grammar.{Each, IsNameOf}
use Rattle.word_ops.specs.declared.sorts.Op.{Op}
use Rattle.word_ops.specs.declared.sorts.Sort.{Sort}
use Rattle.word_ops.specs.declared.sorts.Sort.TheVariants as sorts
use Rattle.word_terms.specs.Tree.{Tree}
use Rattle.goal_meaning.specs.Names.{is_reserved}
use Rattle.goal_meaning.specs.Rules.{has_register}
use Rattle.goal_meaning.specs.Views.{TargetTree}
use Rattle.goal_meaning.specs.WellFormed.{input_registers, sort_of_target}
use Rattle.goal_meaning.specs.declared.goals.InputReg.{InputReg}
use Rattle.goal_reader.specs.GoalTerms.{term_scope}
use Rattle.goal_reader.specs.Reading.{IsClear, names_of_inputs}
use Rattle.goal_reader.specs.Roles as roles
use Rattle.goal_reader.specs.Roles.{IsFaultAs, WritesTerm, a_list, own_name, fresh_register, term}
use Rattle.goal_reader.specs.Terms.{Writes}
use Rattle.goal_reader.specs.declared.scopes.Scope.{Scope}
use Rattle.goal_reader.proofs.NewNames.{own_name_clear, fresh_register_clear, input_only}
use Rattle.goal_reader.proofs.ReadParts.{register_told}
use Rattle.goal_reader.proofs.Walks.{parts_clear, no_role, as_role}
use Rattle.proc_goal.specs.ProcGrammar.{WritesVariable, WritesProcTarget, WritesWhen, WritesSet, WritesGo, block, done, guarded}
use Rattle.proc_goal.specs.ProcReading.{IsClearProc}
use Rattle.proc_goal.specs.ProcRoles.{a_guard, a_set, a_go, a_target}
use Rattle.proc_goal.specs.Views.{WhenTree}
use Rattle.proc_goal.specs.declared.procs.Target.{Target}
use Rattle.proc_goal.proofs.Leaves.{target_clear}
use Rattle.proc_goal.proofs.ListForms.{guard_clear, go_clear, name_among, set_clear}

-- ---- lists one behind the other
pub took_all : {X : Type 0} (xs ys : List X) → take (length xs) (xs ++ ys) ≡ xs
took_all [] ys = refl
took_all (x ∷ xs) ys = ap (λ zs. x ∷ zs) (took_all xs ys)

pub dropped_all : {X : Type 0} (xs ys : List X) → drop (length xs) (xs ++ ys) ≡ ys
dropped_all [] ys = refl
dropped_all (x ∷ xs) ys = dropped_all xs ys

-- ---- a variable
or_both : (a b : Bool) → a ≡ false → b ≡ false → a || b ≡ false
or_both a b e f = ap₂ (λ x y. x || y) e f

pub written_variable_clear : (vars : List InputReg) (form : Form) (v : InputReg) → WritesVariable form v → is_reserved v.name ≡ false → is_among (names_of_inputs vars) v.name ≡ false → has_register (input_registers vars) v.reg ≡ false
    → IsClear (a_list (roles.input [] vars)) form
written_variable_clear vars form v w own fresh free =
    let names = names_of_inputs vars in
    let parts = ap parts_of w.is.is in
    parts_clear (a_list (roles.input [] vars)) form _ parts (λ k o. let l = input_only [] vars form k o in let n = ap length parts in omega (arith, l, n)) (
      (λ other e. no_role other _ e),
      (
        (λ other e. as_role (own_name names) w.first (own_name_clear names w.first v.name (record { named = ap name_in w.named.is; free = or_both _ _ own fresh })) other e),
        ((λ other e. as_role (fresh_register (input_registers vars)) w.second (fresh_register_clear (input_registers vars) w.second v.reg (register_told w.second v.reg w.placed) free) other e), tt),
      ),
    )

-- ---- a target
pub written_target_clear : (names : List (List ℕ)) (form : Form) (t : Target) → WritesProcTarget names form t → IsClearProc (a_target names) form
written_target_clear names form _ (done is) =
    target_clear names form (codes "done") (ap name_in is.is) (ap (λ b. b || is_among names (codes "done")) ((bytes_eq-Decides (codes "done") (codes "done")).1 refl))
written_target_clear names form _ (block {at = at} {name = name} g is) =
    target_clear names form name (ap name_in is.is) (or_right (bytes_eq (codes "done") name) (is_among names name) (name_among names at name g))

pub written_go_clear : (names : List (List ℕ)) (form : Form) (t : Target) → WritesGo names form t → IsClearProc (a_go names) form
written_go_clear names form t w =
    let count = ap (λ (f : Form). length (parts_of f)) w.is.is in
    go_clear names form w.first (ap (λ (f : Form). slice_get (parts_of f) 1) w.is.is) (omega (arith, count)) (written_target_clear names w.first t w.target) (omega (arith, count))

-- what goal_reader says of all terms is handed in
module _ (term_clear : (scope : Scope) (wanted : Option Sort) (form : Form) (t : Tree Op) (place : ℕ) (kind : Kind) → WritesTerm scope wanted form t → IsFaultAs (term scope wanted) form place kind → ⊥) where
  term_read : (vars : List InputReg) (sort : Sort) (form : Form) (t : Tree Op) → Writes (term_scope vars) sort form t → IsClear (term (term_scope vars) (Some sort)) form
  term_read vars sort form t w = λ place kind. term_clear (term_scope vars) (Some sort) form t place kind (record { sort = sort; wanted_one = refl; writes = w })

  pub written_guard_clear : (vars : List InputReg) (names : List (List ℕ)) (form : Form) (w : WhenTree) → WritesWhen vars names (form ∷ []) (Some w) → IsClearProc (a_guard vars names) form
  written_guard_clear vars names form w (guarded first second is value target) =
      let count = ap (λ (f : Form). length (parts_of f)) is.is in
      guard_clear vars names form first (ap (λ (f : Form). slice_get (parts_of f) 1) is.is) (omega (arith, count)) (term_read vars sorts.Word first w.guard value) second
      (ap (λ (f : Form). slice_get (parts_of f) 2) is.is) (written_target_clear names second w.other target) (omega (arith, count))

  pub written_set_clear : (vars : List InputReg) (given : List (List ℕ)) (form : Form) (t : TargetTree) → WritesSet vars form t → is_among given t.name ≡ false → IsClearProc (a_set vars given) form
  written_set_clear vars given form t w fresh =
      let count = ap (λ (f : Form). length (parts_of f)) w.is.is in
      set_clear vars given form w.first (ap (λ (f : Form). slice_get (parts_of f) 1) w.is.is) (omega (arith, count)) t.name t.pin (record { named = ap name_in w.named.is; pinned = w.pinned; fresh = fresh }) w.second
      (ap (λ (f : Form). slice_get (parts_of f) 2) w.is.is) (term_read vars (sort_of_target t.name) w.second t.value w.value) (omega (arith, count))
