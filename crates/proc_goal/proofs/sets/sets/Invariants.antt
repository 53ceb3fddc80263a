use Rattle.std.proofs.Common.{◌≡◌, ◌≢◌, ◌≤◌, ◌++◌, ℕ, List, length, map, take}
use Rattle.std.specs.Prelude.{AllPairs}
use Rattle.forms.specs.Forms.{Form, sexp_forms}
use Rattle.goal_meaning.specs.Views.{TargetTree, target_view}
use Rattle.machine_table.specs.Grammar.{Each}
use Rattle.proc_goal.specs.ProcGrammar.{WritesSet}
use Rattle.proc_goal.specs.ProcReading.{AreClearTo, IsGuardFront}
use Rattle.proc_goal.specs.ProcRoles.{step_role}
use Rattle.proc_goal.proofs.sets.sets.Given as goal

abbrev pub invariant-loop-index : goal.invariant-loop-index
invariant-loop-index l = record {
  count : length l.sets ≡ l.index;
  few : l.index ≤ 16;
  within : l.index ≤ length l.items;
  each : Each (WritesSet l.vars) (take l.index (sexp_forms l.text l.items)) (map target_view l.sets);
  clear : (names : List (List ℕ)) (front : List Form) → IsGuardFront front
      → AreClearTo (λ before form. step_role l.vars names (front ++ before) form) (sexp_forms l.text l.items) l.index;
  differ : AllPairs (λ (s t : TargetTree). s.name ≢ t.name) (map target_view l.sets);
}
