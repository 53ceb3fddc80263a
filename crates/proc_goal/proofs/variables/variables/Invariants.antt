use Rattle.std.proofs.Common.{◌≡◌, ◌≤◌, ℕ, List, length, take}
use Rattle.forms.specs.Forms.{sexp_forms}
use Rattle.machine_table.specs.Grammar.{Each}
use Rattle.proc_goal.specs.ProcGrammar.{WritesVariable}
use Rattle.proc_goal.specs.ProcReading.{AreClearTo, AreVariables}
use Rattle.proc_goal.specs.ProcRoles.{proc_item_role}
use Rattle.proc_goal.proofs.variables.variables.Given as goal

abbrev pub invariant-loop-index : goal.invariant-loop-index
invariant-loop-index l = record {
  count : length l.vars ≡ l.index;
  few : l.index ≤ 16;
  within : l.index ≤ length l.items;
  each : Each WritesVariable (take l.index (sexp_forms l.text l.items)) l.vars;
  clear : (names : List (List ℕ)) → AreClearTo (proc_item_role names) (sexp_forms l.text l.items) l.index;
  keep : AreVariables l.vars;
}
