use Rattle.std.proofs.Common.{◌≡◌, ◌≤◌, ◌++◌, List, length, map, take}
use Rattle.forms.specs.Forms.{Form, sexp_forms}
use Rattle.machine_table.specs.Grammar.{Each}
use Rattle.proc_goal.specs.ProcGrammar.{WritesBlock}
use Rattle.proc_goal.specs.ProcReading.{AreClearTo, HaveOwnNames, IsProcFront}
use Rattle.proc_goal.specs.ProcRoles.{proc_item_role}
use Rattle.proc_goal.specs.Views.{block_view}
use Rattle.proc_goal.proofs.blocks.blocks.Given as goal

abbrev pub invariant-loop-index : goal.invariant-loop-index
invariant-loop-index l = record {
  count : length l.blocks ≡ l.index;
  within : l.index ≤ length l.items;
  each : Each (WritesBlock l.vars l.names) (take l.index (sexp_forms l.text l.items)) (map block_view l.blocks);
  clear : (front : List Form) → IsProcFront l.vars front (sexp_forms l.text l.items)
      → AreClearTo (λ before form. proc_item_role l.names (front ++ before) form) (sexp_forms l.text l.items) l.index;
  own : HaveOwnNames (map block_view l.blocks);
}
