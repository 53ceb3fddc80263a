use Rattle.std.proofs.Common.{◌≤◌, map, take}
use Rattle.forms.specs.Forms.{sexp_forms}
use Rattle.machine_table.specs.Grammar.{Each}
use Rattle.goal_meaning.specs.Views.{goal_view}
use Rattle.code_check.specs.CodeGrammar.{WritesCode}
use Rattle.code_check.proofs.CodeTexts.{AreCodesClear}
use Rattle.code_check.proofs.reading.read_codes.Given as goal

abbrev pub invariant-loop-index : goal.invariant-loop-index
invariant-loop-index l = record {
  each : Each (WritesCode (map goal_view l.goals)) (take l.index (sexp_forms l.text l.forms)) l.codes.items;
  clear : AreCodesClear (map goal_view l.goals) (sexp_forms l.text l.forms) l.index;
  few : l.index ≤ 64;
}
