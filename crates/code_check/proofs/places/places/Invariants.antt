use Rattle.std.proofs.Common.{map, take}
use Rattle.forms.specs.Forms.{sexp_forms}
use Rattle.machine_table.specs.Grammar.{Each}
use Rattle.goal_meaning.specs.Views.{target_view}
use Rattle.code_check.specs.CodeGrammar.{WritesPlace}
use Rattle.code_check.specs.CodeReading.{ArePlacesClear}
use Rattle.code_check.proofs.places.places.Given as goal

abbrev pub invariant-loop-index : goal.invariant-loop-index
invariant-loop-index l = record {
  each : Each (WritesPlace (map target_view l.sets)) (take l.index (sexp_forms l.text l.forms)) l.places.items;
  clear : ArePlacesClear (map target_view l.sets) (sexp_forms l.text l.forms) l.index;
}
