use Rattle.std.proofs.Common.{take}
use Rattle.forms.specs.Forms.{sexp_forms}
use Rattle.goal_reader.specs.Order.{IsOrderOf}
use Rattle.goal_reader.specs.Roles.{text_keywords}
use Rattle.goal_reader.specs.TextDrafts.{IsTextDraft, IsTextWritten, KeepsText}
use Rattle.goal_reader.specs.TextFaults.{AreClear}
use Rattle.goal_reader.proofs.reading.read_forms.Given as goal

abbrev pub invariant-loop-index : goal.invariant-loop-index
invariant-loop-index l = record {
  draft : IsTextDraft (take l.index (sexp_forms l.text l.forms)) l.draft;
  written : IsTextWritten (take l.index (sexp_forms l.text l.forms)) l.draft;
  keeps : KeepsText l.draft;
  order : IsOrderOf text_keywords (take l.index (sexp_forms l.text l.forms)) l.order;
  clear : AreClear (sexp_forms l.text l.forms) l.index;
}
