use Rattle.std.proofs.Common.{take, All}
use Rattle.word_terms.specs.Tree.{operands_of}
use Rattle.word_terms.specs.View.{trees_of}
use Rattle.forms.specs.Forms.{forms_from, sexp_forms}
use Rattle.forms.specs.Reading.{IsSexpOf}
use Rattle.goal_reader.specs.Terms.{WritesEach}
use Rattle.goal_reader.proofs.terms.+read_term.Given as goal

abbrev pub invariant-loop-index : goal.invariant-loop-index
invariant-loop-index l = record {
  writes : WritesEach l.scope l.op 0 (forms_from (sexp_forms l.text (take l.index l.rest))) (operands_of (trees_of l.operands.items));
  of : All (IsSexpOf l.text) l.rest;
}
