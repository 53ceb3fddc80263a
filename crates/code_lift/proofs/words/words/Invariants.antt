use Rattle.std.proofs.Common.{◌≤◌, length}
use Rattle.forms.specs.Forms.{sexp_form}
use Rattle.code_lift.specs.LiftingView.{lifting_view}
use Rattle.code_lift.proofs.LiftLists.{AreWordsRead}
use Rattle.code_lift.proofs.words.words.Given as goal

abbrev pub invariant-loop-index : goal.invariant-loop-index
invariant-loop-index l = record {
  read : AreWordsRead (sexp_form l.text l.form) l.index l.words (lifting_view l.lifting);
  lets : length l.lifting.lets.items ≤ l.index;
}
