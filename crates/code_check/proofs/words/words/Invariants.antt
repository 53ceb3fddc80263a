use Rattle.forms.specs.Forms.{sexp_form}
use Rattle.code_check.proofs.CodeWords.{AreReadTo}
use Rattle.code_check.proofs.words.words.Given as goal

abbrev pub invariant-loop-index : goal.invariant-loop-index
invariant-loop-index l = AreReadTo (sexp_form l.text l.form) l.index l.words.items l.has_branch
