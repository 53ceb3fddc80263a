use Rattle.std.proofs.Common.{◌≡◌, length}
use Rattle.forms.specs.Forms.{sexp_form}
use Rattle.code_lift.specs.Lifted.{sets_of}
use Rattle.code_lift.specs.LiftingView.{lifting_view}
use Rattle.code_lift.proofs.RegistersRead.{AreOutRead}
use Rattle.code_lift.proofs.registers.out.Given as goal

abbrev pub invariant-loop-index : goal.invariant-loop-index
invariant-loop-index l = record {
  read : AreOutRead (lifting_view l.lifting) (sexp_form l.text l.form) l.index l.out;
  count : l.sets ≡ length (sets_of (lifting_view l.lifting) l.out);
}
