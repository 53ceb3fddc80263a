use Rattle.std.proofs.Common.{◌≡◌, ◌++◌}
use Rattle.forms.specs.Forms.{sexp_form}
use Rattle.code_lift.proofs.RegistersRead.{ArePoolRead}
use Rattle.code_lift.proofs.registers.pool.Given as goal

abbrev pub invariant-loop-index : goal.invariant-loop-index
invariant-loop-index l = record {
  read : ArePoolRead l.fn.taken.items (sexp_form l.text l.form) l.index l.pool;
  given : l.given.items ≡ l.fn.taken.items ++ l.pool;
}
