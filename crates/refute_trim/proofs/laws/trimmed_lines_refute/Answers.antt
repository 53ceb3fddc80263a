use Rattle.refute_trim.proofs.Hints.{all_but_last}
use Rattle.refute_trim.proofs.Refuting.{all_accepted, refutes}
use Rattle.refute_trim.proofs.laws.trimmed_lines_refute.Goals as goal

pub returns : goal.returns
returns c = record {
  accepted = all_accepted;
  refute = λ f lines new right trimmed. refutes f lines new right.accepted trimmed right;
  hints = all_but_last;
}
