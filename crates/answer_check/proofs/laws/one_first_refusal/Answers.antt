use Rattle.cnf_core.specs.Refutation.{IsEmptyOnlyLast}
use Rattle.answer_check.proofs.Refusals.{first_refusal_once, right_not_refused}
use Rattle.answer_check.proofs.laws.one_first_refusal.Goals as goal

pub returns : goal.returns
returns c = record {
  once = λ f lines. first_refusal_once (IsEmptyOnlyLast lines) f lines;
  apart = λ f lines. right_not_refused (IsEmptyOnlyLast lines) f lines;
}
