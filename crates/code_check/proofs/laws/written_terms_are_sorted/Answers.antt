use Rattle.code_check.proofs.Sorted.{written_sorted}
use Rattle.code_check.proofs.laws.written_terms_are_sorted.Goals as goal

pub returns : goal.returns
returns c = record { sorted = written_sorted }
