use Rattle.word_terms.specs.Small.{as_op}
use Rattle.word_terms.proofs.small.SmallOpOperator.gives_its_sort.Goals as goal

pub returns : goal.returns
returns c = record { in_range = λ world names op. c.meanings_are_in_range.ensures.values world names (as_op op) }
