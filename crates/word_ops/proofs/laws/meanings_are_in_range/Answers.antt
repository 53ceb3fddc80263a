use Rattle.word_ops.proofs.ValueRanges.{value_of-lt}
use Rattle.word_ops.proofs.MeaningRanges.{meaning_in_range}
use Rattle.word_ops.proofs.laws.meanings_are_in_range.Goals as goal

pub returns-clause-words : goal.returns-clause-words
returns-clause-words c = value_of-lt

pub returns-clause-values : goal.returns-clause-values
returns-clause-values c = meaning_in_range
