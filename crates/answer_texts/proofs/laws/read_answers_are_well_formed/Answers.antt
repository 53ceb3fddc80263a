use Rattle.answer_texts.proofs.PartsWellFormed.{read_well_formed}
use Rattle.answer_texts.proofs.laws.read_answers_are_well_formed.Goals as goal

pub returns : goal.returns
returns c =
    read_well_formed c.tables_keep_limits.ensures.built_in c.one_splitting.ensures.whole
    (λ lines text split. c.printed_lines_are_lines.ensures.each 0 lines text split)
