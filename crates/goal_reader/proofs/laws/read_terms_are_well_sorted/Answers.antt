use Rattle.goal_reader.proofs.FormsPrint.{text_prints}
use Rattle.goal_reader.proofs.TermTexts.{term_few, term_is_told, term_well_sorted}
use Rattle.goal_reader.proofs.laws.read_terms_are_well_sorted.Goals as goal

pub returns-clause-sorted : goal.returns-clause-sorted
returns-clause-sorted c = λ inputs sort t read.
    let lexing = c.one_lexing.ensures in
    (term_well_sorted (text_prints lexing.named lexing.each) inputs sort t read).sorted

pub returns-clause-operators : goal.returns-clause-operators
returns-clause-operators c = λ inputs sort t read.
    let lexing = c.one_lexing.ensures in
    (term_well_sorted (text_prints lexing.named lexing.each) inputs sort t read).operators

pub returns-clause-printed : goal.returns-clause-printed
returns-clause-printed c = λ inputs sort form t apart w. term_is_told inputs apart w

pub returns-clause-few : goal.returns-clause-few
returns-clause-few c = λ inputs sort form t low high w stands. term_few inputs form t low high w stands
