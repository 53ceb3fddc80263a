use Rattle.std.proofs.Common.{[], ◌∷◌}
use Rattle.forms.specs.Printing.{plains_from}
use Rattle.goal_meaning.specs.InputForms.{naming, term_plain}
use Rattle.goal_reader.proofs.FormsPrint.{text_prints}
use Rattle.goal_reader.proofs.TermTexts.{term_fits, term_is_read}
use Rattle.goal_reader.proofs.laws.printed_terms_are_read.Goals as goal

pub returns : goal.returns
returns c = λ inputs sort t are read.
    let lexing = c.one_lexing.ensures in
    let prints = text_prints lexing.named lexing.each in
    let can = term_fits prints inputs sort t are read in
    let back = c.printed_lines_are_read.ensures (plains_from (term_plain (naming [] inputs []) t ∷ [])) can.0 can.1 in
    term_is_read prints inputs sort t are read back.0 back.1 back.2
