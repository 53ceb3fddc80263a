use Rattle.dimacs.proofs.OneFormula.{Laws, one_formula}
use Rattle.dimacs.proofs.laws.one_text_has_one_formula.Goals as goal

pub returns : goal.returns
returns c =
    let laws : Laws = record {
      number = c.printed_lines_are_lines.ensures.number;
      lines = c.printed_lines_are_lines.ensures.lines;
      one_text = c.one_splitting.ensures.lines;
      one_line = c.printed_lines_are_read_back.ensures.one;
    } in
    one_formula laws
