use Rattle.std.proofs.Common.{sym, ◌∙◌, map}
use Rattle.forms.specs.Forms.{forms_list, forms_of}
use Rattle.forms.specs.Printing.{plain_of, plains_from}
use Rattle.goal_meaning.specs.InputForms.{input_plains}
use Rattle.goal_reader.specs.Printing.{input_text}
use Rattle.goal_reader.proofs.FormsPrint.{text_prints}
use Rattle.goal_reader.proofs.InputPrints.{read_fits}
use Rattle.goal_reader.proofs.Moved.{plains_map, plains_once}
use Rattle.goal_reader.proofs.PrintedTexts.{text_again}
use Rattle.goal_reader.proofs.laws.printed_inputs_are_read.Goals as goal

pub returns : goal.returns
returns c =
    let lexing = c.one_lexing.ensures in
    let fits = read_fits c.printed_tables_are_read.ensures.read (text_prints lexing.named lexing.each) in
    record {
      read = λ text i r.
          let can = (fits text i r).0 in
          let back = c.printed_lines_are_read.ensures (plains_from (input_plains i)) can.0 can.1 in
          let fs = forms_of (input_text i) back.0 in
          record {
            trees = back.0;
            has = back.1;
            written = text_again (forms_list (forms_of text r.trees)) (forms_list fs) i r.written (plains_once (map plain_of (forms_list fs)) (input_plains i) (sym (plains_map fs) ∙ back.2));
          };
      named = λ text i r. (fits text i r).1;
    }
