use Rattle.std.proofs.Common.{sym, ◌∙◌, map}
use Rattle.forms.specs.Forms.{forms_list, forms_of}
use Rattle.forms.specs.Printing.{plain_of, plains_from}
use Rattle.goal_reader.proofs.FormsPrint.{text_prints}
use Rattle.goal_reader.proofs.InputPrints.{table_fits}
use Rattle.goal_reader.proofs.Moved.{plains_map, plains_once}
use Rattle.proc_goal.specs.ProcForms.{proc_plains, proc_text}
use Rattle.proc_goal.proofs.ProcFits.{text_printable}
use Rattle.proc_goal.proofs.WrittenProcs.{text_written}
use Rattle.proc_goal.proofs.laws.printed_procs_are_read.Goals as goal

pub returns : goal.returns
returns c = λ p is.
    let lexing = c.one_lexing.ensures in
    let prints = text_prints lexing.named lexing.each in
    let can = text_printable (table_fits c.printed_tables_are_read.ensures.read prints) p is in
    let back = c.printed_lines_are_read.ensures (plains_from (proc_plains p)) can is.nested in
    let fs = forms_of (proc_text p) back.0 in
    record {
      trees = back.0;
      has = back.1;
      written = text_written p is (forms_list fs) (plains_once (map plain_of (forms_list fs)) (proc_plains p) (sym (plains_map fs) ∙ back.2));
    }
