use Rattle.std.proofs.Common.{length, subst, arith}
use Rattle.forms.specs.Forms.{Forms, Stand, forms_list, forms_of}
use Rattle.goal_reader.proofs.FormsPrint.{text_prints}
use Rattle.goal_reader.proofs.ItemForms.{list_from_list}
use Rattle.proc_goal.proofs.ProcKeeps.{text_keeps}
use Rattle.proc_goal.proofs.ProcSizes.{text_few}
use Rattle.proc_goal.proofs.laws.read_procs_are_well_formed.Goals as goal

pub returns : goal.returns
returns c = λ text p small r.
    let lexing = c.one_lexing.ensures in
    let terms = c.read_terms_are_well_sorted.ensures in
    let fs = forms_of text r.trees in
    let stand = subst (λ (gs : Forms). Stand 0 (length text) gs) (list_from_list fs) (c.one_reading.ensures.stand text r.trees r.has) in
    let few = text_few terms.few (forms_list fs) p (length text) r.written stand in
    text_keeps terms.sorted terms.operators terms.printed c.printed_tables_are_read.ensures.read (text_prints lexing.named lexing.each) c.tables_keep_limits.ensures.built_in text r.trees r.has p r.written (omega (arith, few, small))
