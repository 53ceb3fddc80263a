use Rattle.std.proofs.Common.{◌≤◌, map, subst, arith}
use Rattle.forms.specs.Forms.{forms_list, forms_of}
use Rattle.forms.specs.Printing.{CanPrintAll, most_levels, plain_of}
use Rattle.goal_reader.proofs.Fitting.{FitAll}
use Rattle.goal_reader.proofs.FormsPrint.{text_prints}
use Rattle.goal_reader.proofs.InputKeeps.{text_keeps}
use Rattle.goal_reader.proofs.InputPrints.{read_fits}
use Rattle.goal_reader.proofs.Moved.{plains_map}
use Rattle.goal_reader.proofs.laws.read_inputs_are_well_formed.Goals as goal

pub returns : goal.returns
returns c = λ text i few r.
    let lexing = c.one_lexing.ensures in
    let prints = text_prints lexing.named lexing.each in
    let fs = forms_of text r.trees in
    let all : FitAll 64 (map plain_of (forms_list fs)) = subst (λ ps. CanPrintAll ps × (most_levels ps ≤ 64)) (plains_map fs) (prints text r.trees r.has) in
    let printed = read_fits c.printed_tables_are_read.ensures.read prints text i r in
    let operators = c.read_inputs_have_few_operators.ensures text i r in
    text_keeps c.tables_keep_limits.ensures.built_in (forms_list fs) i r.written all printed.0 printed.1 (omega (arith, operators, few))
