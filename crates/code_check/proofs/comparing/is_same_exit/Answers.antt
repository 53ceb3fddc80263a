use Rattle.std.proofs.Common.{Some}
use Rattle.saturation.specs.GoalTerms.{entry_term}
use Rattle.code_check.proofs.Comparisons.{exit_tells, other_memory, present_found, tells}
use Rattle.code_check.proofs.comparing.is_same_exit.Goals as goal

pub now-class-requires : goal.now-class-requires
now-class-requires c = record { made = c.requires.classes.1.memory_is.made }

pub returns-then-not-same : goal.returns-then-not-same
returns-then-not-same c = λ ts are.
    let g = c.args.graph.now in
    other_memory g c.args.inputs.now ts c.is_one-same.result c.if-not-same.true
    (tells c.terms_have_one_class.ensures.one g are.graph ts.memory entry_term (Some c.now-class.result) c.find_leaf-entry.result
    c.is_one-same.result (present_found g c.args.memory c.now-class.result ts.memory c.now-class.ensures.present are.memory_is)
    c.find_leaf-entry.ensures c.is_one-same.ensures)

pub returns : goal.returns
returns c = λ ts are.
    let g = c.args.graph.now in
    exit_tells g c.args.inputs.now ts c.is_one-same.result c.are_same_inputs.result c.if-not-same.false
    (tells c.terms_have_one_class.ensures.one g are.graph ts.memory entry_term (Some c.now-class.result) c.find_leaf-entry.result
    c.is_one-same.result (present_found g c.args.memory c.now-class.result ts.memory c.now-class.ensures.present are.memory_is)
    c.find_leaf-entry.ensures c.is_one-same.ensures) (c.are_same_inputs.ensures ts c.args.memory are)
