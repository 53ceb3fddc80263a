use Rattle.std.proofs.Common.{rules, ◌≡◌, ◌≤◌, ◌∙◌, length, sym, true, false, arith}
use Rattle.schedule_meaning.specs.Launches.{operands_at}
use Rattle.schedule_meaning.specs.Lifetimes.{is_operand_of}
use Rattle.schedule_meaning.proofs.Loops.{any_by_place, none_by_place, none_by_places}
use Rattle.schedule_meaning.proofs.lifetimes.reads_class.Goals as goal

pub returns-then-reads_class_at : goal.returns-then-reads_class_at
returns-then-reads_class_at c =
    let reads : c.reads_class_at.result ≡ true = search rules in
    sym (any_by_place (is_operand_of c.args.graph.now c.args.class) (operands_at c.args.graph.now c.args.launch.row)
    c.loop-at.at (sym c.reads_class_at.ensures ∙ reads))

pub loop-at-preserved : goal.loop-at-preserved
loop-at-preserved c =
    let none : c.reads_class_at.result ≡ false = search rules in
    none_by_place (is_operand_of c.args.graph.now c.args.class) (operands_at c.args.graph.now c.args.launch.row)
    c.loop-at.at c.loop-at.invariant (sym c.reads_class_at.ensures ∙ none)

pub returns : goal.returns
returns c =
    let end : length (operands_at c.args.graph.now c.args.launch.row) ≤ c.loop-at.at = omega arith in
    sym (none_by_places (is_operand_of c.args.graph.now c.args.class) (operands_at c.args.graph.now c.args.launch.row)
    c.loop-at.at end c.loop-at.invariant)
