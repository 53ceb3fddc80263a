use Rattle.std.proofs.Common.{ap, arith, refl, if◌then◌else◌, Some, None}
use Rattle.launch_graph.specs.RowFaults.{tells_sort, sort_given}
use Rattle.launch_graph.proofs.Marks.{marked, not_marked}
use Rattle.launch_graph.proofs.class_marks.mark_row.Goals as goal

pub returns-then-class-marks-clause-marks : goal.returns-then-class-marks-clause-marks
returns-then-class-marks-clause-marks c = λ rows h.
    (let op = c.args.row.now.op in
    marked c.args.marks.now rows c.args.row.now _ _ _ _ c.if-class-marks.true refl c.mark_after.ensures
    (ap (λ n. if tells_sort op n then Some (sort_given op) else None) c.len.ensures) h)

pub returns-else-class-marks-clause-marks : goal.returns-else-class-marks-clause-marks
returns-else-class-marks-clause-marks c = λ rows h. (let high = c.if-class-marks.false in not_marked c.args.marks.now rows c.args.row.now _ (omega arith) h)
