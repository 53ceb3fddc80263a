use Rattle.std.proofs.Common.{◌<◌, ◌∙◌, arith, sym, length}
use Rattle.std.proofs.lemmas.Bool.{false≢true}
use Rattle.text_core.specs.Lines.{line_at}
use Rattle.launch_graph.specs.GraphStages.{behind_pool}
use Rattle.launch_graph.proofs.BehindLines.{stuck, wrong_guard, wrong_guard_class}
use Rattle.launch_graph.proofs.behind_rows.read_guard.Goals as goal

pub returns-in_default-clause-fault : goal.returns-in_default-clause-fault
returns-in_default-clause-fault c =
    let lt : c.args.line < length c.args.text.now = (let e = c.count.ensures.count in let l = c.if-line-count.false in let r = c.requires in omega arith) in
    stuck c.operators_are_listed.ensures.names c.args.text.now c.args.marks.now c.args.line lt behind_pool c.line_fault.result
    (wrong_guard (line_at c.args.text.now c.args.line).words (c.begins_with.ensures.0 c.if-not-begins_with.false) c.in_default.ensures) c.line_fault.ensures

pub returns-then-is_wrong-clause-fault : goal.returns-then-is_wrong-clause-fault
returns-then-is_wrong-clause-fault c =
    let lt : c.args.line < length c.args.text.now = (let e = c.count.ensures.count in let l = c.if-line-count.false in let r = c.requires in omega arith) in
    wrong_guard_class c.operators_are_listed.ensures.names c.args.text.now c.args.marks.now c.args.line lt c.in-Some.guard c.line_fault-then-is_wrong.result
    c.in-Some.ensures (λ all m. (c.is_wrong.ensures.wrong all m).0 c.if-is_wrong.true) c.line_fault-then-is_wrong.ensures

pub returns-clause-ok : goal.returns-clause-ok
returns-clause-ok c =
    let lt : c.args.line < length c.args.text.now = (let e = c.count.ensures.count in let l = c.if-line-count.false in let r = c.requires in omega arith) in
    record {
      within = lt;
      is = c.in-Some.ensures;
      right = λ all m bad. false≢true (sym c.if-is_wrong.false ∙ (c.is_wrong.ensures.wrong all m).1 bad);
    }
