use Rattle.std.proofs.Common.{◌≡◌, ◌<◌, ℕ, List, arith, length, subst, Option}
use Rattle.std.specs.Prelude.{MatchOption}
use Rattle.text_core.specs.Lines.{line_at}
use Rattle.launch_graph.specs.GraphStages.{inputs}
use Rattle.text_core.specs.LineTexts.{SaysNone}
use Rattle.launch_graph.specs.LineReading.{IsPoolLine}
use Rattle.launch_graph.proofs.BehindLines.{ended, stuck, no_pool}
use Rattle.launch_graph.proofs.GraphRuns.{never_inputs}
use Rattle.launch_graph.proofs.behind_rows.read_pool.Goals as goal

pub returns-then-line-count-clause-fault : goal.returns-then-line-count-clause-fault
returns-then-line-count-clause-fault c = λ marks none.
    (let end : c.args.line ≡ length c.args.text.now = (let e = c.count.ensures.count in let l = c.if-line-count.true in omega (arith, e, l)) in
    ended c.operators_are_listed.ensures.names c.args.text.now marks c.args.line inputs c.line_fault.result end never_inputs c.line_fault.ensures)

pub returns-in-None-clause-fault : goal.returns-in-None-clause-fault
returns-in-None-clause-fault c = λ marks none.
    (let lt : c.args.line < length c.args.text.now = (let e = c.count.ensures.count in let l = c.if-line-count.false in let r = c.requires in omega arith) in
    let words = (line_at c.args.text.now c.args.line).words in
    let never = subst (λ (o : Option (List ℕ)). MatchOption o (SaysNone IsPoolLine words) (IsPoolLine words)) c.in-None.is c.in_ok-pool.ensures in
    stuck c.operators_are_listed.ensures.names c.args.text.now marks c.args.line lt inputs c.line_fault-in-None.result
    (no_pool words (none lt) never) c.line_fault-in-None.ensures)
