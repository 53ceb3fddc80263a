use Rattle.std.proofs.Common.{◌∙◌, ◌<◌, ◌≤◌, length, sym, ap, arith}
use Rattle.graph_meaning.specs.declared.graphs.LaunchGraph.{LaunchGraph}
use Rattle.schedule_meaning.specs.Launches.{operands_at}
use Rattle.slot_capacity.proofs.ReadTests.{reads-found, reads-memory, reads-none}
use Rattle.slot_capacity.proofs.clauses.reads.Goals as goal

pub returns-then-reads_at : goal.returns-then-reads_at
returns-then-reads_at c =
    reads-found c.args.facts.now c.args.row c.args.class c.loop-at.at (sym c.reads_at.ensures ∙ c.if-reads_at.true)

pub loop-at-preserved : goal.loop-at-preserved
loop-at-preserved c =
    let row = c.args.row in
    let count =
    c.operand_count-at-end.ensures ∙ ap (λ (g : LaunchGraph). length (operands_at g row)) c.graph.ensures in
    let inside : c.loop-at.at < length (operands_at c.args.facts.now row) =
    (let lt = c.loop-at-test.true in omega arith) in
    reads-none c.args.facts.now row c.args.class c.loop-at.at inside c.loop-at.invariant
    (sym c.reads_at.ensures ∙ c.if-reads_at.false)

pub returns : goal.returns
returns c =
    let row = c.args.row in
    let count =
    c.operand_count-at-end.ensures ∙ ap (λ (g : LaunchGraph). length (operands_at g row)) c.graph.ensures in
    let end : length (operands_at c.args.facts.now row) ≤ c.loop-at.at =
    (let past = c.loop-at-test.false in omega arith) in
    c.reads_memory.ensures
    ∙ sym (reads-memory c.args.facts.now row c.args.class c.loop-at.at end c.loop-at.invariant)
