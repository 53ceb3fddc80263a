use Rattle.std.proofs.Common.{◌∙◌, ap}
use Rattle.graph_meaning.specs.declared.graphs.LaunchGraph.{LaunchGraph}
use Rattle.schedule_meaning.specs.Launches.{instr_at}
use Rattle.cycle_encoding.proofs.Tables.{table_at}
use Rattle.cycle_encoding.proofs.facts.Facts.instr_at.Goals as goal

pub returns-in-Some : goal.returns-in-Some
returns-in-Some c =
    let h = c.in-Some.ensures.lookup in
    table_at (instr_at c.self.inside.graph.now) c.self.inside.instrs.items c.deref.result.now c.args.row _ c.in-Some.instr.now c.self.invariant.instrs_are c.deref.ensures.value h.0 h.1
    ∙ ap (λ (g : LaunchGraph). instr_at g c.args.row) c.self.view_is
