use Rattle.cycle_encoding.proofs.Tables.{table_of}
use Rattle.schedule_meaning.specs.Launches.{instr_at}
use Rattle.cycle_encoding.proofs.facts.instrs.Goals as goal

pub returns : goal.returns
returns c = table_of (instr_at c.args.graph.now) c.loop-row.row c.loop-row.table.items c.loop-row.invariant
