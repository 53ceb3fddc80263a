use Rattle.std.proofs.Common.{◌≡◌, take}
use Rattle.machine_table.specs.Tables.{cluster_of}
use Rattle.schedule_meaning.specs.Launches.{reads_until}
use Rattle.cycle_encoding.specs.Variables.{all_overwritten}
use Rattle.cycle_encoding.specs.Shapes.{numbered}
use Rattle.cycle_encoding.specs.Steps.{of_thing, sights, with_clauses}
use Rattle.cycle_encoding.proofs.families.add_sights.Given as goal

abbrev pub invariant-loop-class : goal.invariant-loop-class
invariant-loop-class l = l.cnf ≡ with_clauses l.initial.cnf (of_thing l.made.var (sights l.vars.frame.facts.now (cluster_of l.vars.frame.table.now l.made.launch.slot) l.made.launch.cycle (reads_until l.vars.frame.facts.now l.made.launch) (numbered l.vars.seen.first l.vars.seen.seen.items) (numbered l.vars.over.first (all_overwritten l.vars.frame.facts.now l.vars.over.cycles)) (take l.class-index l.needed)))
