use Rattle.std.proofs.Common.{◌∙◌, Option, ap, get_or, false, ◌&&◌}
use Rattle.std.specs.Option.{option_map_or}
use Rattle.machine_table.specs.declared.tables.InstrKind.{InstrKind}
use Rattle.graph_meaning.specs.WellFormed.{next_class}
use Rattle.graph_meaning.specs.declared.graphs.LaunchGraph.{LaunchGraph}
use Rattle.schedule_meaning.specs.Launches.{class_at, gives_word, is_pool}
use Rattle.schedule_meaning.specs.declared.schedules.Launch.{Launch}
use Rattle.schedule_meaning.specs.declared.schedules.To.TheVariants.{Pool}
use Rattle.order_encoding.proofs.NeedSteps.{pooled_step, pooled_all}
use Rattle.order_encoding.proofs.needs.pooled.Goals as goal

pub loop-launch-preserved : goal.loop-launch-preserved
loop-launch-preserved c =
    let g = c.args.facts.now in
    let d : Launch = record { cycle = 0; slot = 0; row = 0; to = Pool } in
    let l : Launch = get_or c.args.launches.now c.loop-launch.launch-index d in
    pooled_step g (next_class g.rows) c.args.launches.now c.loop-launch.launch-index d c.class_at.result c.takes_pool-passes.result c.loop-launch.marks.items c.mark.new.marks.items c.loop-launch-test.true
    (c.class_at.ensures ∙ ap (λ (g : LaunchGraph). class_at g l.row) c.graph-in-loop-launch.ensures)
    (c.takes_pool-passes.ensures ∙ ap (λ (i : Option InstrKind). is_pool l.to && option_map_or gives_word i false) c.instr_at.ensures)
    c.loop-launch.invariant c.mark.ensures

pub returns : goal.returns
returns c =
    let g = c.args.facts.now in
    pooled_all g (next_class g.rows) c.args.launches.now c.loop-launch.launch-index c.loop-launch.marks.items c.loop-launch-test.false c.loop-launch.invariant
