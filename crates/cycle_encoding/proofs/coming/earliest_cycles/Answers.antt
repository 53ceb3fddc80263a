use Rattle.std.proofs.Common.{◌∙◌, ap, arith}
use Rattle.std.specs.Prelude.{length}
use Rattle.schedule_meaning.specs.Limits.{most_cycles}
use Rattle.graph_meaning.specs.WellFormed.{next_class}
use Rattle.std.proofs.lemmas.List.FromFn.{length-map-range_with_len}
use Rattle.graph_meaning.specs.declared.graphs.LaunchGraph.{LaunchGraph}
use Rattle.cycle_encoding.proofs.ComeSteps.{none-yet, all-found, one-more-cycle, exact}
use Rattle.cycle_encoding.proofs.coming.earliest_cycles.Goals as goal

pub loop-cycle-init : goal.loop-cycle-init
loop-cycle-init c =
    let g = c.args.rows.now.facts.now in
    let classes = c.next_class.ensures ∙ ap (λ (g : LaunchGraph). next_class g.rows) c.graph.ensures in
    let size = ap (λ xs. length xs) c.in_ok-come.ensures ∙ length-map-range_with_len _ 0 c.next_class.result in
    record {
      long = size ∙ classes;
      sound = none-yet g c.args.rows.now.table.now c.args.rows.now.allocation c.next_class.result c.in_ok-come.come.items c.in_ok-come.ensures;
      passed = λ cycle row lt. absurd (omega (arith, lt));
    }

pub pass_rows-requires-clause-found : goal.pass_rows-requires-clause-found
pass_rows-requires-clause-found c =
    λ class h. all-found c.args.rows.now.facts.now c.args.rows.now.table.now c.args.rows.now.allocation c.requires.table c.loop-cycle.come.items c.loop-cycle.cycle (λ s row lt. c.loop-cycle.invariant.passed s row lt) c.loop-cycle.cycle class (omega arith) h

pub loop-cycle-preserved : goal.loop-cycle-preserved
loop-cycle-preserved c =
    let i = c.loop-cycle.invariant in
    let e = c.pass_rows.ensures in
    record {
      long = e.long ∙ i.long;
      sound = e.sound;
      passed = one-more-cycle c.args.rows.now.facts.now c.args.rows.now.table.now c.args.rows.now.allocation c.loop-cycle.come.items c.pass_rows.new.come.items e.still c.loop-cycle.cycle e.passed i.passed;
    }

pub returns : goal.returns
returns c =
    exact c.args.rows.now.facts.now c.args.rows.now.table.now c.args.rows.now.allocation c.requires.table c.loop-cycle.come.items most_cycles c.loop-cycle.invariant.sound
    (λ s row lt. c.loop-cycle.invariant.passed s row (let a = c.loop-cycle-test.false in omega arith))
