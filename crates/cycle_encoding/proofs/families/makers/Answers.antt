use Rattle.std.proofs.Common.{◌∙◌, ℕ, [], ap, List, map, arith}
use Rattle.std.specs.List.{range_with_len}
use Rattle.std.proofs.lemmas.List.{take_all}
use Rattle.schedule_meaning.specs.declared.schedules.Launch.{Launch}
use Rattle.graph_meaning.specs.declared.graphs.LaunchGraph.{LaunchGraph}
use Rattle.graph_meaning.specs.WellFormed.{next_class}
use Rattle.cycle_encoding.specs.Steps.{given_in}
use Rattle.cycle_encoding.proofs.Sorted.{maker_step, given_empty}
use Rattle.cycle_encoding.proofs.Tables.{table_of}
use Rattle.cycle_encoding.proofs.families.makers.Goals as goal

pub loop-index-init : goal.loop-index-init
loop-index-init c =
    let g = c.args.facts.now in
    c.in_ok-makers.ensures ∙ ap (λ n. map {B = List (ℕ × Launch)} (λ (b : ℕ). []) (range_with_len 0 n)) (c.next_class.ensures ∙ ap (λ (g : LaunchGraph). next_class g.rows) c.graph.ensures) ∙ given_empty g (next_class g.rows)

pub loop-index-preserved : goal.loop-index-preserved
loop-index-preserved c = maker_step c.args.launches.now c.loop-index.index _ (next_class c.args.facts.now.rows) c.loop-index.makers.items c.put_maker.new.makers.items c.loop-index-test.true c.args.facts.now c.loop-index.invariant c.in_ok-put_maker.ensures

pub returns : goal.returns
returns c =
    let g = c.args.facts.now in
    let n = next_class g.rows in
    let ls = c.args.launches.now in
    table_of (λ class. given_in g class ls) n c.loop-index.makers.items (c.loop-index.invariant ∙ ap (λ (xs : List Launch). map (λ (class : ℕ). given_in g class xs) (range_with_len 0 n)) (take_all c.loop-index.index ls (omega arith)))
