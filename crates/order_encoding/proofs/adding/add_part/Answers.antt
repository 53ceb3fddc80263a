use Rattle.std.proofs.Common.{◌≡◌}
use Rattle.graph_meaning.specs.declared.graphs.LaunchGraph.{LaunchGraph}
use Rattle.cycle_encoding.specs.CycleFormula.{Listed}
use Rattle.cycle_encoding.specs.Faults.{EncodeFaultIs}
use Rattle.cycle_encoding.specs.Plans.{IsTooLarge}
use Rattle.cycle_encoding.proofs.Built.{if_ok, if_err, on_ok_more}
use Rattle.order_encoding.specs.WholeFormula.{KnowsOverwritten, before_part, with_part}
use Rattle.order_encoding.proofs.Lists.{as_listed, named, of_listed}
use Rattle.order_encoding.proofs.adding.add_part.Goals as goal

pub add_part_in-requires-clause-formula : goal.add_part_in-requires-clause-formula
add_part_in-requires-clause-formula c =
    let e = c.args.encoded in
    of_listed c.each_encoding_has_one_list.ensures e.plan.encoding c.args.graph.now c.in_ok-facts.facts c.args.table.now e.plan.cycles c.in_ok-scope.scope c.in_ok-facts.ensures (named e.plan.encoding c.encoding.result c.in_ok-facts.facts c.args.table.now c.in_ok-scope.scope c.encoding.ensures c.in_ok-scope.ensures) c.requires.cycles
    (λ (x : LaunchGraph) (l : Listed). e.cnf ≡ before_part c.args.part x c.args.table.now e.plan.cycles l) c.requires.formula

pub add_part_in-requires-clause-launches : goal.add_part_in-requires-clause-launches
add_part_in-requires-clause-launches c =
    let e = c.args.encoded in
    of_listed c.each_encoding_has_one_list.ensures e.plan.encoding c.args.graph.now c.in_ok-facts.facts c.args.table.now e.plan.cycles c.in_ok-scope.scope c.in_ok-facts.ensures (named e.plan.encoding c.encoding.result c.in_ok-facts.facts c.args.table.now c.in_ok-scope.scope c.encoding.ensures c.in_ok-scope.ensures) c.requires.cycles
    (λ (x : LaunchGraph) (l : Listed). e.plan.launches ≡ l.launches) c.requires.plan

pub add_part_in-requires-clause-overwritten : goal.add_part_in-requires-clause-overwritten
add_part_in-requires-clause-overwritten c =
    let e = c.args.encoded in
    of_listed c.each_encoding_has_one_list.ensures e.plan.encoding c.args.graph.now c.in_ok-facts.facts c.args.table.now e.plan.cycles c.in_ok-scope.scope c.in_ok-facts.ensures (named e.plan.encoding c.encoding.result c.in_ok-facts.facts c.args.table.now c.in_ok-scope.scope c.encoding.ensures c.in_ok-scope.ensures) c.requires.cycles
    (λ (x : LaunchGraph) (l : Listed). KnowsOverwritten c.args.part e.plan.overwritten l) c.requires.overwritten

pub returns-clause-formula : goal.returns-clause-formula
returns-clause-formula c =
    let e = c.args.encoded in
    if_ok _ _ c.add_part_in.result
    (λ r is. as_listed c.each_encoding_has_one_list.ensures e.plan.encoding c.args.graph.now c.in_ok-facts.facts c.args.table.now e.plan.cycles c.in_ok-scope.scope c.in_ok-facts.ensures (named e.plan.encoding c.encoding.result c.in_ok-facts.facts c.args.table.now c.in_ok-scope.scope c.encoding.ensures c.in_ok-scope.ensures) c.requires.cycles
    (λ (x : LaunchGraph) (l : Listed). r.cnf ≡ with_part c.args.part x c.args.table.now e.plan.cycles l) is) c.add_part_in.ensures.formula

pub returns-clause-size : goal.returns-clause-size
returns-clause-size c =
    let e = c.args.encoded in
    if_err _ _ c.add_part_in.result
    (λ r is. as_listed c.each_encoding_has_one_list.ensures e.plan.encoding c.args.graph.now c.in_ok-facts.facts c.args.table.now e.plan.cycles c.in_ok-scope.scope c.in_ok-facts.ensures (named e.plan.encoding c.encoding.result c.in_ok-facts.facts c.args.table.now c.in_ok-scope.scope c.encoding.ensures c.in_ok-scope.ensures) c.requires.cycles
    (λ (x : LaunchGraph) (l : Listed). EncodeFaultIs (with_part c.args.part x c.args.table.now e.plan.cycles l) r) is) c.add_part_in.ensures.size

pub returns-clause-within : goal.returns-clause-within
returns-clause-within c =
    let e = c.args.encoded in
    on_ok_more _ _ c.add_part_in.result
    (λ is. as_listed c.each_encoding_has_one_list.ensures e.plan.encoding c.args.graph.now c.in_ok-facts.facts c.args.table.now e.plan.cycles c.in_ok-scope.scope c.in_ok-facts.ensures (named e.plan.encoding c.encoding.result c.in_ok-facts.facts c.args.table.now c.in_ok-scope.scope c.encoding.ensures c.in_ok-scope.ensures) c.requires.cycles
    (λ (x : LaunchGraph) (l : Listed). IsTooLarge (with_part c.args.part x c.args.table.now e.plan.cycles l) → ⊥) is) c.add_part_in.ensures.within
