use Rattle.std.proofs.Common.{◌≡◌, ◌∙◌, sym, ap}
use Rattle.std.proofs.lemmas.Bool.{lt-leb}
use Rattle.graph_meaning.specs.declared.graphs.LaunchGraph.{LaunchGraph}
use Rattle.schedule_meaning.specs.Launches.{class_at}
use Rattle.slot_capacity.specs.CapacityClauses.{last_counted}
use Rattle.slot_capacity.proofs.ExtendSteps.{by-late, by-none}
use Rattle.slot_capacity.proofs.clauses.makes_by.Goals as goal

pub returns-else-cycle-last : goal.returns-else-cycle-last
returns-else-cycle-last c =
    let g = c.args.facts.now in
    let row = c.args.row in
    let class : c.class_at.result ≡ class_at g row =
    c.class_at.ensures ∙ ap (λ (g : LaunchGraph). class_at g row) c.graph.ensures in
    lt-leb c.args.cycle c.in-Some.last c.if-cycle-last.false
    ∙ by-late g c.args.counted.now row c.args.cycle c.in-Some.last
    (sym (ap (last_counted c.args.counted.now) class) ∙ sym c.last_counted.ensures ∙ c.in-Some.is)
    c.if-cycle-last.false

pub returns-in-None : goal.returns-in-None
returns-in-None c =
    let g = c.args.facts.now in
    let row = c.args.row in
    let class : c.class_at.result ≡ class_at g row =
    c.class_at.ensures ∙ ap (λ (g : LaunchGraph). class_at g row) c.graph.ensures in
    by-none g c.args.counted.now row c.args.cycle
    (sym (ap (last_counted c.args.counted.now) class) ∙ sym c.last_counted.ensures ∙ c.in-None.is)
