use Rattle.std.proofs.Common.{refl, ◌∙◌, ◌+◌, sym, ap, arith}
use Rattle.schedule_meaning.specs.Launches.{class_at}
use Rattle.graph_meaning.specs.declared.graphs.LaunchGraph.{LaunchGraph}
use Rattle.cycle_encoding.specs.Coming.{are_come}
use Rattle.cycle_encoding.proofs.ComeSteps.{delay-few, not-ready, row-sound, row-passed}
use Rattle.cycle_encoding.proofs.coming.pass_row.Goals as goal

pub returns-then-have_come-clause-sound : goal.returns-then-have_come-clause-sound
returns-then-have_come-clause-sound c =
    let g = c.args.rows.now.facts.now in
    let table = c.args.rows.now.table.now in
    let w = sym c.delay.ensures ∙ c.in-Some.is in
    let ready = ap (λ xs. are_come xs c.args.cycle c.args.needs.now) (sym c.deref.ensures.value) ∙ sym c.have_come.ensures ∙ c.if-have_come.true in
    let class = c.class_at-class.ensures ∙ ap (λ (g : LaunchGraph). class_at g c.args.row) c.graph.ensures in
    row-sound g table c.args.rows.now.allocation c.args.come.now.items c.args.cycle c.args.row c.in-Some.delay c.args.needs.now c.requires.needs w c.class_at-class.result (c.args.cycle + c.in-Some.delay) c.put_come.new.come.items class refl c.put_come.ensures c.requires.sound ready

pub returns-then-have_come-clause-passed : goal.returns-then-have_come-clause-passed
returns-then-have_come-clause-passed c =
    let g = c.args.rows.now.facts.now in
    let table = c.args.rows.now.table.now in
    let w = sym c.delay.ensures ∙ c.in-Some.is in
    let ready = ap (λ xs. are_come xs c.args.cycle c.args.needs.now) (sym c.deref.ensures.value) ∙ sym c.have_come.ensures ∙ c.if-have_come.true in
    let class = c.class_at-class.ensures ∙ ap (λ (g : LaunchGraph). class_at g c.args.row) c.graph.ensures in
    row-passed g table c.args.rows.now.allocation c.args.come.now.items c.args.cycle c.args.row c.in-Some.delay c.args.needs.now c.requires.needs w c.class_at-class.result (c.args.cycle + c.in-Some.delay) c.put_come.new.come.items class refl c.put_come.ensures c.requires.sound ready c.requires.graph c.requires.long

pub returns-else-have_come-clause-passed : goal.returns-else-have_come-clause-passed
returns-else-have_come-clause-passed c =
    let g = c.args.rows.now.facts.now in
    let table = c.args.rows.now.table.now in
    let w = sym c.delay.ensures ∙ c.in-Some.is in
    let late = ap (λ xs. are_come xs c.args.cycle c.args.needs.now) (sym c.deref.ensures.value) ∙ sym c.have_come.ensures ∙ c.if-have_come.false in
    not-ready g table c.args.rows.now.allocation c.args.come.now.items c.args.cycle c.args.row c.in-Some.delay c.args.needs.now c.requires.needs w c.requires.found late

pub overflow_add-cycle : goal.overflow_add-cycle
overflow_add-cycle c = (let w = sym c.delay.ensures ∙ c.in-Some.is in let few = (delay-few c.args.rows.now.facts.now c.args.rows.now.table.now c.args.rows.now.allocation c.requires.table c.args.row c.in-Some.delay w).1 in let cycle = c.requires.cycle in omega arith)
