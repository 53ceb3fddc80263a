use Rattle.std.proofs.Common.{[], sym, subst}
use Rattle.std.proofs.lemmas.Result.{err_from_is_err_and}
use Rattle.launch_graph.specs.BehindRows.{AreSetsAt, CanTakeSets}
use Rattle.launch_graph.proofs.BehindWhole.{at_inputs, at_pool, at_guard, at_sets, read_whole}
use Rattle.launch_graph.proofs.behind_rows.read_behind.Goals as goal

pub returns-in_err-entry-clause-fault : goal.returns-in_err-entry-clause-fault
returns-in_err-entry-clause-fault c =
    let p = err_from_is_err_and c.from_residual.result c.from_residual.ensures.1 in
    rw (p.1, p.2) (c.in_err-entry.ensures.fault c.args.version)

pub returns-in_err-inputs-clause-fault : goal.returns-in_err-inputs-clause-fault
returns-in_err-inputs-clause-fault c =
    let p = err_from_is_err_and c.from_residual-in_err-inputs.result c.from_residual-in_err-inputs.ensures.1 in
    rw (p.1, p.2)
    (λ from all b.
    c.in_err-inputs.ensures.fault c.args.version from all
    (at_inputs c.operators_are_listed.ensures.names c.args.text.now c.args.marks.now c.args.first c.in_ok-entry.entry c.in_ok-entry.ensures.ok c.args.version from all b))

pub returns-in_err-pool-clause-fault : goal.returns-in_err-pool-clause-fault
returns-in_err-pool-clause-fault c =
    let p = err_from_is_err_and c.from_residual-in_err-pool.result c.from_residual-in_err-pool.ensures.1 in
    rw (p.1, p.2)
    (λ from all b.
    c.in_err-pool.ensures.fault c.args.marks.now c.in_ok-inputs.ensures.end c.args.version from all
    (at_pool c.operators_are_listed.ensures.names c.args.text.now c.args.marks.now c.args.first c.in_ok-entry.entry c.in_ok-entry.ensures.ok
    c.in_ok-inputs.line c.in_ok-inputs.inputs c.in_ok-inputs.ensures.inputs c.args.version from all b))

pub returns-in_err-guard-clause-fault : goal.returns-in_err-guard-clause-fault
returns-in_err-guard-clause-fault c =
    let p = err_from_is_err_and c.from_residual-in_err-guard.result c.from_residual-in_err-guard.ensures.1 in
    rw (p.1, p.2)
    (λ from all b.
    c.in_err-guard.ensures.fault c.args.version from all
    (at_guard c.operators_are_listed.ensures.names c.args.text.now c.args.marks.now c.args.first c.in_ok-entry.entry c.in_ok-entry.ensures.ok
    c.in_ok-inputs.line c.in_ok-inputs.inputs c.in_ok-inputs.ensures.inputs c.in_ok-pool.pool c.in_ok-pool.ensures.ok c.args.version from all b))

pub returns-in_err-sets-clause-fault : goal.returns-in_err-sets-clause-fault
returns-in_err-sets-clause-fault c =
    let p = err_from_is_err_and c.from_residual-in_err-sets.result c.from_residual-in_err-sets.ensures.1 in
    rw (p.1, p.2)
    (λ from all b.
    (let t = subst (λ n. CanTakeSets c.args.version c.args.text.now from all c.args.marks.now n []) (sym c.behind_guard-targets.ensures)
    (at_sets c.operators_are_listed.ensures.names c.args.text.now c.args.marks.now c.args.first c.in_ok-entry.entry c.in_ok-entry.ensures.ok
    c.in_ok-inputs.line c.in_ok-inputs.inputs c.in_ok-inputs.ensures.inputs c.in_ok-pool.pool c.in_ok-pool.ensures.ok
    c.in_ok-guard.guard c.in_ok-guard.ensures.ok c.args.version from all b) in
    c.in_err-sets.ensures.fault t.stage t.takes from all t.behind))

pub returns-clause-ok : goal.returns-clause-ok
returns-clause-ok c =
    read_whole c.operators_are_listed.ensures.names c.args.text.now c.args.marks.now c.args.first c.in_ok-entry.entry c.in_ok-entry.ensures.ok
    c.in_ok-inputs.line c.in_ok-inputs.inputs c.in_ok-inputs.ensures.inputs c.in_ok-pool.pool c.in_ok-pool.ensures.ok
    c.in_ok-guard.guard c.in_ok-guard.ensures.ok c.args.version c.in_ok-sets.sets c.in_ok-sets.next
    (subst (λ n. AreSetsAt c.args.version c.args.text.now c.args.marks.now n c.in_ok-sets.next c.in_ok-sets.sets) c.behind_guard-targets.ensures c.in_ok-sets.ensures.sets)
    c.in_ok-sets.ensures.end
