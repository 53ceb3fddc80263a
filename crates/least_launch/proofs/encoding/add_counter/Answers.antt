use Rattle.std.proofs.Common.{◌∙◌, ◌<◌, ◌^◌, subst}
use Rattle.least_launch.proofs.Built.{clauses_room, lits_exist, lits_few, then_with, vars_room}
use Rattle.least_launch.proofs.encoding.add_counter.Goals as goal

pub at_most-requires-clause-exist : goal.at_most-requires-clause-exist
at_most-requires-clause-exist c =
    lits_exist c.args.n c.args.launches.now c.args.cnf.now c.requires.exist c.deref.result.now
    (c.deref.ensures.value ∙ c.in_ok-lits.ensures)

pub at_most-requires-clause-short : goal.at_most-requires-clause-short
at_most-requires-clause-short c =
    lits_few c.args.n c.args.launches.now c.args.cnf.now c.requires.exist c.deref.result.now
    (c.deref.ensures.value ∙ c.in_ok-lits.ensures)
    (subst (λ n. n < 2 ^ 29) c.vars-vars.ensures.value c.vars-vars.ensures.few)

pub at_most-requires-clause-vars : goal.at_most-requires-clause-vars
at_most-requires-clause-vars c =
    vars_room c.args.n c.args.launches.now c.args.cnf.now c.requires.exist c.deref.result.now
    (c.deref.ensures.value ∙ c.in_ok-lits.ensures) c.requires.within

pub at_most-requires-clause-room : goal.at_most-requires-clause-room
at_most-requires-clause-room c =
    clauses_room c.args.n c.args.launches.now c.args.cnf.now c.requires.exist c.counters_count.ensures.size
    c.deref.result.now
    (c.deref.ensures.value ∙ c.in_ok-lits.ensures) c.requires.within

pub returns-clause-counted : goal.returns-clause-counted
returns-clause-counted c =
    then_with c.at_most.result c.args.n c.deref.result.now _ c.args.cnf.now c.at_most.new.cnf
    (c.deref.ensures.value ∙ c.in_ok-lits.ensures) c.at_most.ensures.exact
