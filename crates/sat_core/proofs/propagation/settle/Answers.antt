use Rattle.std.proofs.Common.{◌+◌, [], Some, get_or, refl}
use Rattle.std.proofs.lemmas.Bool.{iff_false}
use Rattle.cnf_core.specs.Formula.{IsLitOf}
use Rattle.sat_core.specs.Steps.{assignment_of, var_count, IsRightStep}
use Rattle.sat_core.proofs.States.{reason-right}
use Rattle.sat_core.proofs.Visiting.{visit-unit}
use Rattle.sat_core.proofs.propagation.settle.Goals as goal

right : (c : goal.In_ok-assign) → IsLitOf (var_count c.args.trail.now) c.args.lit × IsRightStep c.args.clauses.now c.args.trail.now.steps.items (record { lit = c.args.lit; reason = Some (c.args.place + 1) })
right c =
    let clauses = c.args.clauses.now in
    let t = c.args.trail.now in
    let unit = visit-unit (assignment_of t.values.items) clauses c.args.place (get_or clauses c.args.place []) c.args.lit refl c.requires.place c.requires.among c.requires.others c.requires.not_true (iff_false c.is_false.ensures c.if-is_false.false) in
    reason-right clauses (var_count t) t.steps.items t.values.items t.indices.items t.decisions.items c.args.lit (c.args.place + 1) c.requires.state c.requires.exist unit

pub returns-clause-state : goal.returns-clause-state
returns-clause-state c = c.in_ok-assign.ensures.state c.args.clauses.now c.requires.state (right c).1

pub returns-clause-says : goal.returns-clause-says
returns-clause-says c = (c.in_ok-assign.ensures.steps, (right c).1)
