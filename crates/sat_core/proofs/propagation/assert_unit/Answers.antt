use Rattle.std.proofs.Common.{◌≡◌, ◌+◌, ◌-◌, ℕ, List, [], Some, get_or, ap, sym, ◌∙◌, subst, arith, inl}
use Rattle.std.specs.List.{Contains}
use Rattle.std.proofs.lemmas.Option.{get_or_from_slice_get}
use Rattle.cnf_core.specs.declared.literal.Lit.{Lit}
use Rattle.cnf_core.specs.Formula.{IsLitOf}
use Rattle.cnf_core.specs.Values.{IsUnit, IsOpenClause, IsFalseClause}
use Rattle.cnf_core.specs.Refutation.{clause_at}
use Rattle.sat_core.specs.declared.trail.Step.{Step}
use Rattle.sat_core.specs.Steps.{assignment_of, trail_values, var_count, IsRightStep, IsTrailState}
use Rattle.sat_core.proofs.Holding.{held-push-same}
use Rattle.sat_core.proofs.States.{reason-right}
use Rattle.sat_core.proofs.propagation.assert_unit.Goals as goal

at-place : (clauses : List (List Lit)) (place : ℕ) → clause_at clauses (place + 1) ≡ get_or clauses place []
at-place clauses place = (let e : place + 1 - 1 ≡ place = omega arith in ap (λ (k : ℕ). get_or clauses k []) e)

right : (c : goal.In_ok-assign-in-Unit) → IsLitOf (var_count c.args.trail.now) c.in-Unit.lit × IsRightStep c.args.clauses.now c.args.trail.now.steps.items (record { lit = c.in-Unit.lit; reason = Some (c.args.place + 1) })
right c =
    let t = c.args.trail.now in
    let clauses = c.args.clauses.now in
    let is = at-place clauses c.args.place ∙ get_or_from_slice_get clauses c.args.place c.get.result.now [] c.get.ensures in
    let few = c.requires.place in
    reason-right clauses (var_count t) t.steps.items t.values.items t.indices.items t.decisions.items c.in-Unit.lit (c.args.place + 1) c.requires.state c.requires.exist
    (record { low = omega arith; high = omega arith; unit = subst (λ (x : List Lit). IsUnit (assignment_of t.values.items) x c.in-Unit.lit) (sym is) c.in-Unit.ensures })

pub returns-in_ok-assign-in-Unit-clause-state : goal.returns-in_ok-assign-in-Unit-clause-state
returns-in_ok-assign-in-Unit-clause-state c = c.in_ok-assign-in-Unit.ensures.state c.args.clauses.now c.requires.state (right c).1

pub returns-in_ok-assign-in-Unit-clause-done : goal.returns-in_ok-assign-in-Unit-clause-done
returns-in_ok-assign-in-Unit-clause-done c =
    let t = c.args.trail.now in
    let clauses = c.args.clauses.now in
    let lit = c.in-Unit.lit in
    let r = right c in
    let step : Step = record { lit = lit; reason = Some (c.args.place + 1) } in
    let state : IsTrailState clauses (var_count t) c.assign.new.self = c.in_ok-assign-in-Unit.ensures.state clauses c.requires.state r.1 in
    let value = subst (λ (ss : List Step). trail_values ss lit.var ≡ Some lit.positive) (sym c.in_ok-assign-in-Unit.ensures.steps) (held-push-same t.steps.items step r.1.free) in
    let u : IsUnit (assignment_of t.values.items) c.get.result.now lit = c.in-Unit.ensures in
    inl (
      lit,
      subst (λ (x : List Lit). Contains x lit) (sym (get_or_from_slice_get clauses c.args.place c.get.result.now [] c.get.ensures)) u.among,
      sym (state.shows lit.var r.0.above r.0.within) ∙ value,
    )

pub returns-in-Falsified-clause-done : goal.returns-in-Falsified-clause-done
returns-in-Falsified-clause-done c =
    let clauses = c.args.clauses.now in
    let is = at-place clauses c.args.place ∙ get_or_from_slice_get clauses c.args.place c.get.result.now [] c.get.ensures in
    let few = c.requires.place in
    record { low = omega arith; high = omega arith; false' = subst (IsFalseClause (assignment_of c.args.trail.now.values.items)) (sym is) c.in-Falsified.ensures }

pub returns-in-Open-clause-done : goal.returns-in-Open-clause-done
returns-in-Open-clause-done c =
    subst (IsOpenClause (assignment_of c.args.trail.now.values.items)) (sym (get_or_from_slice_get c.args.clauses.now c.args.place c.get.result.now [] c.get.ensures)) c.in-Open.ensures
