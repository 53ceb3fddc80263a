use Rattle.cycle_encoding.specs.CycleFormula.{allocation_in}
use Rattle.least_launch.specs.FewerLaunches.{fewer_in}
use Rattle.least_launch.proofs.Checked.{all_hold, if_none, left_none, says_true, where_some}
use Rattle.least_launch.proofs.checking.check_clauses.Goals as goal

pub refused-requires-clause-size : goal.refused-requires-clause-size
refused-requires-clause-size c = left_none _ c.in_ok-sizes.field-0 c.in_default.not-Some c.in_ok-sizes.ensures

pub returns-in-Some-clause-outcome : goal.returns-in-Some-clause-outcome
returns-in-Some-clause-outcome c =
    where_some _ _ c.in_ok-sizes.field-0 c.in-Some.sizes c.in-Some.is c.in_ok-sizes.ensures

pub returns-in-Some-2-clause-outcome : goal.returns-in-Some-2-clause-outcome
returns-in-Some-2-clause-outcome c = (
  left_none _ c.in_ok-sizes.field-0 c.in_default.not-Some c.in_ok-sizes.ensures,
  where_some _ _ c.in_ok-rejected.field-0 c.in-Some-2.rejected c.in-Some-2.is c.in_ok-rejected.ensures.exact,
)

pub returns-clause-outcome : goal.returns-clause-outcome
returns-clause-outcome c =
    let f = fewer_in c.args.scope.now c.args.facts.now c.args.table.now c.args.k c.args.n in
    all_hold f c.args.tail.now c.holds.result
    (left_none _ c.in_ok-sizes.field-0 c.in_default.not-Some c.in_ok-sizes.ensures)
    (left_none _ c.in_ok-rejected.field-0 c.in_default-2.not-Some c.in_ok-rejected.ensures.exact) c.holds.ensures

pub returns-clause-sound : goal.returns-clause-sound
returns-clause-sound c =
    says_true c.args.facts.now c.args.table.now (allocation_in c.args.scope.now) c.args.k c.args.n c.args.tail.now
    c.holds.result c.requires.said
    (if_none c.in_ok-rejected.field-0 c.in_default-2.not-Some c.in_ok-rejected.ensures.none_fits) c.holds.ensures
