use Rattle.std.proofs.Common.{◌≡◌, All, Some, slice_get, subst, sym}
use Rattle.std.proofs.lemmas.Result.{IfOk-weaker}
use Rattle.answer_texts.specs.WellFormed.{IsClaimed}
use Rattle.dimacs.specs.GoalClauses.{AreClausesOf, of_goal}
use Rattle.dimacs.proofs.Clauses.{goal_is_claimed, goal_there}
use Rattle.dimacs.proofs.goal_clauses.clauses_at.Goals as goal

pub clauses_of-requires-clause-goal : goal.clauses_of-requires-clause-goal
clauses_of-requires-clause-goal c =
    let version = c.args.answer.now.version in (
      version,
      goal_is_claimed version c.as_slice.result.now c.args.at c.in-Some.goal.now
          (subst (All (IsClaimed version)) (sym c.as_slice.ensures) c.requires.answer.goals) c.in-Some.ensures.lookup.3.0
          c.in-Some.ensures.lookup.1,
    )

pub returns-in-Some : goal.returns-in-Some
returns-in-Some c =
    let there = goal_there c.as_slice.result.now c.args.at c.in-Some.goal.now c.in-Some.ensures.lookup.3.0
    c.in-Some.ensures.lookup.1 in
    IfOk-weaker c.clauses_of.result _ _
    (λ r are. of_goal (subst (λ gs. slice_get gs c.args.at ≡ Some c.in-Some.goal.now) c.as_slice.ensures there)
    (subst (λ e. AreClausesOf e c.args.answer.now.table c.in-Some.goal.now c.args.k r.bytes.items r.status)
    c.encoding_named-encoding.ensures are)) c.clauses_of.ensures
