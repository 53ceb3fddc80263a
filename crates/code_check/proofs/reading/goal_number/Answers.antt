use Rattle.std.proofs.Common.{bytes_eq, sym, ap, ◌∙◌}
use Rattle.goal_meaning.specs.Views.{GoalTree, goal_view}
use Rattle.goal_meaning.specs.declared.goals.Goal.{Goal}
use Rattle.code_check.proofs.Searches.{found_here, none_left, not_here}
use Rattle.code_check.proofs.reading.goal_number.Goals as goal

pub returns-then-eq : goal.returns-then-eq
returns-then-eq c =
    found_here (λ (g : GoalTree). bytes_eq g.name c.args.name.now) goal_view c.args.goals.now c.loop-number.number c.index-goals-number.result c.loop-number-test.true c.index-goals-number.is
    c.loop-number.invariant (ap (λ (g : Goal). bytes_eq g.name c.args.name.now) c.index-goals-number.is ∙ ap (λ n. bytes_eq n c.args.name.now) (sym c.bytes.ensures) ∙ sym c.eq.ensures ∙ c.if-eq.true)

pub loop-number-preserved : goal.loop-number-preserved
loop-number-preserved c =
    not_here (λ (g : GoalTree). bytes_eq g.name c.args.name.now) goal_view c.args.goals.now c.loop-number.number c.index-goals-number.result c.loop-number-test.true c.index-goals-number.is
    c.loop-number.invariant (ap (λ (g : Goal). bytes_eq g.name c.args.name.now) c.index-goals-number.is ∙ ap (λ n. bytes_eq n c.args.name.now) (sym c.bytes.ensures) ∙ sym c.eq.ensures ∙ c.if-eq.false)

pub returns : goal.returns
returns c = none_left (λ (g : GoalTree). bytes_eq g.name c.args.name.now) goal_view c.args.goals.now c.loop-number.number c.loop-number-test.false c.loop-number.invariant
