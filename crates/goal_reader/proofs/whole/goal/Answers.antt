use Rattle.std.proofs.Common.{◌≡◌, false}
use Rattle.forms.proofs.Told.{gives, refuses}
use Rattle.forms.specs.Forms.{sexp_form}
use Rattle.text_core.proofs.Outcomes.{first_once}
use Rattle.goal_reader.specs.Drafts.{names_of_goals}
use Rattle.goal_reader.specs.Grammar.{WritesGoal}
use Rattle.goal_reader.specs.Roles as roles
use Rattle.text_core.specs.Names.{is_among}
use Rattle.goal_reader.specs.Roles.{IsFaultAs}
use Rattle.goal_meaning.specs.Views.{GoalTree, goal_view}
use Rattle.text_core.specs.Faults.{IsFirst}
use Rattle.goal_reader.proofs.Finish.{both_ok}
use Rattle.goal_reader.proofs.GoalClear.{written_goal_clear}
use Rattle.goal_reader.proofs.ReadParts.{goal_once}
use Rattle.goal_reader.proofs.whole.goal.Goals as goal

pub returns-clause-read : goal.returns-clause-read
returns-clause-read c =
    let form = sexp_form c.args.text.now c.args.form.now in
    let declared = c.args.declared in
    let names = names_of_goals c.args.goals.now in
    let IsAt = IsFaultAs (roles.a_list (roles.goal declared names)) form in
    let Has : GoalTree → Type 0 = λ g. WritesGoal declared form g × (is_among names g.name ≡ false) in
    λ g w fresh. gives (λ read. goal_view read.0) Has (IsFirst IsAt) (λ x y a b. goal_once declared form x y a.0 b.0)
    (λ x place kind a first. written_goal_clear declared names form x a.0 a.1 place kind first.found) (first_once IsAt) c.read_goal.result
    (both_ok (λ read. WritesGoal declared form (goal_view read.0)) (λ read. is_among names read.0.name ≡ false) c.read_goal.result c.read_goal.ensures.goal c.read_goal.ensures.fresh) c.read_goal.ensures.fault g (w, fresh)

pub returns-clause-refused : goal.returns-clause-refused
returns-clause-refused c =
    let form = sexp_form c.args.text.now c.args.form.now in
    let declared = c.args.declared in
    let names = names_of_goals c.args.goals.now in
    let IsAt = IsFaultAs (roles.a_list (roles.goal declared names)) form in
    let Has : GoalTree → Type 0 = λ g. WritesGoal declared form g × (is_among names g.name ≡ false) in
    refuses (λ read. goal_view read.0) Has (IsFirst IsAt) (λ x y a b. goal_once declared form x y a.0 b.0)
    (λ x place kind a first. written_goal_clear declared names form x a.0 a.1 place kind first.found) (first_once IsAt) c.read_goal.result
    (both_ok (λ read. WritesGoal declared form (goal_view read.0)) (λ read. is_among names read.0.name ≡ false) c.read_goal.result c.read_goal.ensures.goal c.read_goal.ensures.fresh) c.read_goal.ensures.fault
