use Rattle.std.proofs.Common.{◌≡◌, ◌∙◌, ◌++◌, refl, ap₂}
use Rattle.forms.specs.Forms.{sexp_form}
use Rattle.goal_reader.specs.Drafts.{names_of_goals, pool_kept}
use Rattle.goal_reader.specs.Reading.{pins_of_targets}
use Rattle.goal_meaning.specs.WellFormed.{input_registers}
use Rattle.goal_meaning.specs.declared.goals.Goal.{Goal}
use Rattle.goal_reader.proofs.Finish.{goal_written, has_set}
use Rattle.goal_reader.proofs.whole.read_goal.Goals as goal

pub returns-clause-goal : goal.returns-clause-goal
returns-clause-goal c =
    let form = sexp_form c.args.text.now c.args.form.now in
    let d = c.in_ok-name.draft in
    let g : Goal = record { name = c.in_ok-name.name; inputs = d.inputs; pool = c.in_ok-pool.pool; lets = d.lets; assumes = d.assumes; guard = d.guard; sets = d.sets } in
    let pool : g.pool ≡ pool_kept (input_registers d.inputs ++ pins_of_targets d.sets) d.pool =
    c.in_ok-pool.ensures ∙ ap₂ (λ is ts. pool_kept (input_registers is ++ pins_of_targets ts) d.pool) c.as_slice.ensures c.as_slice-2.ensures in
    goal_written c.args.declared form g d c.in_ok-name.ensures.draft c.in_ok-name.ensures.written c.in_ok-name.ensures.keeps refl pool refl refl refl refl
    (has_set c.args.declared (names_of_goals c.args.goals.now) form c.in_ok-name.ensures.clear) c.requires.keyword c.in_ok-name.ensures.named
