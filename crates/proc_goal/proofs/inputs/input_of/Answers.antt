use Rattle.std.proofs.Common.{List, ap₂, ◌∙◌, map, subst, sym}
use Rattle.goal_meaning.specs.Views.{GoalTree, InputTree, axiom_view}
use Rattle.goal_meaning.specs.WellFormed.{IsInput}
use Rattle.goal_meaning.specs.declared.goals.Axiom.{Axiom}
use Rattle.goal_meaning.specs.declared.goals.DeclaredOp.{DeclaredOp}
use Rattle.machine_table.specs.declared.tables.Table.{Table}
use Rattle.proc_goal.specs.Goals.{input_of_proc}
use Rattle.proc_goal.specs.Views.{proc_view}
use Rattle.proc_goal.proofs.inputs.input_of.Goals as goal

pub returns-clause-well_formed : goal.returns-clause-well_formed
returns-clause-well_formed c =
    let p = c.args.proc.now in
    let made : Table → List GoalTree → List DeclaredOp → List Axiom → InputTree =
    λ t gs os xs. record { table = t; builtin = p.builtin; ops = os; axioms = map axiom_view xs; goals = gs } in
    subst IsInput (sym (ap₂ (λ t gs. made t gs c.new-ops.result c.new-axioms.result) c.in_ok-table.ensures c.in_ok-goals.ensures ∙ ap₂ (made p.table (input_of_proc (proc_view p)).goals) c.new-ops.ensures c.new-axioms.ensures))
    (c.goals_of_procs_are_well_formed.ensures (proc_view p) c.requires)
