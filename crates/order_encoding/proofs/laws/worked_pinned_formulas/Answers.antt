use Rattle.std.proofs.Common.{refl}
use Rattle.cnf_core.specs.Counter.{counter_rows}
use Rattle.machine_table.specs.Tables.{ev6}
use Rattle.order_encoding.proofs.laws.worked_pinned_formulas.Goals as goal

pub returns-clause-step : goal.returns-clause-step
unfolding counter_rows
returns-clause-step c = refl

pub returns-clause-exchange : goal.returns-clause-exchange
unfolding counter_rows
returns-clause-exchange c = refl

pub returns-clause-copy_vars : goal.returns-clause-copy_vars
unfolding ev6
returns-clause-copy_vars c = refl

pub returns-clause-copy_clauses : goal.returns-clause-copy_clauses
unfolding counter_rows ev6
returns-clause-copy_clauses c = refl

pub returns-clause-no_step_vars : goal.returns-clause-no_step_vars
unfolding ev6
returns-clause-no_step_vars c = refl

pub returns-clause-no_step_size : goal.returns-clause-no_step_size
unfolding counter_rows ev6
returns-clause-no_step_size c = refl

pub returns-clause-step_vars : goal.returns-clause-step_vars
unfolding ev6
returns-clause-step_vars c = refl

pub returns-clause-step_size : goal.returns-clause-step_size
unfolding counter_rows ev6
returns-clause-step_size c = refl
