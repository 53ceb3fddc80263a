use Rattle.std.proofs.Common.{refl}
use Rattle.cnf_core.specs.Counter.{counter_rows}
use Rattle.machine_table.specs.Tables.{ev6}
use Rattle.order_encoding.proofs.laws.worked_formulas.Goals as goal

pub returns-clause-copy_vars : goal.returns-clause-copy_vars
unfolding ev6
returns-clause-copy_vars c = refl

pub returns-clause-copy_clauses : goal.returns-clause-copy_clauses
unfolding counter_rows ev6
returns-clause-copy_clauses c = refl

pub returns-clause-one_sum_at_once : goal.returns-clause-one_sum_at_once
unfolding counter_rows ev6
returns-clause-one_sum_at_once c = refl

pub returns-clause-one_sum_vars : goal.returns-clause-one_sum_vars
unfolding ev6
returns-clause-one_sum_vars c = refl

pub returns-clause-one_sum_size : goal.returns-clause-one_sum_size
unfolding counter_rows ev6
returns-clause-one_sum_size c = refl
