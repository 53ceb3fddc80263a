use Rattle.machine_table.proofs.Clear.{written_clear}
use Rattle.machine_table.proofs.Written.{table_once}
use Rattle.machine_table.proofs.laws.one_table.Goals as goal

pub returns : goal.returns
returns c = record { once = table_once; clear = written_clear }
