use Rattle.std.proofs.Common.{arith}
use Rattle.forms.specs.Printing.{more, none}
use Rattle.machine_table.specs.Printing.{table_plain}
use Rattle.machine_table.proofs.Once.{one_table}
use Rattle.machine_table.proofs.Printable.{table_prints, table_level}
use Rattle.machine_table.proofs.laws.printed_tables_are_read.Goals as goal

pub returns : goal.returns
returns c = record {
  read = λ table t named. let low = table_level table in
      c.printed_lines_are_read.ensures (more (table_plain table) none) (table_prints table t named, tt) (omega (arith, low));
  once = one_table;
}
