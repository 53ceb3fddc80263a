-- The table of the worked schedules is within the limits, decided by computing.
use Rattle.std.proofs.Common.{refl, arith}
use Rattle.machine_table.specs.Tables.{IsTable}
use Rattle.machine_table.proofs.BuiltIn.{dec_clusters, dec_names, dec_uses, dec_order}
use Rattle.machine_table.proofs.Decide.{sure}
use Rattle.schedule_meaning.specs.Worked.{two_slots}

pub two_slots_is_table : IsTable two_slots
two_slots_is_table = record {
  slots = (omega arith, omega arith);
  clusters = sure (dec_clusters two_slots) refl;
  names = sure (dec_names two_slots) refl;
  cross = omega arith;
  uses = sure (dec_uses two_slots) refl;
  order = sure (dec_order two_slots) refl;
}
