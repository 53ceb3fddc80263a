use Rattle.machine_table.proofs.BuiltIn.{ev6_is_table}
use Rattle.machine_table.proofs.Limits.{latency_kept, slot_kept, cluster_kept}
use Rattle.machine_table.proofs.laws.tables_keep_limits.Goals as goal

pub returns : goal.returns
returns c = record { latency = latency_kept; slot = slot_kept; few = λ table t. t.slots.1; cluster = cluster_kept; built_in = ev6_is_table }
