use Rattle.std.proofs.Common.{◌≡◌, map, take}
use Rattle.machine_table.specs.Tables.{operate_use}
use Rattle.machine_table.proofs.built_in.operate_uses.Given as goal

abbrev pub invariant-loop-row : goal.invariant-loop-row
invariant-loop-row l = l.uses ≡ map (λ row. operate_use row.operate) (take l.row-index l.rows)
