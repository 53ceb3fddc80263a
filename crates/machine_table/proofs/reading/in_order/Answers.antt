use Rattle.std.proofs.Common.{rules, subst, sym}
use Rattle.std.proofs.lemmas.List.Sorted.{IsNonDecreasingBy-from_sort_by_key}
use Rattle.machine_table.specs.InstrOrder.{kind_number}
use Rattle.machine_table.specs.Reading.{DontFall}
use Rattle.machine_table.specs.declared.tables.Use.{Use}
use Rattle.machine_table.proofs.reading.in_order.Goals as goal

pub returns-clause-order : goal.returns-clause-order
returns-clause-order c =
    subst DontFall (sym c.from.ensures)
    (IsNonDecreasingBy-from_sort_by_key (λ (u : Use). kind_number u.instr) _ c.sort_unstable_by_key.ensures.sorted (λ a r q k. search rules))
