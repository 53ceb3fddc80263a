use Rattle.std.proofs.Common.{Some, refl, sym, ◌∙◌}
use Rattle.machine_table.specs.declared.tables.InstrKind.TheVariants.{Operate}
use Rattle.machine_table.proofs.Named.{named_by, found_by}
use Rattle.machine_table.proofs.names.instr_of.Goals as goal

pub returns-in-Some : goal.returns-in-Some
returns-in-Some c =
    let is = named_by c.args.name.now (Some c.in-Some.operate) _ (sym c.in-Some.is ∙ c.of_name.ensures) refl in
    record { exact = is; found = found_by c.args.name.now (Some (Operate c.in-Some.operate)) is }

pub returns-in-None : goal.returns-in-None
returns-in-None c =
    let is = named_by c.args.name.now _ c.other_named.result (sym c.in-None.is ∙ c.of_name.ensures) c.other_named.ensures in
    record { exact = is; found = found_by c.args.name.now c.other_named.result is }
