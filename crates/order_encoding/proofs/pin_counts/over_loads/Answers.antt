use Rattle.std.proofs.Common.{◌∙◌, Option, false, sym, ap}
use Rattle.std.specs.Option.{option_map_or}
use Rattle.machine_table.specs.declared.tables.InstrKind.{InstrKind}
use Rattle.schedule_meaning.specs.Launches.{is_load}
use Rattle.order_encoding.proofs.DestinedSteps.{load_overs, no_load_overs}
use Rattle.order_encoding.proofs.pin_counts.over_loads.Goals as goal

pub returns-then-is_load-clause-value : goal.returns-then-is_load-clause-value
returns-then-is_load-clause-value c =
    let g = c.args.facts.now in
    c.late.ensures.value ∙ load_overs g c.args.allocation c.args.row (sym (c.is_load.ensures ∙ ap (λ (i : Option InstrKind). option_map_or is_load i false) c.instr_at.ensures) ∙ c.if-is_load.true)

pub returns-else-is_load-clause-value : goal.returns-else-is_load-clause-value
returns-else-is_load-clause-value c =
    let g = c.args.facts.now in
    no_load_overs g c.args.allocation c.args.row (sym (c.is_load.ensures ∙ ap (λ (i : Option InstrKind). option_map_or is_load i false) c.instr_at.ensures) ∙ c.if-is_load.false)
