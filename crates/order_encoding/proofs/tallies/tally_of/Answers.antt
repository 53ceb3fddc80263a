use Rattle.std.proofs.Common.{◌∙◌, Option, false, sym, ap}
use Rattle.std.specs.Option.{option_map_or}
use Rattle.std.specs.List.{sum_by}
use Rattle.machine_table.specs.declared.tables.InstrKind.{InstrKind}
use Rattle.schedule_meaning.specs.Launches.{is_branch, is_store}
use Rattle.cycle_encoding.specs.Counts.{one_if, row_destinations}
use Rattle.order_encoding.specs.Tallies.{tallied}
use Rattle.order_encoding.proofs.DestinedSteps.{uses_are}
use Rattle.order_encoding.proofs.tallies.tally_of.Goals as goal

pub returns-in-Uses-clause-value : goal.returns-in-Uses-clause-value
returns-in-Uses-clause-value c =
    let g = c.args.facts.now in
    let a = c.args.allocation in
    let row = c.args.row in
    uses_are g a row c.places_if.result c.places_if-in-Uses.result _ _ c.places_if.ensures.value c.accesses.ensures c.places_if-in-Uses.ensures.value (c.is_store.ensures ∙ ap (λ (i : Option InstrKind). option_map_or is_store i false) c.instr_at-instr.ensures)
    ∙ ap (λ t. sum_by (tallied t g row) (row_destinations g a row)) (sym c.in-Uses.is)

pub returns-in-Branches-clause-value : goal.returns-in-Branches-clause-value
returns-in-Branches-clause-value c =
    let g = c.args.facts.now in
    let a = c.args.allocation in
    let row = c.args.row in
    c.places_if-in-Branches.ensures.value ∙ ap (λ b. sum_by (λ to. one_if b) (row_destinations g a row)) (c.is_branch.ensures ∙ ap (λ (i : Option InstrKind). option_map_or is_branch i false) c.instr_at-instr.ensures)
    ∙ ap (λ t. sum_by (tallied t g row) (row_destinations g a row)) (sym c.in-Branches.is)

pub returns-in-Waits-clause-value : goal.returns-in-Waits-clause-value
returns-in-Waits-clause-value c =
    let g = c.args.facts.now in
    let a = c.args.allocation in
    let row = c.args.row in
    c.places_if-in-Waits.ensures.value ∙ ap (λ b. sum_by (λ to. one_if b) (row_destinations g a row)) c.waits.ensures
    ∙ ap (λ t. sum_by (tallied t g row) (row_destinations g a row)) (sym c.in-Waits.is)

pub returns-in-Takes-clause-value : goal.returns-in-Takes-clause-value
returns-in-Takes-clause-value c =
    let g = c.args.facts.now in
    let a = c.args.allocation in
    let row = c.args.row in
    c.takes_register.ensures.value
    ∙ ap (λ t. sum_by (tallied t g row) (row_destinations g a row)) (sym c.in-Takes.is)

pub returns-in-Goes-clause-value : goal.returns-in-Goes-clause-value
returns-in-Goes-clause-value c =
    let g = c.args.facts.now in
    let a = c.args.allocation in
    let row = c.args.row in
    c.goes.ensures.value
    ∙ ap (λ t. sum_by (tallied t g row) (row_destinations g a row)) (sym c.in-Goes.is)

pub returns-in-Late-clause-value : goal.returns-in-Late-clause-value
returns-in-Late-clause-value c =
    let g = c.args.facts.now in
    let a = c.args.allocation in
    let row = c.args.row in
    c.late.ensures.value
    ∙ ap (λ t. sum_by (tallied t g row) (row_destinations g a row)) (sym c.in-Late.is)

pub returns-in-OverLoads-clause-value : goal.returns-in-OverLoads-clause-value
returns-in-OverLoads-clause-value c =
    let g = c.args.facts.now in
    let a = c.args.allocation in
    let row = c.args.row in
    c.over_loads.ensures.value
    ∙ ap (λ t. sum_by (tallied t g row) (row_destinations g a row)) (sym c.in-OverLoads.is)
