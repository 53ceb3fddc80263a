use Rattle.std.proofs.Common.{◌∙◌, Option, false, sym, ap}
use Rattle.std.specs.Option.{option_map_or}
use Rattle.machine_table.specs.declared.tables.InstrKind.{InstrKind}
use Rattle.schedule_meaning.specs.Launches.{gives_word}
use Rattle.cycle_encoding.specs.Counts.{one_if}
use Rattle.cycle_encoding.proofs.Going.{pool_all}
use Rattle.cycle_encoding.proofs.reaching.takes_register.Goals as goal

pub returns-then-gives_word-clause-value : goal.returns-then-gives_word-clause-value
returns-then-gives_word-clause-value c =
    sym (pool_all c.args.facts.now c.args._allocation c.args.row ∙ ap one_if (sym (c.gives_word.ensures ∙ ap (λ (i : Option InstrKind). option_map_or gives_word i false) c.instr_at.ensures) ∙ c.if-gives_word.true))
