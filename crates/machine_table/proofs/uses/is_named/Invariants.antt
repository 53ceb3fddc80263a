use Rattle.std.proofs.Common.{◌≡◌, drop}
use Rattle.machine_table.specs.Reading.{names_of_uses}
use Rattle.text_core.specs.Names.{is_among}
use Rattle.machine_table.proofs.uses.is_named.Given as goal

abbrev pub invariant-loop-one : goal.invariant-loop-one
invariant-loop-one l = is_among (names_of_uses l.uses) l.name ≡ is_among (names_of_uses (drop l.one-index l.uses)) l.name
