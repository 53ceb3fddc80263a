use Rattle.machine_table.proofs.Named.{is_named, found, own, below, once, operate_is, no_operate}
use Rattle.machine_table.proofs.laws.instructions_have_names.Goals as goal

pub returns : goal.returns
returns c = record { named = is_named; found = found; own = own; below = below; once = once; operate = operate_is; none = no_operate }
