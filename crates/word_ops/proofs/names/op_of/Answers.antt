use Rattle.std.proofs.Common.{sym, ◌∙◌}
use Rattle.word_ops.proofs.NameSearch.{found_operate, found_other}
use Rattle.word_ops.proofs.names.op_of.Goals as goal

pub returns-in-Some : goal.returns-in-Some
returns-in-Some c = record { found = found_operate c.args.name.now c.in-Some.operate (sym c.of_name.ensures ∙ c.in-Some.is) }

pub returns-in-None : goal.returns-in-None
returns-in-None c = record { found = found_other c.args.name.now c.other_named.result (sym c.of_name.ensures ∙ c.in-None.is) c.other_named.ensures }
