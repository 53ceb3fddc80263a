use Rattle.std.proofs.Common.{refl, sym, ◌∙◌}
use Rattle.goal_reader.proofs.Names.{built_in_word, built_in_other, none_some}
use Rattle.goal_reader.proofs.scopes.built_in.Goals as goal

pub returns-in-Some : goal.returns-in-Some
returns-in-Some c = c.written.ensures ∙ sym (built_in_word c.in-Some.op c.args.name.now ((c.in-Some.ensures.found c.in-Some.op).0 refl))

pub returns-in-None : goal.returns-in-None
returns-in-None c = c.memory_operator.ensures ∙ sym (built_in_other c.args.name.now (λ op e. none_some op ((c.in-None.ensures.found op).1 e)))
