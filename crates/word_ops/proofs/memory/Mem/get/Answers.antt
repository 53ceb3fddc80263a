use Rattle.std.proofs.Common.{sym, ap, ◌∙◌}
use Rattle.std.specs.Option.{unwrap_or}
use Rattle.word_ops.proofs.StoredEntries.{word_at_seen}
use Rattle.word_ops.proofs.memory.Mem.get.Goals as goal

pub returns-in-Some-clause-word : goal.returns-in-Some-clause-word
returns-in-Some-clause-word c = rw (← c.self.view_is) (sym (word_at_seen c.self.inside.words c.args.place ∙ ap (λ o. unwrap_or o 0) (sym c.in-Some.ensures.value)))

pub returns-in-None-clause-word : goal.returns-in-None-clause-word
returns-in-None-clause-word c = rw (← c.self.view_is) (sym (word_at_seen c.self.inside.words c.args.place ∙ ap (λ o. unwrap_or o 0) (sym c.in-None.ensures.value)))
