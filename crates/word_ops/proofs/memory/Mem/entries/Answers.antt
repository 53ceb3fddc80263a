use Rattle.std.proofs.Common.{sym, ◌∙◌, rules}
use Rattle.word_ops.proofs.StoredEntries.{entries_seen, entries_rise}
use Rattle.word_ops.proofs.memory.Mem.entries.Goals as goal

pub loop-place-init : goal.loop-place-init
loop-place-init c = rw (c.in_ok-pairs.ensures.items, ← c.self.view_is) (c.into_iter-place-iterator.ensures.into_iter_gives.0 ∙ sym (entries_seen c.self.inside.words c.len.ensures.ordered))

pub returns-clause-listed : goal.returns-clause-listed
returns-clause-listed c = search rules

pub returns-clause-rising : goal.returns-clause-rising
returns-clause-rising c = entries_rise c.self.inside.words c.len.ensures.ordered c.loop-place.pairs.items (returns-clause-listed c ∙ rw (← c.self.view_is) (entries_seen c.self.inside.words c.len.ensures.ordered))
