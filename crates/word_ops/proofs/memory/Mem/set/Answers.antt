use Rattle.std.proofs.Common.{arith}
use Rattle.word_ops.proofs.Stored.{IsMemory-put_word}
use Rattle.word_ops.proofs.StoredEntries.{insert_seen, remove_seen}
use Rattle.word_ops.proofs.memory.Mem.set.Goals as goal

pub invariant_of-self : goal.invariant_of-self
invariant_of-self c = rw (remove_seen c.self.inside.words c.remove.new.self c.args.place c.remove.ensures.updates) (IsMemory-put_word _ c.args.place 0 c.self.invariant c.requires (omega arith))

pub returns-then-word-eq0-clause-is_memory : goal.returns-then-word-eq0-clause-is_memory
returns-then-word-eq0-clause-is_memory c = invariant_of-self c

pub returns-then-word-eq0-clause-ok : goal.returns-then-word-eq0-clause-ok
returns-then-word-eq0-clause-ok c = rw (← c.self.view_is, c.if-word-eq0.true) (remove_seen c.self.inside.words c.remove.new.self c.args.place c.remove.ensures.updates)

pub invariant_of-self-2 : goal.invariant_of-self-2
invariant_of-self-2 c = rw (insert_seen c.self.inside.words c.insert.new.self c.args.place c.args.word c.in_ok-insert.ensures.updates c.if-word-eq0.false) (IsMemory-put_word _ c.args.place c.args.word c.self.invariant c.requires c.ranges.word.fits)

pub returns-clause-is_memory : goal.returns-clause-is_memory
returns-clause-is_memory c = invariant_of-self-2 c

pub returns-clause-ok : goal.returns-clause-ok
returns-clause-ok c = rw (← c.self.view_is) (insert_seen c.self.inside.words c.insert.new.self c.args.place c.args.word c.in_ok-insert.ensures.updates c.if-word-eq0.false)
