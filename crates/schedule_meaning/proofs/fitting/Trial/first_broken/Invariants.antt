use Rattle.schedule_meaning.specs.Broken.{KeptBelow}
use Rattle.schedule_meaning.proofs.fitting.Trial.first_broken.Given as goal

-- The launches so far keep the rule.
abbrev pub invariant-loop-at : goal.invariant-loop-at
invariant-loop-at l = KeptBelow l.self.graph.now l.self.table.now l.self.allocation l.self.k l.self.list.now l.rule l.at
