use Rattle.order_encoding.proofs.LiveTallies.{marked-at, unmarked}
use Rattle.order_encoding.proofs.live_counts.is_pooled.Goals as goal

pub returns-then-class-pooled : goal.returns-then-class-pooled
returns-then-class-pooled c = unmarked c.args.pooled.now.frame.facts.now c.args.pooled.now.frame.table.now c.args.pooled.now.frame.k c.args.pooled.now.frame.scope.now c.requires.frame.graph c.args.pooled.now.marks.now c.requires.marks c.args.class c.if-class-pooled.true

pub returns : goal.returns
returns c = marked-at c.args.pooled.now.frame.facts.now c.args.pooled.now.frame.table.now c.args.pooled.now.frame.k c.args.pooled.now.frame.scope.now c.requires.frame.graph c.args.pooled.now.marks.now c.requires.marks c.args.class _ c.if-class-pooled.false
