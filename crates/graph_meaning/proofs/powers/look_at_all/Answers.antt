use Rattle.std.proofs.Common.{◌∙◌, sym, subst, length, arith}
use Rattle.graph_meaning.specs.Raising.{AreConstants}
use Rattle.graph_meaning.proofs.Raises.{below_at, more_seen}
use Rattle.graph_meaning.proofs.powers.look_at_all.Goals as goal

pub look_at-requires-clause-below : goal.look_at-requires-clause-below
look_at-requires-clause-below c =
    below_at c.args.rows.now (length c.loop-row.powers.items) (length c.args.powers.now.items) c.loop-row.row-index
    c.row-item.result c.loop-row.invariant.size c.row-item.is c.loop-row-test.true c.requires.below

pub look_at-requires-clause-constants : goal.look_at-requires-clause-constants
look_at-requires-clause-constants c =
    subst (λ n. AreConstants c.args.rows.now n c.args.constants.now)
    (sym c.loop-row.invariant.size) c.requires.constants

pub loop-row-preserved : goal.loop-row-preserved
loop-row-preserved c =
    let v = c.loop-row.invariant in
    let e = c.in_ok-look_at.ensures in
    record {
      size = e.raises.size ∙ v.size;
      state = e.state;
      seen =
          more_seen c.args.rows.now c.loop-row.powers.items c.loop-row.queue.items c.look_at.new.powers.items
          c.look_at.new.queue.items c.loop-row.row-index c.row-item.result e.raises c.loop-row-test.true c.row-item.is
          v.seen
          e.seen;
    }

pub returns-clause-seen : goal.returns-clause-seen
returns-clause-seen c = λ k d l. c.loop-row.invariant.seen k d (let t = c.loop-row-test.false in omega arith)
