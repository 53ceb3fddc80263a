use Rattle.std.proofs.Common.{length}
use Rattle.graph_meaning.proofs.Raises.{ok_both, stays_followed}
use Rattle.graph_meaning.proofs.powers.look_at.Goals as goal

pub returns-clause-seen : goal.returns-clause-seen
returns-clause-seen c =
    let first = c.in_ok-follow.ensures in
    ok_both c.raise_masked.result c.raise_masked.ensures.raises c.raise_masked.ensures.masked
    (λ r masked. (
      stays_followed c.args.rows.now c.follow.new.powers.items c.follow.new.queue.items c.raise_masked.new.powers.items
          c.raise_masked.new.queue.items r (length c.args.queue.now.items) c.args.row.now first.raises.longer
          first.followed,
      masked,
    ))
