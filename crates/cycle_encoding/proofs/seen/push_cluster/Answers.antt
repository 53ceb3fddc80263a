use Rattle.std.proofs.Common.{◌+◌, ◌∷◌, []}
use Rattle.cycle_encoding.specs.Steps.{seen_at, cluster_seen}
use Rattle.cycle_encoding.proofs.Tables.{grown, table_more}
use Rattle.cycle_encoding.proofs.seen.push_cluster.Goals as goal

pub loop-cycle-preserved : goal.loop-cycle-preserved
loop-cycle-preserved c =
    let class = c.args.class in
    let cluster = c.args.cluster in
    let i = c.loop-cycle.cycle in
    grown c.args.seen.now.items c.loop-cycle.seen.items c.push.new.self.items (seen_at class cluster i ∷ []) (cluster_seen i class cluster) (cluster_seen (i + 1) class cluster) c.loop-cycle.invariant c.in_ok-push.ensures.items (table_more (seen_at class cluster) i)
