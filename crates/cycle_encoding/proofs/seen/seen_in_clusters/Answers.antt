use Rattle.std.proofs.Common.{sym, ◌∙◌, arith}
use Rattle.cycle_encoding.proofs.Before.{clusters_more, cluster_size, no_cluster_size}
use Rattle.cycle_encoding.proofs.seen.seen_in_clusters.Goals.{then-has_cluster, else-has_cluster}
use Rattle.cycle_encoding.proofs.seen.seen_in_clusters.Goals as goal

pub loop-other-preserved : goal.loop-other-preserved
loop-other-preserved c =
    let table = c.args.table.now in
    let k = c.args.k in
    let class = c.args._class in
    let other = c.loop-other.other in
    let is = c.loop-other.invariant.is in
    let small = c.loop-other.invariant.small in
    let more = clusters_more table k class other in
    elim c.if-has_cluster.branch [
      | then-has_cluster w ↦
          (let size = cluster_size table k class other (sym c.has_cluster.ensures ∙ w.if-has_cluster.true) in
          let now = w.before-is in
          record { is = omega arith; small = omega arith })
      | else-has_cluster w ↦
          (let size = no_cluster_size table k class other (sym c.has_cluster.ensures ∙ w.if-has_cluster.false) in
          let now = w.before-is in
          record { is = omega arith; small = omega arith })
    ]
