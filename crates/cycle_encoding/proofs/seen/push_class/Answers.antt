use Rattle.std.proofs.Common.{◌≡◌, ◌+◌, ◌++◌, ◌∙◌, subst, sym, true, false, ℕ, ap, arith}
use Rattle.std.proofs.lemmas.List.{append-nil}
use Rattle.cycle_encoding.specs.Steps.{has_cluster, cluster_seen, clusters_seen}
use Rattle.cycle_encoding.specs.CycleFormula.{wants_in}
use Rattle.cycle_encoding.specs.Facts.{is_unsafe_shown}
use Rattle.cycle_encoding.proofs.Choices.{added}
use Rattle.cycle_encoding.proofs.Tables.{grown, same}
use Rattle.cycle_encoding.proofs.Listed.{kept_more}
use Rattle.cycle_encoding.proofs.seen.push_class.Goals.{then-has_cluster+in_ok-push_cluster, else-has_cluster}
use Rattle.cycle_encoding.proofs.seen.push_class.Goals as goal

pub loop-cluster-preserved : goal.loop-cluster-preserved
loop-cluster-preserved c =
    let table = c.args.frame.now.table.now in
    let k = c.args.frame.now.k in
    let class = c.args.class in
    let i = c.loop-cluster.cluster in
    let old = c.args.seen.now.items in
    let was = clusters_seen table k i class in
    let now = clusters_seen table k (i + 1) class in
    elim c.if-has_cluster.branch [
      | then-has_cluster+in_ok-push_cluster w ↦
          subst (λ o. o.items ≡ old ++ now) (sym w.seen-is)
          (grown old c.loop-cluster.seen.items w.push_cluster.new.seen.items (cluster_seen k class i) was now c.loop-cluster.invariant w.in_ok-push_cluster.ensures (kept_more (cluster_seen k class) (has_cluster table) i true (sym c.has_cluster.ensures ∙ w.if-has_cluster.true)))
      | else-has_cluster w ↦
          subst (λ o. o.items ≡ old ++ now) (sym w.seen-is)
          (same old c.loop-cluster.seen.items was now c.loop-cluster.invariant (kept_more (cluster_seen k class) (has_cluster table) i false (sym c.has_cluster.ensures ∙ w.if-has_cluster.false) ∙ append-nil was))
    ]

pub returns : goal.returns
returns c =
    let b = is_unsafe_shown c.args.frame.now.facts.now (wants_in c.args.frame.now.scope.now) c.args.class in
    let old = c.args.seen.now.items in
    let all = clusters_seen c.args.frame.now.table.now c.args.frame.now.k 4 c.args.class in
    let end : c.loop-cluster.cluster ≡ 4 = (let a = c.loop-cluster-test.false in let e = c.loop-cluster.auto.cluster-end in omega arith) in
    added b old all c.loop-cluster.seen.items (sym c.is_shown.ensures ∙ c.if-not-is_shown.false) (c.loop-cluster.invariant ∙ ap (λ (n : ℕ). old ++ clusters_seen c.args.frame.now.table.now c.args.frame.now.k n c.args.class) end)
