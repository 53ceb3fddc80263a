use Rattle.std.proofs.Common.{◌≡◌, ◌∙◌, ap, sym}
use Rattle.schedule_meaning.specs.Launches.{class_at}
use Rattle.graph_meaning.specs.declared.graphs.LaunchGraph.{LaunchGraph}
use Rattle.graph_meaning.specs.WellFormed.{next_class}
use Rattle.std.specs.Prelude.{◌&&◌}
use Rattle.cycle_encoding.specs.Steps.{put_at}
use Rattle.cycle_encoding.proofs.Choices.{chosen, not_chosen}
use Rattle.slot_capacity.specs.Makers.{can_come, makes_own}
use Rattle.slot_capacity.proofs.MakerLists.{maker-put}
use Rattle.slot_capacity.proofs.makers.all_makers.Goals.{then-makes+in_ok-put_into, else-makes}
use Rattle.slot_capacity.proofs.makers.all_makers.Goals as goal

pub loop-row-preserved : goal.loop-row-preserved
loop-row-preserved c =
    let g = c.args.reads.now.facts.now in
    let spans = c.args.spans.now in
    let row = c.loop-row.row in
    let b = makes_own g row && can_come spans row in
    let mid = c.loop-row.lists.items in
    let now = c.if-makes.lists.items in
    let more = put_at mid (class_at g row) row in
    maker-put g spans (next_class g.rows) row mid now c.loop-row.invariant
    (elim c.if-makes.branch [
      | then-makes+in_ok-put_into w ↦ (
          let class : w.class_at.result ≡ class_at g row =
          w.class_at.ensures ∙ ap (λ (g : LaunchGraph). class_at g row) w.graph-then-makes.ensures in
          chosen b more mid now (sym c.makes.ensures ∙ w.if-makes.true)
          (ap (λ o. o.items) w.lists-is ∙ w.in_ok-put_into.ensures ∙ ap (λ n. put_at mid n row) class))
      | else-makes w ↦
          not_chosen b more mid now (sym c.makes.ensures ∙ w.if-makes.false) (ap (λ o. o.items) w.lists-is)
    ])
