use Rattle.std.proofs.Common.{◌≤◌, ◌<◌, ◌+◌, ◌∙◌, ◌&&◌, Bool, ap, sym, take, arith}
use Rattle.std.specs.Prelude.{length}
use Rattle.std.specs.List.{count_by}
use Rattle.std.proofs.lemmas.List.{take_all}
use Rattle.graph_meaning.specs.declared.graphs.SetClass.{SetClass}
use Rattle.cycle_encoding.specs.Families.{is_made_target}
use Rattle.order_encoding.specs.OrderCounts.{is_pooled_in}
use Rattle.order_encoding.proofs.LiveTallies.{more_of}
use Rattle.order_encoding.proofs.live_counts.target_count.Goals as goal

pub loop-place-preserved : goal.loop-place-preserved
loop-place-preserved c =
    let g = c.args.pooled.now.frame.facts.now in
    let i = c.loop-place.place in
    let t : SetClass → Bool = λ s. is_made_target g s && is_pooled_in g c.args.pooled.now.frame.table.now c.args.pooled.now.frame.k c.args.pooled.now.frame.scope.now s.class in
    let size = c.set_count-place-end.ensures in
    let inside : i < length g.sets = (let lt = c.loop-place-test.true in omega arith) in
    record {
      is = ap (λ m. m + c.target_at-count.result) c.loop-place.invariant.is ∙ ap (λ m. count_by t (take i g.sets) + m) c.target_at-count.ensures.value ∙ sym (more_of t g.sets i inside);
      small = (let few = c.target_at-count.ensures.few in let was = c.loop-place.invariant.small in omega arith);
    }

pub returns-clause-value : goal.returns-clause-value
returns-clause-value c =
    let g = c.args.pooled.now.frame.facts.now in
    let t : SetClass → Bool = λ s. is_made_target g s && is_pooled_in g c.args.pooled.now.frame.table.now c.args.pooled.now.frame.k c.args.pooled.now.frame.scope.now s.class in
    let size = c.set_count-place-end.ensures in
    let past : length g.sets ≤ c.loop-place.place = (let end = c.loop-place-test.false in omega arith) in
    c.loop-place.invariant.is ∙ ap (λ ss. count_by t ss) (take_all c.loop-place.place g.sets past)
