use Rattle.std.proofs.Common.{◌∙◌, map, ap}
use Rattle.word_terms.specs.View.{tree_of}
use Rattle.goal_meaning.specs.Expanded.{let_values}
use Rattle.goal_meaning.specs.Views.{let_view}
use Rattle.saturation.specs.OverLets.{has_select_over}
use Rattle.saturation.proofs.LetSteps.{next_reads}
use Rattle.saturation.proofs.StartSteps.{let_in_map, let_at_map}
use Rattle.saturation.proofs.lets.lets_read_memory.Goals as goal

pub loop-one-preserved : goal.loop-one-preserved
loop-one-preserved c =
    let lets = c.args.lets.now in
    let x = c.one-item.result in
    let k = c.loop-one.one-index in
    c.in_ok-push.ensures.items
    ∙ next_reads (let_values (map let_view lets)) k (tree_of x.value) c.loop-one.reads.items c.reads_memory-reads_it.result (let_in_map lets k x c.loop-one-test.true c.one-item.is) (let_at_map lets k x c.loop-one-test.true c.one-item.is) c.loop-one.invariant
    (c.reads_memory-reads_it.ensures ∙ ap (λ rs. has_select_over rs (tree_of x.value)) c.deref.ensures.value)
