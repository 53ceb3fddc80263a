use Rattle.std.proofs.Common.{ℕ, ◌+◌, ◌<◌, [], length, subst, sym}
use Rattle.text_core.specs.Lines.{line_at}
use Rattle.launch_graph.proofs.Numbers.{SoFar, so_far_more}
use Rattle.launch_graph.proofs.PoolLines.{no_pool_line}
use Rattle.launch_graph.proofs.line_reading.pool_line.Goals as goal

pub returns-in-None : goal.returns-in-None
returns-in-None c =
    let row = (line_at c.args.text.now c.args.line).words in
    let at = c.loop-at.at in
    let few : at < length row = subst (λ (n : ℕ). at < n) c.words-at-end.ensures.count c.loop-at-test.true in
    no_pool_line row c.loop-at.pool at c.word.result.now [] few c.word.ensures.value c.in-None.ensures.none c.loop-at.invariant

pub loop-at-preserved : goal.loop-at-preserved
loop-at-preserved c =
    let row = (line_at c.args.text.now c.args.line).words in
    let at = c.loop-at.at in
    let few : at < length row = subst (λ (n : ℕ). at < n) c.words-at-end.ensures.count c.loop-at-test.true in
    let is = c.in-Some.ensures.some in
    subst (λ ns. SoFar 31 row 1 ns (at + 1)) (sym c.in_ok-push-in-Some.ensures.ok)
    (so_far_more 31 row 1 c.loop-at.pool at c.word.result.now [] c.in-Some.register few c.word.ensures.value is.0 is.1 c.loop-at.invariant)
