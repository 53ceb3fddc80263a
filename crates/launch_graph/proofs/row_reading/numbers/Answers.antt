use Rattle.std.proofs.Common.{◌^◌, ℕ, ◌<◌, [], length, subst}
use Rattle.text_core.specs.Lines.{line_at}
use Rattle.launch_graph.proofs.Numbers.{no_numbers}
use Rattle.launch_graph.proofs.row_reading.numbers.Goals as goal

pub returns-in-None : goal.returns-in-None
returns-in-None c =
    let row = (line_at c.args.text.now c.args.line).words in
    let at = c.loop-at.at in
    let few : at < length row = subst (λ (n : ℕ). at < n) c.words-at-end.ensures.count c.loop-at-test.true in
    no_numbers (2 ^ 31) row c.args.from c.loop-at.numbers at c.word.result.now [] few c.word.ensures.value c.in-None.ensures.none c.loop-at.invariant
