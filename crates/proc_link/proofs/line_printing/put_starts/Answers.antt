use Rattle.std.proofs.Common.{◌≡◌, ◌∙◌, ◌++◌, get_or, ap, arith}
use Rattle.std.proofs.lemmas.Grind.{common_steps}
use Rattle.proc_goal.specs.declared.procs.Block.{Block}
use Rattle.text_core.specs.LineTexts.{line_text}
use Rattle.proc_link.specs.LinkedLines.{block_words}
use Rattle.proc_link.proofs.PrintedLinks.{starts_more}
use Rattle.proc_link.proofs.line_printing.put_starts.Goals as goal

pub loop-at-preserved : goal.loop-at-preserved
loop-at-preserved c =
    let start = get_or c.args.starts.now c.loop-at.at 0 in
    let printed : c.put-in-loop-at.new.text.items ≡ c.loop-at.text.items ++ line_text (block_words c.index-blocks-at.result.name start) =
    grind (arith, common_steps) in
    starts_more c.args.blocks.now c.args.starts.now c.requires c.loop-at.at c.index-blocks-at.result 0 c.args.text.now.items c.loop-at.text.items
    c.put-in-loop-at.new.text.items c.loop-at-test.true c.loop-at.invariant
    (printed ∙ ap (λ (b : Block). c.loop-at.text.items ++ line_text (block_words b.name start)) c.index-blocks-at.is)
