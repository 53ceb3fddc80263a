use Rattle.std.proofs.Common.{◌++◌, ap, sym, ◌∙◌}
use Rattle.proc_goal.proofs.PrintedProcs.{block_named}
use Rattle.proc_goal.proofs.printing.put_block_name.Goals as goal

pub returns-in_ok-extend_from_slice : goal.returns-in_ok-extend_from_slice
returns-in_ok-extend_from_slice c =
    c.in_ok-extend_from_slice.ensures.items
    ∙ ap (λ l. c.args.text.now.items ++ l) (c.bytes.ensures ∙ sym (block_named c.args.blocks.now c.args.at c.in-Some.block.now c.in-Some.ensures.lookup.3.0 c.in-Some.ensures.lookup.1))
