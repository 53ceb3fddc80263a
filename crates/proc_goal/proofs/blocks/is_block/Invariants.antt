use Rattle.std.proofs.Common.{◌≡◌, drop, map}
use Rattle.text_core.specs.Names.{is_among}
use Rattle.proc_goal.specs.Views.{block_view, names_of_blocks}
use Rattle.proc_goal.proofs.blocks.is_block.Given as goal

abbrev pub invariant-loop-block : goal.invariant-loop-block
invariant-loop-block l = is_among (names_of_blocks (map block_view l.blocks)) l.name ≡ is_among (names_of_blocks (map block_view (drop l.block-index l.blocks))) l.name
