use Rattle.std.proofs.Common.{◌≡◌, ◌∷◌, ◌++◌, map, take}
use Rattle.std.specs.List.{flat_map}
use Rattle.forms.specs.Printing.{plain_text}
use Rattle.proc_goal.specs.ProcForms.{block_plain}
use Rattle.proc_goal.specs.Views.{block_view, names_of_blocks}
use Rattle.proc_goal.specs.declared.procs.Block.{Block}
use Rattle.proc_goal.proofs.printing.put_blocks.Given as goal

abbrev pub invariant-loop-block : goal.invariant-loop-block
invariant-loop-block l =
    l.text.items ≡ l.initial.text.items ++ flat_map (λ (x : Block). 32 ∷ plain_text (block_plain l.vars (names_of_blocks (map block_view l.blocks)) (block_view x))) (take l.block-index l.some)
