use Rattle.std.proofs.Common.{◌≡◌, ◌++◌, map, take}
use Rattle.alpha_encode.specs.Formats.{encoded}
use Rattle.proc_goal.specs.Views.{block_view}
use Rattle.proc_link.specs.Linked.{all_instrs, linked_from, place_of_target}
use Rattle.proc_link.proofs.linking.put_blocks.Given as goal

-- the words of the blocks so far stand behind the old ones
abbrev pub invariant-loop-at : goal.invariant-loop-at
invariant-loop-at l =
    l.words.items
    ≡ l.fn.words.items ++ map encoded (linked_from (place_of_target (all_instrs l.listings)) 0 (map block_view (take l.at l.blocks)) (all_instrs (take l.at l.listings)))
