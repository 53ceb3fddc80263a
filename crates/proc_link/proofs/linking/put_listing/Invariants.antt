use Rattle.std.proofs.Common.{◌≡◌, ◌++◌, map, take}
use Rattle.alpha_encode.specs.Formats.{encoded}
use Rattle.proc_link.specs.Linked.{led_from}
use Rattle.register_assign.specs.Outcomes.{instrs_of}
use Rattle.proc_link.proofs.linking.put_listing.Given as goal

-- the words of the items so far stand behind the old ones
abbrev pub invariant-loop-at : goal.invariant-loop-at
invariant-loop-at l =
    l.words.items ≡ l.fn.words.items ++ map encoded (led_from l.from l.to (instrs_of (take l.at l.items)))
