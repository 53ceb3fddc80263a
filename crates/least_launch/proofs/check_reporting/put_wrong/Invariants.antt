use Rattle.std.proofs.Common.{◌≡◌, ◌++◌, take, map, decimal}
use Rattle.launch_graph.specs.LineParts.{words_behind}
use Rattle.least_launch.proofs.check_reporting.put_wrong.Given as goal

-- the numbers so far stand behind the words
abbrev pub invariant-loop-number : goal.invariant-loop-number
invariant-loop-number l =
    l.text.items ≡ l.initial.text.items ++ words_behind (map decimal (take l.number-index l.numbers))
