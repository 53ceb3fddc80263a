use Rattle.std.proofs.Common.{◌≡◌, ◌++◌, take, map}
use Rattle.launch_graph.specs.LineParts.{words_behind}
use Rattle.axiom_library.specs.Names.{family_name}
use Rattle.answer_texts.proofs.library_lines.put_names.Given as goal

abbrev pub invariant-loop-family : goal.invariant-loop-family
invariant-loop-family l =
    l.text.items ≡ l.initial.text.items ++ words_behind (map family_name (take l.family-index l.families))
