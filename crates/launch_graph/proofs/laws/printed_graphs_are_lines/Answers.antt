use Rattle.std.proofs.Common.{inl, inr}
use Rattle.launch_graph.specs.GraphLines.{graph_lines, said}
use Rattle.launch_graph.proofs.LineWords.{are_graph_lines, lines_have_words}
use Rattle.launch_graph.proofs.laws.printed_graphs_are_lines.Goals as goal

pub returns : goal.returns
returns c =
    let printed = c.printed_lines_are_lines.ensures in
    record {
      form = λ g is unpinned few. are_graph_lines g is 1 (inr unpinned) few;
      pinned = λ version g two is few. are_graph_lines g is version (inl two) few;
      words = λ g h. lines_have_words g h printed.number printed.name;
      lines = λ g place h. printed.lines place (graph_lines (said g)) (lines_have_words g h printed.number printed.name);
    }
