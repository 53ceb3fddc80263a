use Rattle.std.proofs.Common.{inr}
use Rattle.launch_graph.specs.GraphTexts.{BeginsWithGraph, IsGraphText}
use Rattle.launch_graph.proofs.LineWords.{are_graph_lines}
use Rattle.launch_graph.proofs.OneFault.{once}
use Rattle.launch_graph.proofs.OneGraph.{graph_once}
use Rattle.launch_graph.proofs.SameGraphLines.{lines_once}
use Rattle.launch_graph.proofs.WholeGraphs.{no_fault_whole}
use Rattle.launch_graph.proofs.laws.one_graph.Goals as goal

pub returns : goal.returns
returns c =
    let names = c.operators_are_listed.ensures.names in
    let lists = c.classes_are_multiples.ensures.one_list in
    record {
      graph = λ lines from next other g h p q. graph_once names lists lines from next other g h p q;
      apart = λ lines from next place g kind p f. no_fault_whole lines from next g p names f.at kind f.found;
      first = λ lines from place other kind another. once (BeginsWithGraph 1) (IsGraphText 1) lines from place other kind another;
      printed = λ lines from next g is unpinned few order within same ends.
          record {
            order = order;
            within = within;
            well_formed = is;
            are = are_graph_lines g is 1 (inr unpinned) few;
            is = same;
            ends = ends;
          };
      alike = λ g h behind other is also ends stops same. lines_once names lists g h is also behind other ends stops same;
    }
