use Rattle.std.proofs.Common.{inl, inr}
use Rattle.launch_graph.specs.GraphTexts.{BeginsWithGraph, IsGraphText}
use Rattle.launch_graph.proofs.LineWords.{are_graph_lines, few_rows, unpinned_lines}
use Rattle.launch_graph.proofs.OneFault.{once}
use Rattle.launch_graph.proofs.OneGraph.{graph_once}
use Rattle.launch_graph.proofs.WholeGraphs.{no_fault_whole}
use Rattle.launch_graph.proofs.laws.one_graph_of_each_version.Goals as goal

pub returns : goal.returns
returns c =
    let names = c.operators_are_listed.ensures.names in
    let lists = c.classes_are_multiples.ensures.one_list in
    record {
      graph = λ version lines from next other g h p q. graph_once names lists lines from next other g h p q;
      apart = λ version lines from next place g kind p f. no_fault_whole lines from next g p names f.at kind f.found;
      first = λ version lines from place other kind another. once (BeginsWithGraph version) (IsGraphText version) lines from place other kind another;
      printed = λ version lines from next g two is few order within same ends.
          record {
            order = order;
            within = within;
            well_formed = is;
            are = are_graph_lines g is version (inl two) few;
            is = same;
            ends = ends;
          };
      unpinned = λ version lines from next g h. (
        record {
          order = h.order;
          within = h.within;
          well_formed = h.well_formed;
          are = are_graph_lines g h.well_formed version (inr (unpinned_lines g.sets h.are.sets)) (few_rows g h.are.few);
          is = h.is;
          ends = h.ends;
        },
        unpinned_lines g.sets h.are.sets,
      );
    }
