use Rattle.denali_run.proofs.ReadAnswers.{results_once}
use Rattle.denali_run.proofs.ReadBackLaws.{Laws}
use Rattle.denali_run.proofs.laws.one_text_has_one_answer.Goals as goal

pub returns : goal.returns
returns c = λ s input results others is set right also same.
    let laws : Laws = record {
      number = c.printed_lines_are_lines.ensures.number;
      name = c.printed_lines_are_lines.ensures.name;
      printed_lines = c.printed_lines_are_lines.ensures.lines;
      one_text = c.one_splitting.ensures.lines;
      each = c.printed_lines_are_lines.ensures.each;
      word_line = c.word_lines_can_be_lines.ensures;
      forth = c.words_and_instructions.ensures.forth;
      graph_words = c.printed_graphs_are_lines.ensures.words;
      graphs = c.one_graph.ensures.alike;
      slots = c.tables_keep_limits.ensures.slot;
      launches = c.launches_have_own_lines.ensures;
      accepted = c.printed_lines_are_read_back.ensures.accepted;
      one_line = c.printed_lines_are_read_back.ensures.one;
      refutation_lines = c.printed_lines_are_read_back.ensures.lines;
    } in
    results_once laws s input results others is set right also same
