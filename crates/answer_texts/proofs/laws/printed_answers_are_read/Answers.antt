use Rattle.std.proofs.Common.{length}
use Rattle.answer_texts.proofs.LibraryLines.{family_laws}
use Rattle.answer_texts.proofs.PrintedBack.{answer_back}
use Rattle.answer_texts.proofs.PrintedLaws.{reads_printed}
use Rattle.answer_texts.proofs.PrintedLines.{WordLaws}
use Rattle.answer_texts.proofs.laws.printed_answers_are_read.Goals as goal

pub returns : goal.returns
returns c =
    let laws : WordLaws = record {
      number = c.printed_lines_are_lines.ensures.number;
      name = c.printed_lines_are_lines.ensures.name;
      each = c.printed_lines_are_lines.ensures.each;
      listed = c.operators_are_listed.ensures.each;
      forth = c.words_and_instructions.ensures.forth;
      instr = c.instructions_have_names.ensures.named;
      graph = c.printed_graphs_are_lines.ensures.words;
      rows = c.printed_lines_are_read_back.ensures.lines;
    } in
    record {
      read = reads_printed c.printed_lines_are_lines.ensures.lines c.printed_lines_are_read_back.ensures.among
          (family_laws c.families_have_names.ensures.differ c.libraries_have_families.ensures.back)
          c.one_graph.ensures.printed c.one_graph_of_each_version.ensures.printed laws;
      printable = λ text answer h.
          answer_back h.lines c.tables_keep_limits.ensures.built_in (length h.lines) answer h.says;
    }
