use Rattle.answer_texts.proofs.LibraryLines.{family_laws}
use Rattle.answer_texts.proofs.PartsWhole.{Laws, one_value, no_fault, one_fault}
use Rattle.answer_texts.proofs.laws.one_answer.Goals as goal

pub returns : goal.returns
returns c =
    let laws : Laws = record {
      one_text = c.one_splitting.ensures.lines;
      text_apart = c.one_splitting.ensures.apart;
      text_first = c.one_splitting.ensures.first;
      one_line = c.printed_lines_are_read_back.ensures.one;
      names = c.instructions_have_names.ensures.found;
      built_in = c.tables_keep_limits.ensures.built_in;
      families = family_laws c.families_have_names.ensures.differ c.libraries_have_families.ensures.back;
      graphs = λ version lines. record {
        once = λ from next other g h a b. c.one_graph_of_each_version.ensures.graph version lines from next other g h a b;
        apart = λ from next place g kind a f.
            c.one_graph_of_each_version.ensures.apart version lines from next place g kind a f;
        first = c.one_graph_of_each_version.ensures.first version lines;
      };
    } in
    record { answer = one_value laws; apart = no_fault laws; first = one_fault laws }
