use Rattle.least_launch.proofs.OneTailed.{Laws, no_fault, one_fault, one_reading}
use Rattle.least_launch.proofs.laws.one_tailed_answer.Goals as goal

pub returns : goal.returns
returns c =
    let laws : Laws = record {
      one_text = c.one_splitting.ensures.lines;
      text_apart = c.one_splitting.ensures.apart;
      text_first = c.one_splitting.ensures.first;
      one_line = c.printed_lines_are_read_back.ensures.one;
      one_answer = c.one_answer.ensures.answer;
      answer_apart = c.one_answer.ensures.apart;
      answer_first = c.one_answer.ensures.first;
    } in
    record {
      once = λ text answer other said others r q. one_reading laws text answer said r other others q;
      apart = λ text answer said place kind r f. no_fault laws text answer said r place kind f;
      first = one_fault laws;
    }
