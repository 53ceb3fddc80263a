-- By the rows.
use Rattle.denali_cli.proofs.Exact.{Laws, fault, reported, either, line_where_past, line_of_fault, answers}
use Rattle.denali_cli.proofs.laws.replies_are_exact.Goals as goal

pub returns : goal.returns
returns c =
    let laws : Laws = record {
      goals_apart = c.texts_have_one_reading.ensures.apart;
      goals_once = c.texts_have_one_first_fault.ensures;
      answers_apart = c.one_answer.ensures.apart;
      answers_once = c.one_answer.ensures.first;
      codes_apart = c.codes_have_one_reading.ensures.apart;
      codes_once = c.codes_have_one_reading.ensures.first;
      tails_apart = c.one_tailed_answer.ensures.apart;
      tails_once = c.one_tailed_answer.ensures.first;
      procs_apart = c.procs_have_one_reading.ensures.apart;
      procs_once = c.procs_have_one_reading.ensures.first;
      programs_apart = c.one_program.ensures.apart;
      programs_once = c.one_program.ensures.first;
      lifts_apart = c.lifts_have_one_reading.ensures.apart;
      lifts_once = c.lifts_have_one_reading.ensures.first;
    } in
    record {
      fault = fault laws;
      reported = reported laws;
      either = either laws;
      too_long = line_where_past laws;
      faulty = line_of_fault laws;
      answered = answers laws;
    }
