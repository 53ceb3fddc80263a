use Rattle.run_texts.proofs.Programs.{one_reading, read_can_run, no_fault, one_fault}
use Rattle.run_texts.proofs.laws.one_program.Goals as goal

pub returns : goal.returns
returns c =
    let s = c.one_splitting.ensures in
    record {
      program = one_reading s.lines s.apart s.first;
      runnable = read_can_run;
      apart = no_fault s.lines s.apart s.first;
      first = one_fault s.lines s.apart s.first;
    }
