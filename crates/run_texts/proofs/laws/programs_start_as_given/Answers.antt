use Rattle.run_texts.proofs.GivenWords.{register_given, register_not_given, place_given, place_not_given}
use Rattle.run_texts.proofs.laws.programs_start_as_given.Goals as goal

pub returns : goal.returns
returns c =
    let m = c.memories_hold_words.ensures in
    record {
      registers = λ text run h. register_given run.registers (λ k d lt. (h.is.registers.each k d lt).0) h.is.registers.once;
      other_registers = λ run. register_not_given run.registers;
      places = λ text run h. place_given m.put m.others run.places h.is.places.once;
      other_places = λ run. place_not_given m.put m.others run.places;
    }
