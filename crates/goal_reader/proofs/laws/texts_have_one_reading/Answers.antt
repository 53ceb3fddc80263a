use Rattle.goal_reader.proofs.TextRead.{reads_once, reads_apart}
use Rattle.goal_reader.proofs.laws.texts_have_one_reading.Goals as goal

pub returns : goal.returns
returns c =
    record {
      once = λ text.
          reads_once c.one_table.ensures.once c.one_table.ensures.clear text (c.one_reading.ensures.trees text) (c.one_reading.ensures.apart text);
      apart = λ text.
          reads_apart c.one_table.ensures.once c.one_table.ensures.clear text (c.one_reading.ensures.trees text) (c.one_reading.ensures.apart text);
    }
