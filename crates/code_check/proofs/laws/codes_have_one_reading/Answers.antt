use Rattle.code_check.proofs.ReadTexts.{one_fault, reads_apart, reads_once}
use Rattle.code_check.proofs.laws.codes_have_one_reading.Goals as goal

pub returns-clause-once : goal.returns-clause-once
returns-clause-once c = λ text checked other small reads another.
    reads_once text (c.one_reading.ensures.trees text) (c.one_reading.ensures.apart text)
    c.texts_have_one_reading.ensures.once c.texts_have_one_reading.ensures.apart
    c.read_inputs_are_well_formed.ensures small checked other reads another

pub returns-clause-apart : goal.returns-clause-apart
returns-clause-apart c = λ text checked place kind small reads fault.
    reads_apart text (c.one_reading.ensures.trees text) (c.one_reading.ensures.apart text)
    c.texts_have_one_reading.ensures.once c.texts_have_one_reading.ensures.apart
    c.read_inputs_are_well_formed.ensures small checked place kind reads fault

pub returns-clause-first : goal.returns-clause-first
returns-clause-first c = λ text place other kind another one two.
    one_fault text (c.one_reading.ensures.trees text) (c.one_reading.ensures.apart text)
    c.texts_have_one_reading.ensures.once c.texts_have_one_reading.ensures.apart
    (c.one_reading.ensures.first text) c.texts_have_one_first_fault.ensures place other kind another one two
