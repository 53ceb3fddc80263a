use Rattle.std.proofs.Common.{length, arith}
use Rattle.forms.specs.Forms.{forms_list, forms_of}
use Rattle.goal_reader.proofs.WrittenSizes.{all_within, from_listed, input_few}
use Rattle.goal_reader.proofs.laws.read_inputs_have_few_operators.Goals as goal

pub returns : goal.returns
returns c = λ text i r.
    let fs = forms_of text r.trees in
    let within = all_within 0 (length text) fs (c.one_reading.ensures.stand text r.trees r.has) in
    let written = input_few (forms_list fs) i r.written in
    let listed = from_listed fs in
    omega (arith, written, listed, within)
