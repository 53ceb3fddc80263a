use Rattle.std.proofs.Common.{◌≡◌, drop}
use Rattle.goal_meaning.specs.InputForms.{input_name}
use Rattle.goal_reader.proofs.printing.put_input_name.Given as goal

abbrev pub invariant-loop-input : goal.invariant-loop-input
invariant-loop-input l = (l.text.items ≡ l.initial.text.items) × (input_name l.inputs l.register ≡ input_name (drop l.input-index l.inputs) l.register)
