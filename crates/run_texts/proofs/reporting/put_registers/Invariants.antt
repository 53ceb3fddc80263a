use Rattle.std.proofs.Common.{◌≡◌, ◌++◌, take}
use Rattle.text_core.specs.LineTexts.{lines_text}
use Rattle.run_texts.specs.Reports.{register_lines}
use Rattle.run_texts.proofs.reporting.put_registers.Given as goal

abbrev pub invariant-loop-register : goal.invariant-loop-register
invariant-loop-register l =
    l.text.items ≡ l.initial.text.items ++ lines_text (register_lines 0 (take l.register l.state.registers))
