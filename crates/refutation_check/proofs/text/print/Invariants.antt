use Rattle.std.proofs.Common.{◌≡◌, take}
use Rattle.std.specs.List.{flat_map}
use Rattle.text_core.specs.LineTexts.{line_text}
use Rattle.refutation_check.specs.LineWords.{line_words}
use Rattle.refutation_check.proofs.text.print.Given as goal

abbrev pub invariant-loop-line : goal.invariant-loop-line
invariant-loop-line l = l.text.items ≡ flat_map (λ line. line_text (line_words line)) (take l.line-index l.lines.lines)
