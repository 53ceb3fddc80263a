use Rattle.std.proofs.Common.{◌≤◌}
use Rattle.text_core.specs.Lines.{line_at}
use Rattle.answer_texts.proofs.FamilyLoops.{AreNamedBy}
use Rattle.answer_texts.proofs.library_lines.families_named.Given as goal

abbrev pub invariant-loop-word : goal.invariant-loop-word
invariant-loop-word l = (1 ≤ l.word) × AreNamedBy (line_at l.text l.line).words l.word l.families
