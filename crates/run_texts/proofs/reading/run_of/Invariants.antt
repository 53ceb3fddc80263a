use Rattle.text_core.specs.LineTexts.{words_of_lines}
use Rattle.run_texts.specs.SoFar.{IsRunTextTo, AreSeen}
use Rattle.run_texts.proofs.reading.run_of.Given as goal

-- The lines so far are read.
abbrev pub invariant-loop-line : goal.invariant-loop-line
invariant-loop-line l = record {
  so_far : IsRunTextTo (words_of_lines l.text) l.line l.run;
  seen : AreSeen l.run.places l.seen;
}
