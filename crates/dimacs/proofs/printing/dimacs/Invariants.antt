use Rattle.std.proofs.Common.{◌≡◌, ◌++◌, take, map}
use Rattle.text_core.specs.LineTexts.{line_text, lines_text}
use Rattle.dimacs.specs.Dimacs.{clause_words, problem_words}
use Rattle.dimacs.proofs.printing.dimacs.Given as goal

abbrev pub invariant-loop-index : goal.invariant-loop-index
invariant-loop-index l =
    l.text.items ≡ line_text (problem_words l.cnf) ++ lines_text (map clause_words (take l.index l.cnf.clauses))
