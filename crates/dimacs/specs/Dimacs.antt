-- A formula as a text. Source: DIMACS, Satisfiability: Suggested Format (1993), without comments, one clause a line.
use Rattle.std.specs.Prelude.{List, ℕ, [], ◌∷◌, ◌++◌, map, length, codes, decimal}
use Rattle.cnf_core.specs.Formula.{Formula}
use Rattle.cnf_core.specs.declared.literal.Lit.{Lit}
use Rattle.refutation_check.specs.LineWords.{literal_word}
use Rattle.text_core.specs.LineTexts.{Words, lines_text}

-- the first line: how many variables and clauses there are
abbrev pub problem_words : Formula → Words
problem_words f = codes "p" ∷ codes "cnf" ∷ decimal f.vars ∷ decimal (length f.clauses) ∷ []

-- the literals of a clause, and 0
abbrev pub clause_words : List Lit → Words
clause_words c = map literal_word c ++ codes "0" ∷ []

abbrev pub dimacs_text : Formula → List ℕ
dimacs_text f = lines_text (problem_words f ∷ map clause_words f.clauses)
