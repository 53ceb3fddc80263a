-- How many of everything a text may have. Source: this project.

use Rattle.std.specs.Prelude.{ℕ}

-- lists that stand inside one another
abbrev pub most_nesting : ℕ
most_nesting = 64

-- goals, operators that are declared, and axioms of a text of goals; an answer has as many goals
abbrev pub most_goals : ℕ
most_goals = 64

abbrev pub most_declared : ℕ
most_declared = 16

abbrev pub most_axioms : ℕ
most_axioms = 64

-- variables of an axiom
abbrev pub most_variables : ℕ
most_variables = 8

-- inputs, assumptions and sets of a goal; a proc has as many variables, and a block of it as many sets
abbrev pub most_inputs : ℕ
most_inputs = 16

abbrev pub most_assumes : ℕ
most_assumes = 16

abbrev pub most_sets : ℕ
most_sets = 16

-- blocks of a proc
abbrev pub most_blocks : ℕ
most_blocks = 64

-- codes of a text of goals and codes, and words of a code
abbrev pub most_codes : ℕ
most_codes = 64

abbrev pub most_code_words : ℕ
most_code_words = 4096

-- words and places of memory of a program that is run
abbrev pub most_words : ℕ
most_words = 4096

abbrev pub most_places : ℕ
most_places = 4096
