-- How large a formula that is searched may be. Source: this project.

use Rattle.std.specs.Prelude.{ℕ}

abbrev pub most_vars : ℕ
most_vars = 262144

abbrev pub most_clauses : ℕ
most_clauses = 2000000
