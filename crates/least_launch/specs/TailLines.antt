-- The lines behind an answer: `tail`, and then for each scheduled goal what is said of its number of launches.
-- Source: this project.
use Rattle.std.specs.Prelude.{ℕ, List, [], ◌∷◌, length, map, codes, decimal, Option, Some, None}
use Rattle.std.specs.List.{flat_map}
use Rattle.refutation_check.specs.LineWords.{line_words}
use Rattle.text_core.specs.LineTexts.{Words}
use Rattle.least_launch.specs.declared.tails.Tail.{Tail}
use Rattle.least_launch.specs.declared.tails.Tail.TheVariants.{Least, Spent, Size}

abbrev pub tail_words : Words
tail_words = codes "tail" ∷ []

-- no schedule has fewer launches, by so many lines
abbrev pub least_words : ℕ → ℕ → Words
least_words launches count = codes "least" ∷ decimal launches ∷ decimal count ∷ []

-- one with fewer launches was looked for up to so many lemmas
abbrev pub spent_words : ℕ → ℕ → Words
spent_words launches count = codes "most" ∷ decimal launches ∷ codes "spent" ∷ decimal count ∷ []

-- the clauses for one launch fewer are too large
abbrev pub large_words : ℕ → ℕ → ℕ → Words
large_words launches vars clauses =
    codes "most" ∷ decimal launches ∷ codes "size" ∷ decimal vars ∷ decimal clauses ∷ []

abbrev pub one_tail_lines : Tail → List Words
one_tail_lines (Least launches lines) = least_words launches (length lines.lines) ∷ map line_words lines.lines
one_tail_lines (Spent launches lines) = spent_words launches (length lines.lines) ∷ map line_words lines.lines
one_tail_lines (Size launches vars clauses) = large_words launches vars clauses ∷ []

-- those of a goal, where it has some
abbrev pub goal_tail_lines : Option Tail → List Words
goal_tail_lines None = []
goal_tail_lines (Some tail) = one_tail_lines tail

-- those of all goals, in their order
abbrev pub tail_lines : List (Option Tail) → List Words
tail_lines tails = tail_words ∷ flat_map goal_tail_lines tails
