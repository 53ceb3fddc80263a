-- The lines of an answer around its refutations. Source: this project.
use Rattle.std.specs.Prelude.{◌≡◌, ℕ, List, ◌++◌, Option, None, Some}
use Rattle.std.specs.List.{All, flat_map}
use Rattle.answer_texts.specs.AnswerLines.{refute_part}
use Rattle.cnf_core.specs.declared.line.Lines.{Lines}
use Rattle.text_core.specs.LineTexts.{Words, lines_text}
use Rattle.refute_trim.specs.Trimmed.{AreTrimmed}

-- the lines of a goal: those before its refutation, the number of cycles that this is for, its lines before and after,
-- and the lines behind it
pub record GoalParts : Type 0 where
  pub front : List Words
  pub cycles : ℕ
  pub old : Option Lines
  pub new : Option Lines
  pub back : List Words

abbrev pub old_lines : GoalParts → List Words
old_lines parts = parts.front ++ (refute_part parts.cycles parts.old ++ parts.back)

abbrev pub new_lines : GoalParts → List Words
new_lines parts = parts.front ++ (refute_part parts.cycles parts.new ++ parts.back)

-- there is no refutation, or the needed lines are left of it
pub data IsTrimmedTo : Option Lines → Option Lines → Type 0 where
  no_refutation : IsTrimmedTo None None
  needed_lines : {n : ℕ} {lines new : Lines} → AreTrimmed n lines.lines new.lines → IsTrimmedTo (Some lines) (Some new)

-- the texts have the same lines, but for refutations, of which the needed lines are left
pub record DifferInRefutations (text bytes : List ℕ) : Type 0 where
  pub head : List Words
  pub goals : List GoalParts
  pub old : text ≡ lines_text (head ++ flat_map old_lines goals)
  pub new : bytes ≡ lines_text (head ++ flat_map new_lines goals)
  pub trimmed : All (λ parts. IsTrimmedTo parts.old parts.new) goals
