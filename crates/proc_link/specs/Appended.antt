-- What stands behind an answer, as it is appended. No public clause rests on this. Source: this project.
use Rattle.std.specs.Prelude.{◌≡◌, ℕ, List, ◌++◌}
use Rattle.denali_run.specs.declared.results.Answered.{Answered}
use Rattle.proc_goal.specs.Views.{ProcTree}
use Rattle.text_core.specs.LineTexts.{Words, lines_text}
use Rattle.proc_link.specs.ProcAnswers.{AreBehind}

-- the lines behind the answer of these results
pub record AppendsBehind (p : ProcTree) (results : List Answered) (old new : List ℕ) : Type 0 where
  pub behind : List Words
  pub are_behind : AreBehind p results behind
  pub text : new ≡ old ++ lines_text behind
