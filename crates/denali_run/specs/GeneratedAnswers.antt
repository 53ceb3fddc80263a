-- Which line and which status answer the number of a generated goal. Source: this project.
use Rattle.std.specs.Prelude.{ℕ, ◌≡◌, List, [], ◌∷◌, length, codes, decimal}
use Rattle.schedule_meaning.specs.Limits.{most_cycles}
use Rattle.text_core.specs.LineTexts.{line_text}
use Rattle.axiom_library.specs.Libraries.{no_library}
use Rattle.generated_goals.specs.Generated.{generated_goal, generated_input}
use Rattle.denali_run.specs.Right.{Right}
use Rattle.denali_run.specs.declared.results.Answered.{Answered}
use Rattle.denali_run.specs.declared.results.Answered.TheVariants.{Scheduled, Nowhere, SpentConflicts, SpentSize, NoWorld}
use Rattle.schedule_meaning.specs.declared.schedules.Allocation.TheVariants.{Block}
use Rattle.pick_rule.specs.declared.pick.Pick.TheVariants.{First}
use Rattle.denali_run.specs.declared.settings.Settings.{Settings}
use Rattle.reports.specs.declared.statuses.Status.{Status}
use Rattle.reports.specs.declared.statuses.Status.TheVariants as status

-- what the work on each generated goal may take: no round of matching, so the graph has the goal's own terms alone
abbrev pub generated_settings : Settings
generated_settings = record {
  rounds = 0;
  nodes = 4096;
  cycles = most_cycles;
  conflicts = 20000;
  pick = First;
  library = no_library;
  allocation = Block;
}

-- the size, how many rows the graph has, and the fewest cycles
abbrev pub scheduled_line : ℕ → ℕ → ℕ → List ℕ
scheduled_line size rows cycles =
    line_text (codes "gen" ∷ decimal size ∷ codes "rows" ∷ decimal rows ∷ codes "cycles" ∷ decimal cycles ∷ [])

-- the size, and for how many cycles a budget was spent
abbrev pub spent_line : ℕ → ℕ → List ℕ
spent_line size cycles = line_text (codes "gen" ∷ decimal size ∷ codes "spent" ∷ decimal cycles ∷ [])

-- the line and the status of a result; a generated goal has no result of another kind
abbrev pub IsGeneratedLine : ℕ → Answered → List ℕ → Status → Type 0
IsGeneratedLine size (Scheduled f) bytes ending =
    (bytes ≡ scheduled_line size (length f.matched.graph.rows) f.k) × (ending ≡ status.Done)
IsGeneratedLine size (SpentConflicts t) bytes ending = (bytes ≡ spent_line size t.k) × (ending ≡ status.Spent)
IsGeneratedLine size (SpentSize l) bytes ending = (bytes ≡ spent_line size l.k) × (ending ≡ status.Spent)
IsGeneratedLine size (Nowhere m) bytes ending = ⊥
IsGeneratedLine size (NoWorld class a b) bytes ending = ⊥

-- Some result is right for the goal that is made from the number, and the bytes and the status are those of its line.
pub record AnswersGenerated (size : ℕ) (bytes : List ℕ) (ending : Status) : Type 0 where
  pub answered : Answered
  pub right : Right (generated_input size) (generated_goal size) generated_settings answered
  pub line : IsGeneratedLine size answered bytes ending
