-- What the text of an answer claims of the results of goals. Source: this project.
use Rattle.std.specs.Prelude.{ℕ, ◌≤◌, All, List, [], ◌∷◌, Option, Some, None}
use Rattle.answer_texts.specs.AnswerLines.{answer_bytes}
use Rattle.answer_texts.specs.declared.answers.AnswerText.{AnswerText}
use Rattle.answer_texts.specs.declared.answers.Claim.{Claim}
use Rattle.answer_texts.specs.declared.answers.Claim.TheVariants as claims
use Rattle.answer_texts.specs.declared.answers.Claimed.{Claimed}
use Rattle.cnf_core.specs.declared.line.Lines.{Lines}
use Rattle.goal_meaning.specs.Views.{GoalTree, InputTree}
use Rattle.saturation.specs.AtStart.{most_rows_at_start}
use Rattle.graph_meaning.specs.declared.stops.Stop.TheVariants.{Quiet}
use Rattle.denali_run.specs.declared.results.Answered.{Answered}
use Rattle.denali_run.specs.declared.results.Answered.TheVariants.{Scheduled, Nowhere, SpentConflicts, SpentSize, NoWorld}
use Rattle.cycle_encoding.specs.declared.encodings.Encoding.{Encoding}
use Rattle.cycle_encoding.specs.declared.encodings.Encoding.TheVariants.{Wide, Narrow, Pinned, Live}
use Rattle.denali_run.specs.declared.results.Matched.{Matched}
use Rattle.denali_run.specs.declared.settings.Settings.{Settings}
use Rattle.denali_run.specs.Encodings.{encoding_in}

-- a claim with the graph that it is about, and the lines that refute fewer cycles
abbrev pub claimed_on : List ℕ → Matched → Claim → Option Lines → Claimed
claimed_on name m claim refute =
    record { name = name; graph = Some m.graph; rounds = m.rounds; stop = m.stop; claim = claim; refute = refute }

-- what is claimed of the goal of this name with this result
abbrev pub claimed : List ℕ → Answered → Claimed
claimed name (Scheduled f) =
    claimed_on name f.matched (claims.Scheduled f.k f.schedule f.words f.listing.wheres) f.refutation
claimed name (Nowhere m) = claimed_on name m.matched (claims.Missing m.k) (Some m.refutation)
claimed name (SpentConflicts t) = claimed_on name t.matched (claims.SpentConflicts t.k t.lemmas) t.refutation
claimed name (SpentSize l) = claimed_on name l.matched (claims.SpentSize l.k l.vars l.clauses) l.refutation
claimed name (NoWorld class a b) =
    record { name = name; graph = None; rounds = 0; stop = Quiet; claim = claims.NoWorld class a b; refute = None }

-- the number by which an answer names an encoding
abbrev pub encoding_number : Encoding → ℕ
encoding_number Wide = 1
encoding_number Narrow = 2
encoding_number Pinned = 3
encoding_number Live = 4

-- the version of the answers that name it: in versions 2 and 3 targets may have pins
abbrev pub version_of : Encoding → ℕ
version_of Wide = 1
version_of Narrow = 1
version_of Pinned = 2
version_of Live = 3

-- each goal with its result
abbrev pub goals_claimed : List GoalTree → List Answered → List Claimed
goals_claimed (goal ∷ goals) (answered ∷ more) = claimed goal.name answered ∷ goals_claimed goals more
goals_claimed _ _ = []

-- what the answer to an input with these results says, which were found with these settings
abbrev pub answer_to : Settings → InputTree → List Answered → AnswerText
answer_to s input results = record {
  version = version_of (encoding_in s);
  encoding = encoding_number (encoding_in s);
  table = input.table;
  builtin = input.builtin;
  library = s.library;
  goals = goals_claimed input.goals results;
}

-- the bytes of that answer
abbrev pub answer_text : Settings → InputTree → List Answered → List ℕ
answer_text s input results = answer_bytes (answer_to s input results)

-- the first graph of each goal has at most as many rows as the format allows for a goal
abbrev pub StartsWithinFormat : InputTree → Type 0
StartsWithinFormat input = All (λ (goal : GoalTree). most_rows_at_start goal ≤ 1000000) input.goals
