-- The line of each goal, and the report on an answer with lines behind it. Source: this project.
use Rattle.std.specs.Prelude.{◌≡◌, ℕ, Bool, true, false, List, [], ◌∷◌, ◌++◌, codes, decimal, Option, if◌then◌else◌}
use Rattle.std.specs.List.{list_any}
use Rattle.answer_check.specs.Reports.{claim_words, encoding_named, is_rejection, verdict_words}
use Rattle.answer_texts.specs.declared.answers.AnswerText.{AnswerText}
use Rattle.answer_texts.specs.declared.answers.Claimed.{Claimed}
use Rattle.cycle_encoding.specs.declared.encodings.Encoding.{Encoding}
use Rattle.reports.specs.declared.statuses.Status.{Status}
use Rattle.reports.specs.declared.statuses.Status.TheVariants.{Done, Missing}
use Rattle.machine_table.specs.declared.tables.Table.{Table}
use Rattle.text_core.specs.LineTexts.{Words, lines_text}
use Rattle.least_launch.specs.TailVerdicts.{IsTailVerdict, IsTrueVerdict}
use Rattle.least_launch.specs.TailedAnswers.{ReadsTailed}
use Rattle.least_launch.specs.declared.tails.Tail.{Tail}
use Rattle.least_launch.specs.declared.verdicts.TailVerdict.{TailVerdict}
use Rattle.least_launch.specs.declared.verdicts.TailVerdict.TheVariants.{Plain, Count, Size, Fewer, Least, Most}

-- `ok`, the claim in short, and what is known of the number of launches
abbrev pub known_words : Claimed → List ℕ → ℕ → Words
known_words c word launches = codes "ok" ∷ c.name ∷ (claim_words c.claim ++ (word ∷ decimal launches ∷ []))

-- the line of a goal of this name
abbrev pub tail_verdict_words : Claimed → TailVerdict → Words
tail_verdict_words c (Plain v) = verdict_words c v
tail_verdict_words c (Count launches) = codes "no" ∷ c.name ∷ codes "count" ∷ decimal launches ∷ []
tail_verdict_words c (Size vars clauses) =
    codes "no" ∷ c.name ∷ codes "size" ∷ decimal vars ∷ decimal clauses ∷ []
tail_verdict_words c (Fewer line why) = codes "no" ∷ c.name ∷ codes "fewer" ∷ decimal line ∷ decimal why ∷ []
tail_verdict_words c (Least launches) = known_words c (codes "least") launches
tail_verdict_words c (Most launches) = known_words c (codes "most") launches

-- some test failed
abbrev pub is_tail_rejection : TailVerdict → Bool
is_tail_rejection (Plain v) = is_rejection v
is_tail_rejection (Least launches) = false
is_tail_rejection (Most launches) = false
is_tail_rejection v = true

-- the lines of goals with these verdicts
abbrev pub tail_verdict_lines : List Claimed → List TailVerdict → List Words
tail_verdict_lines (c ∷ cs) (v ∷ vs) = tail_verdict_words c v ∷ tail_verdict_lines cs vs
tail_verdict_lines _ _ = []

-- the goal's verdict, with what is said of it; and what is true where the verdict says so
pub record IsTailJudged (e : Encoding) (table : Table) (c : Claimed) (tail : Option Tail) (v : TailVerdict)
    : Type 0 where
  pub verdict : IsTailVerdict e table c tail v
  pub sound : IsTrueVerdict e table c v

-- each goal with what is said of it has its verdict
abbrev pub AreTailJudged : Encoding → Table → List Claimed → List (Option Tail) → List TailVerdict → Type 0
AreTailJudged e table [] [] [] = Unit {0}
AreTailJudged e table (c ∷ cs) (tail ∷ said) (v ∷ vs) =
    IsTailJudged e table c tail v × AreTailJudged e table cs said vs
AreTailJudged e table _ _ _ = ⊥

-- each goal has its verdict, the bytes are the lines of these in order, and it is told whether some goal is rejected
pub record IsTailReportOn (e : Encoding) (table : Table) (goals : List Claimed) (said : List (Option Tail))
    (bytes : List ℕ) (rejected : Bool) : Type 0 where
  pub verdicts : List TailVerdict
  pub judged : AreTailJudged e table goals said verdicts
  pub is : bytes ≡ lines_text (tail_verdict_lines goals verdicts)
  pub rejects : rejected ≡ list_any is_tail_rejection verdicts

abbrev pub IsTailReport : AnswerText → List (Option Tail) → List ℕ → Bool → Type 0
IsTailReport a said bytes rejected = IsTailReportOn (encoding_named a.encoding) a.table a.goals said bytes rejected

-- The text reads as an answer with lines behind it, the bytes are the lines of the verdicts on its goals, and the
-- status tells whether some claim is rejected.
pub record ChecksLeast (text bytes : List ℕ) (status : Status) : Type 0 where
  pub answer : AnswerText
  pub said : List (Option Tail)
  pub reads : ReadsTailed text answer said
  pub rejected : Bool
  pub report : IsTailReport answer said bytes rejected
  pub status_is : status ≡ (if rejected then Missing else Done)
