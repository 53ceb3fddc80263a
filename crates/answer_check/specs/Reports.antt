-- The line of each goal, and the report on an answer. Source: this project.
use Rattle.std.specs.Prelude.{ℕ, ◌≡◌, ◌==◌, Bool, true, false, List, [], ◌∷◌, codes, decimal, if◌then◌else◌}
use Rattle.std.specs.List.{AllZip, list_any}
use Rattle.answer_texts.specs.declared.answers.AnswerText.{AnswerText}
use Rattle.answer_texts.specs.declared.answers.Claim.{Claim}
use Rattle.answer_texts.specs.declared.answers.Claim.TheVariants.{NoWorld, Scheduled, Missing, SpentConflicts, SpentSize}
use Rattle.answer_texts.specs.declared.answers.Claimed.{Claimed}
use Rattle.cycle_encoding.specs.declared.encodings.Encoding.{Encoding}
use Rattle.cycle_encoding.specs.declared.encodings.Encoding.TheVariants.{Wide, Narrow, Pinned, Live}
use Rattle.machine_table.specs.declared.tables.Table.{Table}
use Rattle.text_core.specs.LineTexts.{Words, lines_text}
use Rattle.answer_check.specs.Soundness.{IsSound}
use Rattle.answer_check.specs.Verdicts.{IsVerdict}
use Rattle.answer_check.specs.declared.verdicts.Verdict.{Verdict}
use Rattle.answer_check.specs.declared.verdicts.Verdict.TheVariants.{Holds, Seen, Broken, Listing, Size, Refutation, Lemmas}

-- what is claimed, in short
abbrev pub claim_words : Claim → Words
claim_words (NoWorld class a b) = codes "noworld" ∷ []
claim_words (Scheduled k schedule words places) = codes "scheduled" ∷ decimal k ∷ []
claim_words (Missing k) = codes "none" ∷ decimal k ∷ []
claim_words (SpentConflicts k lemmas) = codes "spent" ∷ decimal k ∷ []
claim_words (SpentSize k vars clauses) = codes "spent" ∷ decimal k ∷ []

-- the line of a goal of this name
abbrev pub verdict_words : Claimed → Verdict → Words
verdict_words c Holds = codes "ok" ∷ c.name ∷ claim_words c.claim
verdict_words c Seen = codes "seen" ∷ c.name ∷ codes "noworld" ∷ []
verdict_words c (Broken launch rule) = codes "no" ∷ c.name ∷ codes "broken" ∷ decimal launch ∷ decimal rule ∷ []
verdict_words c Listing = codes "no" ∷ c.name ∷ codes "listing" ∷ []
verdict_words c (Size vars clauses) = codes "no" ∷ c.name ∷ codes "size" ∷ decimal vars ∷ decimal clauses ∷ []
verdict_words c (Refutation k line why) =
    codes "no" ∷ c.name ∷ codes "refutation" ∷ decimal k ∷ decimal line ∷ decimal why ∷ []
verdict_words c (Lemmas k line why) =
    codes "no" ∷ c.name ∷ codes "lemmas" ∷ decimal k ∷ decimal line ∷ decimal why ∷ []

-- some test failed
abbrev pub is_rejection : Verdict → Bool
is_rejection Holds = false
is_rejection Seen = false
is_rejection v = true

-- the lines of goals with these verdicts
abbrev pub verdict_lines : List Claimed → List Verdict → List Words
verdict_lines [] verdicts = []
verdict_lines (c ∷ cs) [] = []
verdict_lines (c ∷ cs) (v ∷ vs) = verdict_words c v ∷ verdict_lines cs vs

-- the encoding that an answer names by its number
abbrev pub encoding_named : ℕ → Encoding
encoding_named number =
    if number == 4 then Live else if number == 3 then Pinned else if number == 2 then Narrow else Wide

-- the goal's verdict; and where all tests hold, what is claimed is true
pub record IsJudged (e : Encoding) (table : Table) (c : Claimed) (v : Verdict) : Type 0 where
  pub verdict : IsVerdict e table c v
  pub sound : v ≡ Holds → IsSound e table c

-- each goal has its verdict, the bytes are the lines of these in order, and it is told whether some goal is rejected
pub record IsCheckReportOn (e : Encoding) (table : Table) (goals : List Claimed) (bytes : List ℕ) (rejected : Bool)
    : Type 0 where
  pub verdicts : List Verdict
  pub judged : AllZip (IsJudged e table) goals verdicts
  pub is : bytes ≡ lines_text (verdict_lines goals verdicts)
  pub rejects : rejected ≡ list_any is_rejection verdicts

abbrev pub IsCheckReport : AnswerText → List ℕ → Bool → Type 0
IsCheckReport a bytes rejected = IsCheckReportOn (encoding_named a.encoding) a.table a.goals bytes rejected
