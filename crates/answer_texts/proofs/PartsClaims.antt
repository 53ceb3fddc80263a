-- A claim and the lines that are to show it are read in one way.
use Rattle.std.proofs.Common.{ℕ, zero, suc, List, codes, None, Some}
use Rattle.graph_meaning.specs.Graphs.{HaveOwnPins}
use Rattle.graph_meaning.specs.declared.graphs.LaunchGraph.{LaunchGraph}
use Rattle.machine_table.specs.Tables.{IsTable}
use Rattle.machine_table.specs.declared.tables.Table.{Table}
use Rattle.text_core.specs.Lines.{Line}
use Rattle.answer_texts.specs.AnswerLines.{launch_words, word_words, where_words}
use Rattle.answer_texts.specs.AnswerParts.{IsCount, CountedPart, CountedFault, BelowPart, BelowFault, IsClaimLine, AreLaunches, AreCodes, AreWherePlaces, SchedulePart, ScheduleFault, ClaimRest, ClaimRestFault, ClaimPart, ClaimFault}
use Rattle.answer_texts.specs.declared.answers.Claim.TheVariants as claims
use Rattle.answer_texts.specs.declared.parts.ClaimLine.{ClaimLine}
use Rattle.answer_texts.specs.declared.parts.ClaimLine.TheVariants as lines_of
use Rattle.answer_texts.proofs.PartsCounted.{WordsAreOneLine, counted_once}
use Rattle.answer_texts.proofs.PartsKinds.{count_once, claim_line_once}
use Rattle.answer_texts.proofs.PartsLines.{lines_once}
use Rattle.answer_texts.proofs.PartsListKinds.{launches_kind, codes_kind, places_kind}
use Rattle.answer_texts.proofs.PartsOnce.{IsOneReading, line_once, says_once, leads_once}

module _ (lines : List Line) (one : WordsAreOneLine) where
  lines_behind_once : (first : List ℕ) (cycles : ℕ)
      → IsOneReading (CountedPart lines first cycles) (CountedFault lines first cycles)
  lines_behind_once first cycles =
      leads_once _ _ _ _ (line_once (IsCount first cycles) lines (count_once first cycles))
      (λ from middle count is. counted_once lines one count)

  below_once : (k : ℕ) → IsOneReading (BelowPart lines k) (BelowFault lines k)
  below_once zero = says_once None
  below_once (suc j) =
      leads_once _ _ _ _ (lines_behind_once (codes "refute") j) (λ from middle read is. says_once (Some read))

  module _ (table : Table) (is_table : IsTable table) (g : LaunchGraph) (own : HaveOwnPins g.sets) where
    schedule_once : (k : ℕ) → IsOneReading (SchedulePart lines table g k) (ScheduleFault lines table g k)
    schedule_once k =
        leads_once _ _ _ _ (lines_once _ (launch_words table g) (AreLaunches table g) (launches_kind table g is_table own) lines)
        (λ from middle launches is.
        leads_once _ _ _ _ (lines_once _ word_words AreCodes codes_kind lines)
        (λ start end words also.
        leads_once _ _ _ _ (lines_once _ where_words AreWherePlaces places_kind lines)
        (λ first last places are.
        leads_once _ _ _ _ (below_once k)
        (λ low high refute read.
        says_once (claims.Scheduled k (record { launches = launches }) words places, refute)))))

    rest_once : (first : ClaimLine) → IsOneReading (ClaimRest lines table g first) (ClaimRestFault lines table g first)
    rest_once (lines_of.Scheduled k) = schedule_once k
    rest_once (lines_of.Missing k) =
        leads_once _ _ _ _ (lines_behind_once (codes "refute") k)
        (λ from middle read is. says_once (claims.Missing k, Some read))
    rest_once (lines_of.Conflicts k) =
        leads_once _ _ _ _ (below_once k)
        (λ from middle refute is.
        leads_once _ _ _ _ (lines_behind_once (codes "lemmas") k)
        (λ start end lemmas also. says_once (claims.SpentConflicts k lemmas, refute)))
    rest_once (lines_of.Size k vars clauses) =
        leads_once _ _ _ _ (below_once k)
        (λ from middle refute is. says_once (claims.SpentSize k vars clauses, refute))

    pub claim_once : IsOneReading (ClaimPart lines table g) (ClaimFault lines table g)
    claim_once =
        leads_once _ _ _ _ (line_once IsClaimLine lines claim_line_once) (λ from middle first is. rest_once first)
