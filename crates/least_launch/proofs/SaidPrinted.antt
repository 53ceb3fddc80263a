-- What is said of right results can be printed so that it is read back.
use Rattle.std.proofs.Common.{ℕ, ◌*◌, ◌<◌, ◌≤◌, ◌^◌, List, [], ◌∷◌, length, map, refl, sym, subst, arith, Option, Some, None}
use Rattle.std.specs.Prelude.{All}
use Rattle.std.specs.List.{AllZip, flat_map}
use Rattle.std.proofs.lemmas.List.Concat.{flat_map-cons}
use Rattle.std.proofs.lemmas.List.Elements.{All-nil}
use Rattle.answer_texts.specs.Printable.{AreReadable}
use Rattle.answer_texts.specs.declared.answers.Claim.{Claim}
use Rattle.answer_texts.specs.declared.answers.Claim.TheVariants as claims
use Rattle.answer_texts.specs.declared.answers.Claimed.{Claimed}
use Rattle.cnf_core.specs.declared.line.Line.{Line as Row}
use Rattle.cnf_core.specs.declared.line.Lines.{Lines}
use Rattle.denali_run.specs.ClaimedResults.{claimed, goals_claimed}
use Rattle.denali_run.specs.MatchedGoals.{IsSettings}
use Rattle.denali_run.specs.Right.{Right}
use Rattle.denali_run.specs.declared.results.Answered.{Answered}
use Rattle.denali_run.specs.declared.results.Answered.TheVariants as answered
use Rattle.denali_run.specs.declared.results.Found.{Found}
use Rattle.denali_run.specs.declared.settings.Settings.{Settings}
use Rattle.denali_run.proofs.LineWords.{CanBeLines, NumbersAreWords, a_line, a_word, and_lines, can_be, lines_from, no_lines, no_words}
use Rattle.denali_run.proofs.LinesApart.{words_placed}
use Rattle.denali_run.proofs.SameRefutations.{AcceptedAreReadable, readable}
use Rattle.goal_meaning.specs.Views.{GoalTree, InputTree}
use Rattle.graph_meaning.specs.declared.graphs.LaunchGraph.{LaunchGraph}
use Rattle.machine_table.specs.Tables.{IsTable}
use Rattle.machine_table.specs.declared.tables.Table.{Table}
use Rattle.refutation_check.specs.LineWords.{IsReadableLine, line_words}
use Rattle.schedule_meaning.specs.Fits.{Fits}
use Rattle.schedule_meaning.specs.declared.schedules.Allocation.{Allocation}
use Rattle.schedule_meaning.specs.declared.schedules.Launch.{Launch}
use Rattle.text_core.specs.LineTexts.{CanBeLine, lines_text, placed_lines, words_of_lines}
use Rattle.text_core.specs.Lines.{AreLines, Line}
use Rattle.least_launch.specs.Fewest.{IsProof}
use Rattle.least_launch.specs.LeastAnswers.{IsSaidOf, IsTailOf, said_by}
use Rattle.least_launch.specs.TailLines.{goal_tail_lines, one_tail_lines, tail_lines}
use Rattle.least_launch.specs.declared.results.Proof.{Proof}
use Rattle.least_launch.specs.declared.results.Proof.TheVariants as proofs
use Rattle.least_launch.specs.declared.tails.Tail.{Tail}
use Rattle.least_launch.specs.declared.tails.Tail.TheVariants as tails
use Rattle.least_launch.proofs.TailLinesRead.{IsPrintableFor, IsPrintableOf, IsPrintableTail}

-- ---- what stands beside a schedule

-- a schedule that fits in k cycles has at most 8 launches in each
abbrev pub SchedulesAreSmall : Type 0
SchedulesAreSmall =
    (g : LaunchGraph) (table : Table) (al : Allocation) (k : ℕ) (ls : List Launch) → IsTable table
    → Fits g table al k ls → length ls ≤ 8 * k

module _ (accepted : AcceptedAreReadable) where
  printable_proof : (g : LaunchGraph) (table : Table) (al : Allocation) (k conflicts count : ℕ) (proof : Proof)
      → count < 2 ^ 31 → conflicts ≤ 1000000 → IsProof g table al k conflicts count proof
      → IsPrintableTail (said_by count proof)
  printable_proof g table al k conflicts count proofs.None small budget is =
      (small, (λ e. refl), record { few = omega arith; each = All-nil IsReadableLine })
  printable_proof g table al k conflicts count (proofs.Refuted lines) small budget is =
      let some = is.1.some in
      let short = is.1.holds.1 in
      let read = readable accepted is.1.formula lines.lines is.1.holds.0 is.1.holds.2.accepted
      (omega (arith, short, budget)) in
      (small, (λ e. absurd (omega (arith, e, some))), record { few = read.1; each = read.0 })
  printable_proof g table al k conflicts count (proofs.Spent lines) small budget is =
      let many = is.holds.1.count in
      let read = readable accepted is.formula lines.lines is.holds.0 is.holds.1.accepted
      (omega (arith, many, budget)) in
      (is.some, small, record { few = read.1; each = read.0 })
  printable_proof g table al k conflicts count (proofs.Size vars clauses) small budget is =
      (is.some, small, is.holds.1, is.holds.2)

  module _ (schedules : SchedulesAreSmall) (input : InputTree) (s : Settings) (is_table : IsTable input.table)
      (set : IsSettings s) where
    printable_found : (goal : GoalTree) (f : Found) (tail : Tail) → Right input goal s (answered.Scheduled f)
        → IsSaidOf input.table s.allocation s.conflicts f tail → IsPrintableTail tail
    printable_found goal f tail right is =
        let few = schedules f.matched.graph input.table s.allocation f.k f.schedule.launches is_table right.2.fits in
        let low = right.1 in
        let cycles = set.cycles in
        subst IsPrintableTail (sym is.said)
        (printable_proof f.matched.graph input.table s.allocation f.k s.conflicts (length f.schedule.launches) is.proof
        (omega (arith, few, low, cycles)) set.conflicts.1 is.is_proof)

    printable_goal : (goal : GoalTree) (a : Answered) (tail : Option Tail) → Right input goal s a
        → IsTailOf input.table s.allocation s.conflicts a tail → IsPrintableOf (claimed goal.name a) tail
    printable_goal goal (answered.Scheduled f) None right is = absurd is
    printable_goal goal (answered.Scheduled f) (Some tail) right is = printable_found goal f tail right is
    printable_goal goal (answered.Nowhere m) None right is = tt
    printable_goal goal (answered.Nowhere m) (Some tail) right is = absurd is
    printable_goal goal (answered.SpentConflicts t) None right is = tt
    printable_goal goal (answered.SpentConflicts t) (Some tail) right is = absurd is
    printable_goal goal (answered.SpentSize l) None right is = tt
    printable_goal goal (answered.SpentSize l) (Some tail) right is = absurd is
    printable_goal goal (answered.NoWorld class a b) None right is = tt
    printable_goal goal (answered.NoWorld class a b) (Some tail) right is = absurd is

    pub all_printable : (goals : List GoalTree) (results : List Answered) (said : List (Option Tail))
        → AllZip (λ goal a. Right input goal s a) goals results
        → AllZip (IsTailOf input.table s.allocation s.conflicts) results said
        → AllZip IsPrintableOf (goals_claimed goals results) said
    all_printable [] [] [] right each = tt
    all_printable [] [] (t ∷ said) right each = absurd each
    all_printable [] (a ∷ results) said right each = absurd right
    all_printable (goal ∷ goals) [] said right each = absurd right
    all_printable (goal ∷ goals) (a ∷ results) [] right each = absurd each
    all_printable (goal ∷ goals) (a ∷ results) (t ∷ said) right each =
        (printable_goal goal a t right.0 each.0, all_printable goals results said right.1 each.1)

-- ---- lines

-- lines of a refutation that can be read back can be lines
abbrev pub RowsAreLines : Type 0
RowsAreLines =
    (place : ℕ) (rows : List Row) → All IsReadableLine rows
    → AreLines place (placed_lines place (map line_words rows)) (lines_text (map line_words rows))

abbrev pub LinesCanBe : Type 0
LinesCanBe =
    (place : ℕ) (lines : List Line) (text : List ℕ) → AreLines place lines text → All CanBeLine (words_of_lines lines)

-- what is said is within the limits, whatever claim it is said of
printable_some : (claim : Claim) (tail : Tail) → IsPrintableFor claim (Some tail) → IsPrintableTail tail
printable_some (claims.Scheduled k schedule words places) tail fine = fine
printable_some (claims.NoWorld class m n) tail fine = absurd fine
printable_some (claims.Missing k) tail fine = absurd fine
printable_some (claims.SpentConflicts k lemmas) tail fine = absurd fine
printable_some (claims.SpentSize k vars clauses) tail fine = absurd fine

module _ (number : NumbersAreWords) (rows : RowsAreLines) (each_can : LinesCanBe) where
  rows_can : (read : Lines) → AreReadable read → CanBeLines (map line_words read.lines)
  rows_can read fine =
      lines_from (map line_words read.lines)
      (subst (All CanBeLine) (words_placed 0 (map line_words read.lines))
      (each_can 0 _ _ (rows 0 read.lines fine.each)))

  tail_can : (tail : Tail) → IsPrintableTail tail → CanBeLines (one_tail_lines tail)
  tail_can (tails.Least launches read) fine =
      let small = fine.0 in
      let few = fine.2.few in
      a_line
      (can_be
      (a_word (record { some = λ e. cc; printed = refl })
      (a_word (number launches (omega (arith, small)))
      (a_word (number (length read.lines) (omega (arith, few))) no_words))))
      (rows_can read fine.2)
  tail_can (tails.Spent launches read) fine =
      let small = fine.1 in
      let few = fine.2.few in
      a_line
      (can_be
      (a_word (record { some = λ e. cc; printed = refl })
      (a_word (number launches (omega (arith, small)))
      (a_word (record { some = λ e. cc; printed = refl })
      (a_word (number (length read.lines) (omega (arith, few))) no_words)))))
      (rows_can read fine.2)
  tail_can (tails.Size launches vars clauses) fine =
      let small = fine.1 in
      a_line
      (can_be
      (a_word (record { some = λ e. cc; printed = refl })
      (a_word (number launches (omega (arith, small)))
      (a_word (record { some = λ e. cc; printed = refl })
      (a_word (number vars fine.2) (a_word (number clauses fine.3) no_words))))))
      no_lines

  goal_can : (claim : Claimed) (tail : Option Tail) → IsPrintableOf claim tail → CanBeLines (goal_tail_lines tail)
  goal_can claim None fine = no_lines
  goal_can claim (Some tail) fine = tail_can tail (printable_some claim.claim tail fine)

  goals_can : (goals : List Claimed) (said : List (Option Tail)) → AllZip IsPrintableOf goals said
      → CanBeLines (flat_map goal_tail_lines said)
  goals_can [] [] fine = no_lines
  goals_can [] (t ∷ said) fine = absurd fine
  goals_can (c ∷ goals) [] fine = absurd fine
  goals_can (c ∷ goals) (t ∷ said) fine =
      subst CanBeLines (sym (flat_map-cons goal_tail_lines t said))
      (and_lines (flat_map goal_tail_lines said) (goal_can c t fine.0) (goals_can goals said fine.1))

  pub tails_can : (goals : List Claimed) (said : List (Option Tail)) → AllZip IsPrintableOf goals said
      → CanBeLines (tail_lines said)
  tails_can goals said fine =
      a_line (can_be (a_word (record { some = λ e. cc; printed = refl }) no_words)) (goals_can goals said fine)
