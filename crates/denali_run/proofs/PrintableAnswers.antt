-- Right results make an answer that can be printed so that its text says it.
use Rattle.std.proofs.Common.{◌≡◌, ℕ, suc, ◌+◌, ◌≤◌, List, [], ◌∷◌, length, inl, inr, refl, ap, subst, arith, Option, Some}
use Rattle.std.specs.Prelude.{All}
use Rattle.std.specs.List.{AllZip}
use Rattle.std.proofs.lemmas.List.Elements.{All-cons, All-head, All-tail}
use Rattle.schedule_meaning.specs.Limits.{most_cycles}
use Rattle.answer_texts.specs.AnswerLines.{refuted_below}
use Rattle.answer_texts.specs.AnswerParts.{GoTogether}
use Rattle.answer_texts.specs.Printable.{AreLinesBelow, IsGraphClaim, IsPrintable, IsPrintableGoal, no_world, worked}
use Rattle.answer_texts.specs.declared.answers.Claim.{Claim}
use Rattle.answer_texts.specs.declared.answers.Claim.TheVariants as claims
use Rattle.cnf_core.specs.Formula.{Formula}
use Rattle.cnf_core.specs.declared.line.Lines.{Lines}
use Rattle.goal_meaning.specs.Views.{GoalTree, InputTree}
use Rattle.goal_meaning.specs.WellFormed.{IsGoal, IsInput}
use Rattle.graph_meaning.specs.declared.graphs.LaunchGraph.{LaunchGraph}
use Rattle.register_assign.specs.Outcomes.{instrs_of}
use Rattle.schedule_meaning.specs.declared.schedules.Allocation.{Allocation}
use Rattle.schedule_meaning.specs.declared.schedules.Allocation.TheVariants.{Block, Live}
use Rattle.saturation.specs.AtStart.{most_rows_at_start}
use Rattle.text_core.specs.Names.{IsName}
use Rattle.denali_run.specs.ClaimedResults.{StartsWithinFormat, answer_to, claimed, claimed_on, encoding_number, goals_claimed, version_of}
use Rattle.denali_run.specs.Encodings.{encoding_for, encoding_in}
use Rattle.denali_run.specs.MatchedGoals.{IsMatched, IsSettings}
use Rattle.denali_run.specs.Right.{AreRefutedBelow, Right, nothing_less, one_less}
use Rattle.denali_run.specs.declared.results.Answered.{Answered}
use Rattle.denali_run.specs.declared.results.Answered.TheVariants.{Scheduled, Nowhere, SpentConflicts, SpentSize, NoWorld}
use Rattle.denali_run.specs.declared.results.Matched.{Matched}
use Rattle.denali_run.specs.declared.settings.Settings.{Settings}
use Rattle.denali_run.proofs.SameLaunches.{SlotsAreThere, are_placed, few_sets, few_targets}
use Rattle.denali_run.proofs.SameRefutations.{AcceptedAreReadable, readable}
use Rattle.denali_run.proofs.TargetPlaces.{are_codes, are_places}

-- the encodings by which settings ask are named in versions behind the first
later : (a : Allocation) → version_of (encoding_for a) ≡ 1 → ⊥
later Block first = (let h : ◌≡◌ {A = ℕ} 2 1 = first in omega (arith, h))
later Live first = (let h : ◌≡◌ {A = ℕ} 3 1 = first in omega (arith, h))

goes_together : (a : Allocation) → GoTogether (version_of (encoding_for a)) (encoding_number (encoding_for a))
goes_together Block = inr (inl (refl, refl))
goes_together Live = inr (inr (refl, refl))

as_many : (goals : List GoalTree) (results : List Answered) (P : GoalTree → Answered → Type 0) → AllZip P goals results
    → length (goals_claimed goals results) ≡ length goals
as_many [] [] P z = refl
as_many [] (r ∷ rs) P z = absurd z
as_many (goal ∷ goals) [] P z = absurd z
as_many (goal ∷ goals) (r ∷ rs) P z = ap suc (as_many goals rs P z.1)

module _ (slots : SlotsAreThere) (accepted : AcceptedAreReadable) (input : InputTree)
    (s : Settings) (is : IsInput input) (set : IsSettings s) where
  -- ---- parts of a claim

  below : (f : ℕ → Formula) (g : LaunchGraph) (k : ℕ) (lines : Option Lines)
      → AreRefutedBelow f g input.table s.allocation s.conflicts k lines
      → AreLinesBelow k lines
  below f g _ _ nothing_less = refl
  below f g _ _ (one_less {k = j} {lines = lines} few) =
      subst (λ n. AreLinesBelow n (Some lines)) (let e : suc j ≡ j + 1 = omega arith in e)
      (let short = few.few in let most = set.conflicts.1 in
      let read = readable accepted (f j) lines.lines few.none_fits.within few.refutes.accepted
      (omega (arith, short, most)) in
      record { few = read.1; each = read.0 })

  cycles_low : (k : ℕ) → k ≤ s.cycles → k ≤ most_cycles
  cycles_low k low = (let most = set.cycles in omega (arith, most, low))

  -- ---- goals

  module _ (goal : GoalTree) (named : IsName goal.name) (targets : length goal.sets ≤ 16) (small : most_rows_at_start goal ≤ 1000000) where
    on_graph : (m : Matched) (claim : Claim) (lines : Option Lines) → IsMatched input goal s m
        → IsGraphClaim input.table m.graph claim → AreLinesBelow (refuted_below claim) lines
        → IsPrintableGoal (version_of (encoding_in s)) input.table (claimed_on goal.name m claim lines)
    on_graph m claim lines matched on are =
        worked named matched.graph (λ first. absurd (later s.allocation first))
        (let few = matched.few in let most = set.nodes.1 in omega (arith, few, most, small))
        (let reached = matched.reached.0 in let most = set.rounds in omega (arith, reached, most)) on are

    printable : (r : Answered) → Right input goal s r → IsPrintableGoal (version_of (encoding_in s)) input.table (claimed goal.name r)
    printable (Scheduled f) right =
        let low : f.k ≤ most_cycles = cycles_low f.k right.1 in
        on_graph f.matched (claims.Scheduled f.k f.schedule f.words f.listing.wheres) f.refutation right.0 (
          low,
          are_placed f.matched.graph right.0.graph (few_sets input goal f.matched.graph right.0.stands targets) slots input.table
              is.table s.allocation f.k f.schedule.launches low right.2.fits,
          are_codes (instrs_of f.listing.items) f.words right.2.low right.2.words,
          are_places f.matched.graph right.0.graph input.table s.allocation f.schedule.launches f.listing.items
              f.listing.wheres right.2.listing.is,
        )
        (below right.3.clauses_for f.matched.graph f.k f.refutation right.3.holds.1.refuted)
    printable (Nowhere m) right =
        on_graph m.matched (claims.Missing m.k) (Some m.refutation) right.0
        (cycles_low m.k (let same = right.1 in omega (arith, same)))
        (below right.2.clauses_for m.matched.graph (m.k + 1) (Some m.refutation) right.2.holds.refuted)
    printable (SpentConflicts t) right =
        on_graph t.matched (claims.SpentConflicts t.k t.lemmas) t.refutation right.0 (
          cycles_low t.k right.1,
          (let count = right.2.holds.1.count in let most = set.conflicts.1 in
              let read = readable accepted (right.2.clauses_for t.k) t.lemmas.lines right.2.holds.0
              right.2.holds.1.accepted (omega (arith, count, most)) in
              record { few = read.1; each = read.0 }),
        )
        (below right.2.clauses_for t.matched.graph t.k t.refutation right.2.holds.2.refuted)
    printable (SpentSize l) right =
        on_graph l.matched (claims.SpentSize l.k l.vars l.clauses) l.refutation right.0
        (cycles_low l.k right.1, right.2, right.3)
        (below right.4.clauses_for l.matched.graph l.k l.refutation right.4.holds.1.refuted)
    printable (NoWorld class a b) right = no_world named right.1 right.2 right.3

  all_printable : (goals : List GoalTree) (results : List Answered) → All (IsGoal input.ops) goals
      → All (λ (goal : GoalTree). most_rows_at_start goal ≤ 1000000) goals
      → AllZip (λ goal answered. Right input goal s answered) goals results
      → All (IsPrintableGoal (version_of (encoding_in s)) input.table) (goals_claimed goals results)
  all_printable [] [] each small right = λ i d lt. absurd (omega (arith, lt))
  all_printable [] (r ∷ rs) each small right = absurd right
  all_printable (goal ∷ goals) [] each small right = absurd right
  all_printable (goal ∷ goals) (r ∷ rs) each small right =
      All-cons (IsPrintableGoal (version_of (encoding_in s)) input.table) (claimed goal.name r) (goals_claimed goals rs)
      (printable goal (All-head (IsGoal input.ops) goal goals each).named.own
      (few_targets input goal (All-head (IsGoal input.ops) goal goals each))
      (All-head (λ (goal : GoalTree). most_rows_at_start goal ≤ 1000000) goal goals small) r right.0)
      (all_printable goals rs (All-tail (IsGoal input.ops) goal goals each)
      (All-tail (λ (goal : GoalTree). most_rows_at_start goal ≤ 1000000) goal goals small) right.1)

  pub answers_can_be_printed : (results : List Answered) → StartsWithinFormat input
      → AllZip (λ goal answered. Right input goal s answered) input.goals results
      → IsPrintable (answer_to s input results)
  answers_can_be_printed results small right =
      let many = as_many input.goals results (λ goal answered. Right input goal s answered) right in
      let some = is.some_goal in
      let few = is.few.2 in
      record {
        encoding = goes_together s.allocation;
        table = is.table;
        names = is.slots;
        built_in = is.builtin;
        few = (omega (arith, many, some), omega (arith, many, few));
        goals = all_printable input.goals results is.goals small right;
      }
