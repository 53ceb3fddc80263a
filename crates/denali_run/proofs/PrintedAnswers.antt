-- The lines of right results can be lines.
use Rattle.std.proofs.Common.{◌≡◌, ℕ, ◌+◌, ◌-◌, ◌<◌, ◌≤◌, ◌^◌, List, [], ◌∷◌, length, map, get_or, refl, sym, subst, arith, codes, decimal, Option, Some, None}
use Rattle.std.specs.Prelude.{All, IsSomeAnd}
use Rattle.std.specs.List.{AllZip}
use Rattle.std.proofs.lemmas.List.Elements.{All-head, All-tail}
use Rattle.schedule_meaning.specs.Limits.{most_cycles}
use Rattle.alpha_encode.specs.Decoded.{decoded}
use Rattle.alpha_encode.specs.declared.instructions.Instr.{Instr}
use Rattle.cnf_core.specs.Formula.{Formula}
use Rattle.cnf_core.specs.declared.line.Line.{Line}
use Rattle.cnf_core.specs.declared.line.Lines.{Lines}
use Rattle.goal_meaning.specs.Views.{GoalTree, InputTree}
use Rattle.goal_meaning.specs.WellFormed.{IsGoal, IsInput}
use Rattle.launch_graph.specs.GraphLines.{graph_lines, pin_words, said}
use Rattle.graph_meaning.specs.WellFormed.{IsLaunchGraph}
use Rattle.graph_meaning.specs.declared.graphs.LaunchGraph.{LaunchGraph}
use Rattle.machine_table.specs.declared.tables.Slot.{Slot}
use Rattle.machine_table.specs.declared.tables.Table.{Table}
use Rattle.refutation_check.specs.LineWords.{IsReadableLine, line_words}
use Rattle.register_assign.specs.Listings.{IsListing}
use Rattle.register_assign.specs.Outcomes.{instrs_of}
use Rattle.register_assign.specs.declared.listings.Item.{Item}
use Rattle.register_assign.specs.declared.listings.Where.{Where}
use Rattle.graph_meaning.specs.declared.stops.Stop.{Stop}
use Rattle.graph_meaning.specs.declared.stops.Stop.TheVariants.{Quiet, Rounds, Full}
use Rattle.schedule_meaning.specs.Launches.{pin_of}
use Rattle.schedule_meaning.specs.declared.schedules.Allocation.{Allocation}
use Rattle.schedule_meaning.specs.declared.schedules.Launch.{Launch}
use Rattle.schedule_meaning.specs.declared.schedules.To.{To}
use Rattle.schedule_meaning.specs.declared.schedules.To.TheVariants.{Pool, Set}
use Rattle.text_core.specs.LineTexts.{CanBeLine}
use Rattle.text_core.specs.Lines.{IsLineWord}
use Rattle.text_core.specs.Names.{IsName}
use Rattle.answer_texts.specs.AnswerParts.{IsDestination, IsLaunch, IsPlace}
use Rattle.answer_texts.specs.AnswerLines.{launch_words, refute_lines, stop_name, where_words, word_words}
use Rattle.denali_run.proofs.ResultLines.{answered_lines, below_lines, goal_lines, goals_lines, matched_lines}
use Rattle.denali_run.specs.MatchedGoals.{IsMatched, IsSettings}
use Rattle.denali_run.specs.Right.{AreRefutedBelow, IsTooFew, one_less, Right}
use Rattle.denali_run.specs.declared.results.Answered.{Answered}
use Rattle.denali_run.specs.declared.results.Answered.TheVariants.{Scheduled, Nowhere, SpentConflicts, SpentSize, NoWorld}
use Rattle.denali_run.specs.declared.results.Matched.{Matched}
use Rattle.denali_run.specs.declared.settings.Settings.{Settings}
use Rattle.denali_run.proofs.LineWords.{AreWords, no_words, a_word, can_be, CanBeLines, no_lines, a_line, lines_from, lines_of, and_lines}
use Rattle.denali_run.proofs.LinesApart.{words_placed}
use Rattle.denali_run.proofs.ReadBackLaws.{Laws}
use Rattle.denali_run.proofs.SameLaunches.{name_at, any_slot, are_placed, few_sets, few_targets}
use Rattle.denali_run.proofs.SameParts.{head_same, rest_same}
use Rattle.denali_run.proofs.SameRefutations.{readable}
use Rattle.denali_run.proofs.TargetPlaces.{are_places}

module _ (laws : Laws) where
  -- ---- the places of targets

  module _ (g : LaunchGraph) (is : IsLaunchGraph g) where
    place_line : (w : Where) → IsPlace w → CanBeLine (where_words w)
    place_line w place =
        can_be
        (a_word (record { some = λ e. cc; printed = refl })
        (a_word (laws.name w.name place.0)
        (a_word (let low = place.1 in laws.number w.reg (omega (arith, low))) no_words)))

    pub where_lines : (table : Table) (al : Allocation) (ls : List Launch) (items : List Item) (wheres : List Where)
        → IsListing g table al ls items wheres → CanBeLines (map where_words wheres)
    where_lines table al ls items wheres listing =
        lines_of where_words IsPlace place_line wheres (are_places g is table al ls items wheres listing)

  -- ---- launches and words

  pin_word : (o : Option ℕ) → IsSomeAnd o (λ r. r < 31) → AreWords (pin_words o)
  pin_word None low = no_words
  pin_word (Some r) low = a_word (laws.number r (omega (arith, low))) no_words

  destination_word : (g : LaunchGraph) (to : To) → IsDestination g to → AreWords (pin_words (pin_of g to))
  destination_word g Pool at = no_words
  destination_word g (Set j) at = pin_word (pin_of g (Set j)) at.1

  launch_line : (table : Table) → All (λ (s : Slot). IsName s.name) table.slots → (g : LaunchGraph) (l : Launch)
      → IsLaunch table g l → CanBeLine (launch_words table g l)
  launch_line table named g l at =
      can_be
      (a_word (record { some = λ e. cc; printed = refl })
      (a_word (let low = at.0 in laws.number l.cycle (omega (arith, low)))
      (a_word
      (subst IsLineWord (sym (name_at table.slots l.slot any_slot at.1))
      (laws.name (get_or table.slots l.slot any_slot).name (named l.slot any_slot at.1)))
      (a_word (let low = at.2 in laws.number l.row (omega (arith, low))) (destination_word g l.to at.4)))))

  word_lines : (instrs : List Instr) (words : List ℕ) → All (λ word. word < 2 ^ 32) words → map decoded words ≡ map Some instrs
      → CanBeLines (map word_words words)
  word_lines instrs [] low is = no_lines
  word_lines [] (w ∷ ws) low is = cc
  word_lines (i ∷ instrs) (w ∷ ws) low is =
      a_line
      (laws.word_line w i (All-head (λ word. word < 2 ^ 32) w ws low)
      (head_same (decoded w) (Some i) (map decoded ws) (map Some instrs) is))
      (word_lines instrs ws (All-tail (λ word. word < 2 ^ 32) w ws low)
      (rest_same (decoded w) (Some i) (map decoded ws) (map Some instrs) is))

  -- ---- refutations

  count_line : (a : List ℕ) (j n : ℕ) → IsLineWord a → j < 2 ^ 31 → n < 2 ^ 31
      → CanBeLine (a ∷ decimal j ∷ decimal n ∷ [])
  count_line a j n is low few =
      can_be
      (a_word is
      (a_word (laws.number j (omega (arith, low))) (a_word (laws.number n (omega (arith, few))) no_words)))

  block_lines : (a : List ℕ) (j : ℕ) (lines : List Line) → IsLineWord a → j < 2 ^ 31
      → All IsReadableLine lines × (length lines < 2 ^ 31)
      → CanBeLines ((a ∷ decimal j ∷ decimal (length lines) ∷ []) ∷ map line_words lines)
  block_lines a j lines is low can =
      a_line (count_line a j (length lines) is low can.1)
      (lines_from (map line_words lines)
      (subst (All CanBeLine) (words_placed 0 (map line_words lines))
      (laws.each 0 _ _ (laws.refutation_lines 0 lines can.0))))

  few_readable : (f : ℕ → Formula) (g : LaunchGraph) (table : Table) (al : Allocation) (conflicts j : ℕ) (lines : List Line)
      → conflicts ≤ 1000000 → IsTooFew f g table al conflicts j lines
      → All IsReadableLine lines × (length lines < 2 ^ 31)
  few_readable f g table al conflicts j lines most refuted =
      readable laws.accepted (f j) lines refuted.none_fits.within refuted.refutes.accepted
      (let few : length lines ≤ conflicts = refuted.few in omega (arith, few, most))

  below_can : (f : ℕ → Formula) (g : LaunchGraph) (table : Table) (al : Allocation) (conflicts k : ℕ) (lines : Option Lines) → k ≤ most_cycles
      → conflicts ≤ 1000000 → AreRefutedBelow f g table al conflicts k lines → CanBeLines (below_lines k lines)
  below_can f g table al conflicts k None low most are = no_lines
  below_can f g table al conflicts k (Some lines) low most (one_less {k = j} refuted) =
      block_lines (codes "refute") (j + 1 - 1) lines.lines (record { some = λ e. cc; printed = refl })
      (omega (arith, low)) (few_readable f g table al conflicts j lines.lines most refuted)

  refuted_can : (f : ℕ → Formula) (g : LaunchGraph) (table : Table) (al : Allocation) (conflicts k after : ℕ) (lines : Lines)
      → after ≡ k + 1 → k ≤ most_cycles → conflicts ≤ 1000000 → AreRefutedBelow f g table al conflicts after (Some lines)
      → CanBeLines (refute_lines k lines.lines)
  refuted_can f g table al conflicts k after lines is low most (one_less {k = j} refuted) =
      block_lines (codes "refute") k lines.lines (record { some = λ e. cc; printed = refl }) (omega (arith, low))
      (few_readable f g table al conflicts j lines.lines most refuted)

  -- ---- graphs

  stop_word : (stop : Stop) → IsLineWord (stop_name stop)
  stop_word Quiet = record { some = λ e. cc; printed = refl }
  stop_word Rounds = record { some = λ e. cc; printed = refl }
  stop_word Full = record { some = λ e. cc; printed = refl }

  matched_can : (m : Matched) → IsLaunchGraph m.graph → m.rounds < 2 ^ 31 → CanBeLines (matched_lines m)
  matched_can m is low =
      a_line
      (can_be
      (a_word (record { some = λ e. cc; printed = refl })
      (a_word (laws.number m.rounds (omega (arith, low)))
      (a_word (record { some = λ e. cc; printed = refl }) (a_word (stop_word m.stop) no_words)))))
      (lines_from (graph_lines (said m.graph)) (laws.graph_words m.graph is))

  -- ---- results

  number_line : (a : List ℕ) (k : ℕ) → IsLineWord a → k ≤ most_cycles → CanBeLine (a ∷ decimal k ∷ [])
  number_line a k is low = can_be (a_word is (a_word (laws.number k (omega (arith, low))) no_words))

  module _ (input : InputTree) (s : Settings) (is : IsInput input) (set : IsSettings s) where
    pub rounds_low : (goal : GoalTree) (m : Matched) → IsMatched input goal s m → m.rounds < 2 ^ 31
    rounds_low goal m matched =
        (let few = set.rounds in let reached : m.rounds ≤ s.rounds = matched.reached.0 in omega (arith, few, reached))

    pub cycles_low : (k : ℕ) → k ≤ s.cycles → k ≤ most_cycles
    cycles_low k low = (let most = set.cycles in omega (arith, most, low))

    front : (goal : GoalTree) (m : Matched) → IsMatched input goal s m → CanBeLines (matched_lines m)
    front goal m matched = matched_can m matched.graph (rounds_low goal m matched)

    answered_can : (goal : GoalTree) → length goal.sets ≤ 16 → (r : Answered) → Right input goal s r → CanBeLines (answered_lines input.table r)
    answered_can goal small (Scheduled f) right =
        let low : f.k ≤ most_cycles = cycles_low f.k right.1 in
        and_lines _ (front goal f.matched right.0)
        (a_line (number_line (codes "scheduled") f.k (record { some = λ e. cc; printed = refl }) low)
        (and_lines _
        (lines_of (launch_words input.table f.matched.graph) (IsLaunch input.table f.matched.graph)
        (launch_line input.table is.slots f.matched.graph) f.schedule.launches
        (are_placed f.matched.graph right.0.graph (few_sets input goal f.matched.graph right.0.stands small) laws.slots
        input.table is.table s.allocation f.k f.schedule.launches low right.2.fits))
        (and_lines _ (word_lines (instrs_of f.listing.items) f.words right.2.low right.2.words)
        (and_lines _
        (where_lines f.matched.graph right.0.graph input.table s.allocation f.schedule.launches f.listing.items f.listing.wheres
        right.2.listing.is)
        (below_can right.3.clauses_for f.matched.graph input.table s.allocation s.conflicts f.k f.refutation low set.conflicts.1
        right.3.holds.1.refuted)))))
    answered_can goal small (Nowhere m) right =
        let low : m.k ≤ most_cycles = cycles_low m.k (let same = right.1 in omega (arith, same)) in
        and_lines _ (front goal m.matched right.0)
        (a_line (number_line (codes "none") m.k (record { some = λ e. cc; printed = refl }) low)
        (refuted_can right.2.clauses_for m.matched.graph input.table s.allocation s.conflicts m.k (m.k + 1) m.refutation refl low
        set.conflicts.1 right.2.holds.refuted))
    answered_can goal small (SpentConflicts t) right =
        let low : t.k ≤ most_cycles = cycles_low t.k right.1 in
        and_lines _ (front goal t.matched right.0)
        (a_line
        (can_be
        (a_word (record { some = λ e. cc; printed = refl })
        (a_word (record { some = λ e. cc; printed = refl })
        (a_word (laws.number t.k (omega (arith, low))) no_words))))
        (and_lines _ (below_can right.2.clauses_for t.matched.graph input.table s.allocation s.conflicts t.k t.refutation low set.conflicts.1
        right.2.holds.2.refuted)
        (block_lines (codes "lemmas") t.k t.lemmas.lines (record { some = λ e. cc; printed = refl }) (omega (arith, low))
        (readable laws.accepted (right.2.clauses_for t.k) t.lemmas.lines right.2.holds.0
        right.2.holds.1.accepted (let count = right.2.holds.1.count in let most = set.conflicts.1 in omega (arith, count, most))))))
    answered_can goal small (SpentSize l) right =
        let low : l.k ≤ most_cycles = cycles_low l.k right.1 in
        and_lines _ (front goal l.matched right.0)
        (a_line
        (can_be
        (a_word (record { some = λ e. cc; printed = refl })
        (a_word (record { some = λ e. cc; printed = refl })
        (a_word (laws.number l.k (omega (arith, low)))
        (a_word (laws.number l.vars right.2) (a_word (laws.number l.clauses right.3) no_words))))))
        (below_can right.4.clauses_for l.matched.graph input.table s.allocation s.conflicts l.k l.refutation low set.conflicts.1
        right.4.holds.1.refuted))
    answered_can goal small (NoWorld class a b) right =
        a_line
        (can_be
        (a_word (record { some = λ e. cc; printed = refl })
        (a_word (let low : class < 2 ^ 31 = right.1 in laws.number class (omega (arith, low)))
        (a_word (laws.number a right.2) (a_word (laws.number b right.3) no_words)))))
        no_lines

    goal_can : (goal : GoalTree) → length goal.sets ≤ 16 → (r : Answered) → IsName goal.name → Right input goal s r
        → CanBeLines (goal_lines input.table goal.name r)
    goal_can goal small r named right =
        a_line (can_be (a_word (record { some = λ e. cc; printed = refl }) (a_word (laws.name goal.name named) no_words)))
        (and_lines _ (answered_can goal small r right)
        (a_line (can_be (a_word (record { some = λ e. cc; printed = refl }) no_words)) no_lines))

    -- the lines of all goals
    pub goals_can : (goals : List GoalTree) (results : List Answered) → All (IsGoal input.ops) goals
        → AllZip (λ goal answered. Right input goal s answered) goals results
        → CanBeLines (goals_lines input.table goals results)
    goals_can [] [] each right = no_lines
    goals_can [] (r ∷ rs) each right = absurd right
    goals_can (goal ∷ goals) [] each right = absurd right
    goals_can (goal ∷ goals) (r ∷ rs) each right =
        and_lines _
        (goal_can goal (few_targets input goal (All-head (IsGoal input.ops) goal goals each)) r
        (All-head (IsGoal input.ops) goal goals each).named.own right.0)
        (goals_can goals rs (All-tail (IsGoal input.ops) goal goals each) right.1)
