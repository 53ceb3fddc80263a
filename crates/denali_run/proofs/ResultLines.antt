-- The lines of results, kind by kind, as their answers print them.
use Rattle.std.proofs.Common.{◌≡◌, ℕ, ◌-◌, List, [], ◌∷◌, ◌++◌, map, refl, sym, ap, ◌∙◌, ◌+◌, arith, append_assoc, Option, None, Some}
use Rattle.std.specs.List.{flat_map}
use Rattle.std.proofs.lemmas.List.Concat.{flat_map-cons}
use Rattle.answer_texts.specs.AnswerLines.{launch_words, word_words, where_words, refute_lines, lemmas_lines, rounds_words, scheduled_words, none_words, conflicts_words, size_words, noworld_words, goal_words, end_words, head_lines, answer_lines}
use Rattle.answer_texts.specs.AnswerLines as format
use Rattle.cnf_core.specs.declared.line.Lines.{Lines}
use Rattle.goal_meaning.specs.Views.{GoalTree, InputTree}
use Rattle.launch_graph.specs.GraphLines.{graph_lines, said}
use Rattle.machine_table.specs.declared.tables.Table.{Table}
use Rattle.text_core.specs.LineTexts.{Words}
use Rattle.denali_run.specs.ClaimedResults.{answer_to, claimed, encoding_number, goals_claimed, version_of}
use Rattle.denali_run.specs.declared.results.Answered.{Answered}
use Rattle.denali_run.specs.declared.results.Answered.TheVariants.{Scheduled, Nowhere, SpentConflicts, SpentSize, NoWorld}
use Rattle.denali_run.specs.declared.results.Matched.{Matched}
use Rattle.denali_run.specs.declared.settings.Settings.{Settings}
use Rattle.denali_run.specs.Encodings.{encoding_in}

-- those for k - 1 cycles, where there are some
abbrev pub below_lines : ℕ → Option Lines → List Words
below_lines k None = []
below_lines k (Some lines) = refute_lines (k - 1) lines.lines

abbrev pub matched_lines : Matched → List Words
matched_lines m = rounds_words m.rounds m.stop ∷ graph_lines (said m.graph)

-- what stands between a goal's first and last line
abbrev pub answered_lines : Table → Answered → List Words
answered_lines table (Scheduled f) =
    matched_lines f.matched
    ++ (scheduled_words f.k
    ∷ (map (launch_words table f.matched.graph) f.schedule.launches
    ++ (map word_words f.words ++ (map where_words f.listing.wheres ++ below_lines f.k f.refutation))))
answered_lines table (Nowhere m) = matched_lines m.matched ++ (none_words m.k ∷ refute_lines m.k m.refutation.lines)
answered_lines table (SpentConflicts t) =
    matched_lines t.matched
    ++ (conflicts_words t.k ∷ (below_lines t.k t.refutation ++ lemmas_lines t.k t.lemmas.lines))
answered_lines table (SpentSize l) =
    matched_lines l.matched ++ (size_words l.k l.vars l.clauses ∷ below_lines l.k l.refutation)
answered_lines table (NoWorld class a b) = noworld_words class a b ∷ []

abbrev pub goal_lines : Table → List ℕ → Answered → List Words
goal_lines table name answered = goal_words name ∷ (answered_lines table answered ++ (end_words ∷ []))

-- each goal with its result
abbrev pub goals_lines : Table → List GoalTree → List Answered → List Words
goals_lines table (goal ∷ goals) (answered ∷ more) =
    goal_lines table goal.name answered ++ goals_lines table goals more
goals_lines table _ _ = []

-- ---- they are the lines of what is claimed

same_below : (k : ℕ) (lines : Option Lines) → below_lines k lines ≡ format.refute_part (k - 1) lines
same_below k None = refl
same_below k (Some lines) = refl

one_less : (k : ℕ) → k ≡ k + 1 - 1
one_less k = omega arith

pub same_goal : (table : Table) (name : List ℕ) (r : Answered)
    → goal_lines table name r ≡ format.goal_lines table (claimed name r)
same_goal table name (Scheduled f) =
    ap (λ b. goal_words name ∷ ((matched_lines f.matched ++ (scheduled_words f.k
    ∷ (map (launch_words table f.matched.graph) f.schedule.launches
    ++ (map word_words f.words ++ (map where_words f.listing.wheres ++ b))))) ++ (end_words ∷ [])))
    (same_below f.k f.refutation)
    ∙ simp append_assoc
same_goal table name (Nowhere m) =
    ap (λ k. goal_words name ∷ ((matched_lines m.matched ++ (none_words m.k ∷ refute_lines k m.refutation.lines))
    ++ (end_words ∷ []))) (one_less m.k)
    ∙ simp append_assoc
same_goal table name (SpentConflicts t) =
    ap (λ b. goal_words name ∷ ((matched_lines t.matched ++ (conflicts_words t.k
    ∷ (b ++ lemmas_lines t.k t.lemmas.lines))) ++ (end_words ∷ [])))
    (same_below t.k t.refutation)
    ∙ simp append_assoc
same_goal table name (SpentSize l) =
    ap (λ b. goal_words name ∷ ((matched_lines l.matched ++ (size_words l.k l.vars l.clauses ∷ b))
    ++ (end_words ∷ [])))
    (same_below l.k l.refutation)
    ∙ simp append_assoc
same_goal table name (NoWorld class a b) = refl

pub same_goals : (table : Table) (goals : List GoalTree) (results : List Answered)
    → goals_lines table goals results ≡ flat_map (format.goal_lines table) (goals_claimed goals results)
same_goals table [] [] = refl
same_goals table [] (r ∷ rs) = refl
same_goals table (goal ∷ goals) [] = refl
same_goals table (goal ∷ goals) (r ∷ rs) =
    ap (λ t. t ++ goals_lines table goals rs) (same_goal table goal.name r)
    ∙ ap (λ t. format.goal_lines table (claimed goal.name r) ++ t) (same_goals table goals rs)
    ∙ sym (flat_map-cons (format.goal_lines table) (claimed goal.name r) (goals_claimed goals rs))

abbrev pub whole_head : Settings → InputTree → List Words
whole_head s input =
    head_lines (version_of (encoding_in s)) (encoding_number (encoding_in s)) input.table input.builtin s.library

pub same_answer : (s : Settings) (input : InputTree) (results : List Answered)
    → whole_head s input ++ goals_lines input.table input.goals results
    ≡ answer_lines (answer_to s input results)
same_answer s input results =
    ap (λ t. whole_head s input ++ t) (same_goals input.table input.goals results)
