-- Lines that begin with what goals print say them.
use Rattle.std.proofs.Common.{◌≡◌, ℕ, ◌+◌, ◌<◌, ◌≤◌, ◌^◌, List, [], ◌∷◌, ◌++◌, length, inl, inr, refl, sym, ap, subst, ◌∙◌, arith, append_assoc, append-nil, Option, Some}
use Rattle.std.specs.Prelude.{All}
use Rattle.std.specs.List.{flat_map}
use Rattle.std.proofs.lemmas.List.Concat.{flat_map-cons}
use Rattle.std.proofs.lemmas.List.{length_push}
use Rattle.std.proofs.lemmas.List.Elements.{All-head, All-tail}
use Rattle.cnf_core.specs.declared.line.Lines.{Lines}
use Rattle.launch_graph.specs.GraphLines.{graph_lines, said}
use Rattle.launch_graph.specs.GraphTexts.{EndsGraph, IsGraphOf}
use Rattle.launch_graph.specs.LineFormats.{words_between, words_from}
use Rattle.graph_meaning.specs.Graphs.{HasNoPins}
use Rattle.graph_meaning.specs.WellFormed.{IsLaunchGraph}
use Rattle.graph_meaning.specs.declared.graphs.LaunchGraph.{LaunchGraph}
use Rattle.machine_table.specs.declared.tables.Table.{Table}
use Rattle.graph_meaning.specs.declared.stops.Stop.{Stop}
use Rattle.text_core.specs.Lines.{Line}
use Rattle.text_core.specs.LineTexts.{Words}
use Rattle.text_core.specs.Names.{IsName}
use Rattle.answer_texts.specs.AnswerLines.{rounds_words, noworld_words, goal_words, end_words, claim_part, refuted_below, refuted_cycles, refute_part, lemmas_part, goal_lines}
use Rattle.answer_texts.specs.AnswerParts.{GoTogether, IsGoalName, IsEnd, IsBodyLine, GraphPart, no_world_body, BodyPart, claimed_of, GoalPart, AreGoals, no_goals, more}
use Rattle.answer_texts.specs.Printable.{IsGraphClaim, AreLinesBelow, IsPrintableGoal, no_world, worked}
use Rattle.answer_texts.specs.declared.answers.Claim.{Claim}
use Rattle.answer_texts.specs.declared.answers.Claimed.{Claimed}
use Rattle.answer_texts.specs.declared.parts.Body.{Body}
use Rattle.answer_texts.specs.declared.parts.BodyLine.TheVariants as bodies
use Rattle.answer_texts.proofs.PrintedRest.{IsRest, all_ahead}
use Rattle.answer_texts.proofs.PrintedParts.{StandsBefore, says_stands, line_stands, leads_stands}
use Rattle.answer_texts.proofs.PrintedClaims.{LinesAreAmong, claim_ends_graph, claim_stands}

-- lines that begin with what a graph of the version prints, and go on with nothing that a graph has, have the graph
abbrev pub PrintedAreGraphs : ℕ → Type 0
PrintedAreGraphs version =
    (lines : List Line) (from next : ℕ) (g : LaunchGraph) → IsLaunchGraph g → (version ≡ 1 → HasNoPins g)
    → length g.rows ≤ 1000000 → from ≤ next → next ≤ length lines → words_between lines from next ≡ graph_lines (said g)
    → EndsGraph (words_from lines next) → IsGraphOf version lines from next g

-- so it is of those without pins in version 1, and of all from version 2 on
abbrev pub PlainAreGraphs : Type 0
PlainAreGraphs =
    (lines : List Line) (from next : ℕ) (g : LaunchGraph) → IsLaunchGraph g → HasNoPins g → length g.rows ≤ 1000000
    → from ≤ next → next ≤ length lines → words_between lines from next ≡ graph_lines (said g)
    → EndsGraph (words_from lines next) → IsGraphOf 1 lines from next g

abbrev pub PinnedAreGraphs : Type 0
PinnedAreGraphs =
    (version : ℕ) (lines : List Line) (from next : ℕ) (g : LaunchGraph) → 2 ≤ version → IsLaunchGraph g
    → length g.rows ≤ 1000000
    → from ≤ next → next ≤ length lines → words_between lines from next ≡ graph_lines (said g)
    → EndsGraph (words_from lines next) → IsGraphOf version lines from next g

pub printed_are_graphs : PlainAreGraphs → PinnedAreGraphs → (version encoding : ℕ) → GoTogether version encoding
    → PrintedAreGraphs version
printed_are_graphs first second version encoding (inl pair) lines from next g is plain few order within words ends =
    subst (λ v. IsGraphOf v lines from next g) (sym pair.0)
    (first lines from next g is (plain pair.0) few order within words ends)
printed_are_graphs first second version encoding (inr (inl pair)) lines from next g is plain few order within words ends =
    second version lines from next g (let two = pair.0 in omega (arith, two)) is few order within words ends
printed_are_graphs first second version encoding (inr (inr pair)) lines from next g is plain few order within words ends =
    second version lines from next g (let three = pair.0 in omega (arith, three)) is few order within words ends

join_behind : (g c r l e b : List Words) → (g ++ (c ++ (r ++ (l ++ e)))) ++ b ≡ g ++ (c ++ (r ++ (l ++ (e ++ b))))
join_behind g c r l e b =
    append_assoc g (c ++ (r ++ (l ++ e))) b
    ∙ ap (λ x. g ++ x) (append_assoc c (r ++ (l ++ e)) b
    ∙ ap (λ x. c ++ x) (append_assoc r (l ++ e) b ∙ ap (λ x. r ++ x) (append_assoc l e b)))

module _ (lines : List Line) (among : LinesAreAmong) (version : ℕ) (graphs : PrintedAreGraphs version) (table : Table) where
  graph_stands : (behind : List Words) (from : ℕ) (g : LaunchGraph) → IsLaunchGraph g → (version ≡ 1 → HasNoPins g)
      → length g.rows ≤ 1000000
      → EndsGraph behind → IsRest lines from (graph_lines (said g) ++ behind)
      → StandsBefore lines behind (GraphPart lines version) from g
  graph_stands behind from g is plain few ends a =
      let h = all_ahead lines from (graph_lines (said g)) behind a in
      let next : ℕ = from + length (graph_lines (said g)) in
      record {
        next = next;
        is = graphs lines from next g is plain few (omega arith) h.low h.here (subst EndsGraph (sym h.rest.are) ends);
        rest = h.rest;
      }

  -- ---- one goal

  goal_of : (name : List ℕ) (body : Body) (words : List Words) (behind : List Words) (from : ℕ) → IsName name
      → ((middle : ℕ) → IsRest lines middle (words ++ (end_words ∷ behind))
      → StandsBefore lines (end_words ∷ behind) (BodyPart lines version table) middle body)
      → IsRest lines from (goal_words name ∷ (words ++ (end_words ∷ behind)))
      → StandsBefore lines behind (GoalPart lines version table) from (claimed_of name body)
  goal_of name body words behind from named stands a =
      leads_stands lines _ _ (words ++ (end_words ∷ behind)) behind from name (claimed_of name body)
      (line_stands lines IsGoalName (words ++ (end_words ∷ behind)) from (goal_words name) name
      (record { named = named; is = refl }) a)
      (λ middle rest.
      leads_stands lines _ _ (end_words ∷ behind) behind middle body (claimed_of name body) (stands middle rest)
      (λ high also.
      leads_stands lines _ _ behind behind high tt (claimed_of name body)
      (line_stands lines IsEnd behind high end_words tt refl also)
      (λ end last. says_stands lines behind end (claimed_of name body) last)))

  worked_of : (rounds : ℕ) (stop : Stop) (g : LaunchGraph) (claim : Claim) (refute : Option Lines) (behind : List Words)
      (from : ℕ) → IsLaunchGraph g → (version ≡ 1 → HasNoPins g) → length g.rows ≤ 1000000 → rounds < 2 ^ 31
      → IsGraphClaim table g claim → AreLinesBelow (refuted_below claim) refute
      → IsRest lines from (rounds_words rounds stop ∷ (graph_lines (said g)
      ++ (claim_part table (Some g) claim ++ (refute_part (refuted_cycles claim) refute ++ (lemmas_part claim ++ (end_words ∷ behind))))))
      → StandsBefore lines (end_words ∷ behind) (BodyPart lines version table) from
      (record { graph = Some g; rounds = rounds; stop = stop; claim = claim; refute = refute })
  worked_of rounds stop g claim refute behind from is plain few low fine below a =
      let body : Body = record { graph = Some g; rounds = rounds; stop = stop; claim = claim; refute = refute } in
      let tail : List Words = end_words ∷ behind in
      let s : List Words = refute_part (refuted_cycles claim) refute ++ (lemmas_part claim ++ tail) in
      let t : List Words = claim_part table (Some g) claim ++ s in
      leads_stands lines _ _ (graph_lines (said g) ++ t) tail from (bodies.Rounds rounds stop) body
      (line_stands lines IsBodyLine (graph_lines (said g) ++ t) from (rounds_words rounds stop) (bodies.Rounds rounds stop)
      (low, refl) a)
      (λ middle rest.
      leads_stands lines _ _ t tail middle g body
      (graph_stands t middle g is plain few (claim_ends_graph table g claim s fine) rest)
      (λ high also.
      leads_stands lines _ _ tail tail high (claim, refute) body
      (claim_stands lines among table g behind claim refute high fine below also)
      (λ end last. says_stands lines tail end body last)))

  goal_stands : (c : Claimed) (behind : List Words) (from : ℕ) → IsPrintableGoal version table c
      → IsRest lines from (goal_lines table c ++ behind) → StandsBefore lines behind (GoalPart lines version table) from c
  goal_stands c behind from (no_world {name = name} {class = class} {a = m} {b = n} named below first second) a =
      let body : Body = no_world_body class m n in
      goal_of name body (noworld_words class m n ∷ []) behind from named
      (λ middle rest.
      leads_stands lines _ _ (end_words ∷ behind) (end_words ∷ behind) middle (bodies.NoWorld class m n) body
      (line_stands lines IsBodyLine (end_words ∷ behind) middle (noworld_words class m n) (bodies.NoWorld class m n)
      (below, first, second, refl) rest)
      (λ end last. says_stands lines (end_words ∷ behind) end body last))
      a
  goal_stands c behind from
      (worked {name = name} {g = g} {rounds = rounds} {stop = stop} {claim = claim} {refute = refute} named is plain few low fine
      below) a =
      let body : Body = record { graph = Some g; rounds = rounds; stop = stop; claim = claim; refute = refute } in
      let graph : List Words = rounds_words rounds stop ∷ graph_lines (said g) in
      let cl : List Words = claim_part table (Some g) claim in
      let r : List Words = refute_part (refuted_cycles claim) refute in
      let l : List Words = lemmas_part claim in
      let whole : (graph ++ (cl ++ (r ++ l))) ++ (end_words ∷ behind) ≡ graph ++ (cl ++ (r ++ (l ++ (end_words ∷ behind)))) =
      append_assoc graph (cl ++ (r ++ l)) (end_words ∷ behind)
      ∙ ap (λ x. graph ++ x) (append_assoc cl (r ++ l) (end_words ∷ behind)
      ∙ ap (λ x. cl ++ x) (append_assoc r l (end_words ∷ behind))) in
      goal_of name body (graph ++ (cl ++ (r ++ l))) behind from named
      (λ middle rest.
      worked_of rounds stop g claim refute behind middle is plain few low fine below (subst (IsRest lines middle) whole rest))
      (subst (λ x. IsRest lines from (goal_words name ∷ x)) (join_behind graph cl r l (end_words ∷ []) behind ∙ sym whole) a)

  -- ---- goals one behind another

  pub record GoalsStand (from : ℕ) (goals : List Claimed) : Type 0 where
    pub next : ℕ
    pub are : AreGoals lines version table from next goals
    pub rest : IsRest lines next []

  goals_behind : (from middle : ℕ) (before goals : List Claimed) → AreGoals lines version table from middle before
      → length before + length goals ≤ 64 → All (IsPrintableGoal version table) goals
      → IsRest lines middle (flat_map (goal_lines table) goals) → GoalsStand from (before ++ goals)
  goals_behind from middle before [] are few fine a =
      subst (GoalsStand from) (sym (append-nil before)) (record { next = middle; are = are; rest = a })
  goals_behind from middle before (c ∷ goals) are few fine a =
      let one = goal_stands c (flat_map (goal_lines table) goals) middle (All-head (IsPrintableGoal version table) c goals fine)
      (subst (IsRest lines middle) (flat_map-cons (goal_lines table) c goals) a) in
      let count = length_push before c in
      subst (GoalsStand from) (append_assoc before (c ∷ []) goals)
      (goals_behind from one.next (before ++ c ∷ []) goals (more are (omega (arith, few)) one.is) (omega (arith, few, count))
      (All-tail (IsPrintableGoal version table) c goals fine) one.rest)

  pub goals_stand : (from : ℕ) (goals : List Claimed) → length goals ≤ 64 → All (IsPrintableGoal version table) goals
      → IsRest lines from (flat_map (goal_lines table) goals) → GoalsStand from goals
  goals_stand from goals few fine a = goals_behind from from [] goals no_goals (omega (arith, few)) fine a
