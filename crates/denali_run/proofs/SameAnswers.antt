-- Right results whose lines are equal.
use Rattle.std.proofs.Common.{◌≡◌, ℕ, ◌+◌, ◌<◌, ◌≤◌, ◌^◌, List, [], ◌∷◌, ◌++◌, length, map, refl, sym, ap, subst, ◌∙◌, append_assoc, arith, codes, decimal, Some}
use Rattle.std.specs.Prelude.{All}
use Rattle.std.specs.List.{AllZip}
use Rattle.std.proofs.lemmas.List.Elements.{All-head, All-tail}
use Rattle.schedule_meaning.specs.Limits.{most_cycles}
use Rattle.alpha_encode.specs.Decoded.{decoded}
use Rattle.alpha_encode.specs.declared.instructions.Instr.{Instr}
use Rattle.cnf_core.specs.declared.line.Lines.{Lines}
use Rattle.goal_meaning.specs.Views.{GoalTree, InputTree}
use Rattle.goal_meaning.specs.WellFormed.{IsGoal, IsInput}
use Rattle.launch_graph.specs.GraphLines.{graph_lines, said}
use Rattle.machine_table.specs.declared.tables.Table.{Table}
use Rattle.register_assign.specs.Listings.{IsListing}
use Rattle.register_assign.specs.Outcomes.{AreWordsOf, instrs_of}
use Rattle.text_core.specs.LineTexts.{Words}
use Rattle.answer_texts.specs.AnswerLines.{conflicts_words, end_words, goal_words, launch_words, lemmas_lines, none_words, noworld_words, refute_lines, rounds_words, scheduled_words, size_words, where_words, word_words}
use Rattle.answer_texts.specs.AnswerParts.{IsLaunch}
use Rattle.denali_run.proofs.ResultLines.{answered_lines, below_lines, goals_lines, matched_lines}
use Rattle.denali_run.specs.MatchedGoals.{IsMatched, IsSettings}
use Rattle.denali_run.specs.Right.{AreRefutedBelow, Right}
use Rattle.denali_run.specs.declared.results.Answered.{Answered}
use Rattle.denali_run.specs.declared.results.Answered.TheVariants.{Scheduled, Nowhere, SpentConflicts, SpentSize, NoWorld}
use Rattle.denali_run.specs.declared.results.Found.{Found}
use Rattle.denali_run.specs.declared.results.Large.{Large}
use Rattle.denali_run.specs.declared.results.Matched.{Matched}
use Rattle.denali_run.specs.declared.results.Missing.{Missing}
use Rattle.denali_run.specs.declared.results.Tried.{Tried}
use Rattle.denali_run.specs.declared.settings.Settings.{Settings}
use Rattle.denali_run.proofs.PrintedAnswers.{cycles_low, rounds_low}
use Rattle.denali_run.proofs.ReadBackLaws.{Laws}
use Rattle.denali_run.proofs.ResultParts.{behind, cycles_same, kind_of, no_launch, no_target, number_same, same_found, same_large, same_missing, same_tried}
use Rattle.denali_run.proofs.SameGraphs.{matched_once}
use Rattle.denali_run.proofs.SameLaunches.{BeginsNoLaunch, are_placed, few_sets, few_targets, launches_once}
use Rattle.denali_run.proofs.SameParts.{begin_same, byte_same, head_same, rest_same, cons_same, append_same}
use Rattle.denali_run.proofs.SameRefutations.{below_once, block_once, one_less_than, readable, same_lines}

module _ (laws : Laws) where
  -- ---- words of instructions

  -- words of the same instructions
  words_once : (instrs : List Instr) (words others : List ℕ) → All (λ word. word < 2 ^ 32) words
      → All (λ word. word < 2 ^ 32) others
      → map decoded words ≡ map Some instrs → map decoded others ≡ map Some instrs → words ≡ others
  words_once instrs [] [] low less is are = refl
  words_once [] [] (v ∷ vs) low less is are = cc
  words_once (i ∷ instrs) [] (v ∷ vs) low less is are = cc
  words_once [] (w ∷ ws) others low less is are = cc
  words_once (i ∷ instrs) (w ∷ ws) [] low less is are = cc
  words_once (i ∷ instrs) (w ∷ ws) (v ∷ vs) low less is are =
      let one = laws.forth w i (All-head (λ word. word < 2 ^ 32) w ws low)
      (head_same (decoded w) (Some i) (map decoded ws) (map Some instrs) is) in
      let two = laws.forth v i (All-head (λ word. word < 2 ^ 32) v vs less)
      (head_same (decoded v) (Some i) (map decoded vs) (map Some instrs) are) in
      ap (λ x. x ∷ ws) (sym one.1 ∙ two.1)
      ∙ ap (λ xs. v ∷ xs)
      (words_once instrs ws vs (All-tail (λ word. word < 2 ^ 32) w ws low) (All-tail (λ word. word < 2 ^ 32) v vs less)
      (rest_same (decoded w) (Some i) (map decoded ws) (map Some instrs) is)
      (rest_same (decoded v) (Some i) (map decoded vs) (map Some instrs) are))

  module _ (input : InputTree) (s : Settings) (is : IsInput input) (set : IsSettings s) (goal : GoalTree) (small : length goal.sets ≤ 16) where
    abbrev table : Table
    table = input.table

    -- ---- the graph and the kind

    record HasGraph (r : Answered) : Type 0 where
      matched : Matched
      right : IsMatched input goal s matched
      whole : (end : List Words) → answered_lines table r ++ end
          ≡ matched_lines matched ++ (kind_of r ∷ behind table r end)

    abbrev scheduled_graph : (f : Found) → Right input goal s (Scheduled f) → HasGraph (Scheduled f)
    scheduled_graph f right = record {
      matched = f.matched;
      right = right.0;
      whole = λ end. simp append_assoc;
    }

    abbrev nowhere_graph : (m : Missing) → Right input goal s (Nowhere m) → HasGraph (Nowhere m)
    nowhere_graph m right = record {
      matched = m.matched;
      right = right.0;
      whole = λ end. append_assoc (matched_lines m.matched) (none_words m.k ∷ refute_lines m.k m.refutation.lines) end;
    }

    abbrev conflicts_graph : (t : Tried) → Right input goal s (SpentConflicts t) → HasGraph (SpentConflicts t)
    conflicts_graph t right = record {
      matched = t.matched;
      right = right.0;
      whole = λ end. simp append_assoc;
    }

    abbrev size_graph : (l : Large) → Right input goal s (SpentSize l) → HasGraph (SpentSize l)
    size_graph l right = record {
      matched = l.matched;
      right = right.0;
      whole = λ end. append_assoc (matched_lines l.matched)
          (size_words l.k l.vars l.clauses ∷ below_lines l.k l.refutation) end;
    }

    -- two results with graphs: graph, kind and what stands behind are the same
    kinds : (r q : Answered) (x y : List Words) (p : HasGraph r) (o : HasGraph q)
        → answered_lines table r ++ x ≡ answered_lines table q ++ y
        → (p.matched ≡ o.matched) × (kind_of r ≡ kind_of q) × (behind table r x ≡ behind table q y)
    kinds r q x y p o same =
        let both = matched_once laws.graphs p.matched o.matched (kind_of r ∷ behind table r x)
        (kind_of q ∷ behind table q y) p.right.graph o.right.graph
        (rounds_low laws input s is set goal p.matched p.right) (rounds_low laws input s is set goal o.matched o.right)
        (no_target r) (no_target q) (sym (p.whole x) ∙ same ∙ o.whole y) in
        let lines = cons_same (kind_of r) (kind_of q) (behind table r x) (behind table q y) both.1 in
        (both.0, lines.0, lines.1)

    -- a result with a graph isn't one without
    graph_noworld : (r : Answered) (class a b : ℕ) (x y : List Words) → HasGraph r
        → answered_lines table r ++ x ≡ answered_lines table (NoWorld class a b) ++ y → ⊥
    graph_noworld r class a b x y p same =
        (let first = cons_same (rounds_words p.matched.rounds p.matched.stop) (noworld_words class a b)
        (graph_lines (said p.matched.graph) ++ (kind_of r ∷ behind table r x)) y (sym (p.whole x) ∙ same) in
        let h : ◌≡◌ {A = ℕ} 114 110 = begin_same 0 _ _ _ _ first.0 in
        omega (arith, h))

    -- ---- results of one kind

    found_once : (f g : Found) (x y : List Words) → Right input goal s (Scheduled f) → Right input goal s (Scheduled g)
        → BeginsNoLaunch x → BeginsNoLaunch y
        → f.matched ≡ g.matched → scheduled_words f.k ≡ scheduled_words g.k
        → behind table (Scheduled f) x ≡ behind table (Scheduled g) y → (Scheduled f ≡ Scheduled g) × (x ≡ y)
    found_once f g x y p o apart alone same kind rest =
        let low : f.k ≤ most_cycles = cycles_low laws input s is set f.k p.1 in
        let less : g.k ≤ most_cycles = cycles_low laws input s is set g.k o.1 in
        let level : f.k ≡ g.k = cycles_same (codes "scheduled") f.k g.k [] [] low less kind in
        let few = few_sets input goal f.matched.graph p.0.stands small in
        let more = few_sets input goal g.matched.graph o.0.stands small in
        let launches = launches_once laws.launches table f.matched.graph is.table p.0.graph f.schedule.launches g.schedule.launches
        (map word_words f.words ++ (map where_words f.listing.wheres ++ (below_lines f.k f.refutation ++ x)))
        (map word_words g.words ++ (map where_words g.listing.wheres ++ (below_lines g.k g.refutation ++ y)))
        (are_placed f.matched.graph p.0.graph few laws.slots table is.table s.allocation f.k f.schedule.launches low p.2.fits)
        (subst (λ (m : Matched). All (IsLaunch table m.graph) g.schedule.launches) (sym same)
        (are_placed g.matched.graph o.0.graph more laws.slots table is.table s.allocation g.k g.schedule.launches less o.2.fits))
        (no_launch f x apart) (no_launch g y alone)
        (subst (λ (m : Matched). behind table (Scheduled f) x
        ≡ map (launch_words table m.graph) g.schedule.launches
        ++ (map word_words g.words ++ (map where_words g.listing.wheres ++ (below_lines g.k g.refutation ++ y)))) (sym same) rest) in
        let listed : IsListing f.matched.graph table s.allocation f.schedule.launches g.listing.items g.listing.wheres =
        subst (λ m. IsListing m.graph table s.allocation f.schedule.launches g.listing.items g.listing.wheres) (sym same)
        (subst (λ ls. IsListing g.matched.graph table s.allocation ls g.listing.items g.listing.wheres) (sym launches.0)
        o.2.listing.is) in
        let places = p.2.listing.only g.listing.items g.listing.wheres listed in
        let words : f.words ≡ g.words =
        words_once (instrs_of f.listing.items) f.words g.words p.2.low o.2.low p.2.words
        (subst (λ items. AreWordsOf items g.words) places.0 o.2.words) in
        let front : map word_words f.words ++ (map where_words f.listing.wheres ++ (below_lines g.k g.refutation ++ y))
        ≡ map word_words g.words ++ (map where_words g.listing.wheres ++ (below_lines g.k g.refutation ++ y)) =
        ap (λ ws. map word_words ws ++ (map where_words f.listing.wheres ++ (below_lines g.k g.refutation ++ y))) words
        ∙ ap (λ ps. map word_words g.words ++ (map where_words ps ++ (below_lines g.k g.refutation ++ y))) (sym places.1) in
        let below = below_once laws.accepted laws.one_line p.3.clauses_for o.3.clauses_for f.matched.graph table s.allocation s.conflicts set.conflicts.1 f.k g.k
        f.refutation g.refutation x y level p.3.holds.1.refuted
        (subst (λ m. AreRefutedBelow o.3.clauses_for m.graph table s.allocation s.conflicts g.k g.refutation) (sym same) o.3.holds.1.refuted)
        (append_same (map where_words f.listing.wheres) (below_lines f.k f.refutation ++ x)
        (below_lines g.k g.refutation ++ y)
        (append_same (map word_words f.words) (map where_words f.listing.wheres ++ (below_lines f.k f.refutation ++ x))
        (map where_words f.listing.wheres ++ (below_lines g.k g.refutation ++ y)) (launches.1 ∙ sym front))) in (
          ap Scheduled (same_found f g same level launches.0 (sym places.0) (sym places.1) words below.0),
          below.1,
        )

    missing_once : (m n : Missing) (x y : List Words) → Right input goal s (Nowhere m) → Right input goal s (Nowhere n)
        → m.matched ≡ n.matched
        → behind table (Nowhere m) x ≡ behind table (Nowhere n) y → (Nowhere m ≡ Nowhere n) × (x ≡ y)
    missing_once m n x y p o same rest =
        let level : m.k ≡ n.k = p.1 ∙ sym o.1 in
        let below = below_once laws.accepted laws.one_line p.2.clauses_for o.2.clauses_for m.matched.graph table s.allocation s.conflicts set.conflicts.1
        (m.k + 1) (n.k + 1) (Some m.refutation) (Some n.refutation) x y (ap (λ k. k + 1) level) p.2.holds.refuted
        (subst (λ g. AreRefutedBelow o.2.clauses_for g.graph table s.allocation s.conflicts (n.k + 1) (Some n.refutation)) (sym same)
        o.2.holds.refuted)
        (ap (λ k. refute_lines k m.refutation.lines ++ x) (one_less_than m.k) ∙ rest
        ∙ ap (λ k. refute_lines k n.refutation.lines ++ y) (sym (one_less_than n.k))) in
        (ap Nowhere (same_missing m n same level (some_lines m.refutation n.refutation below.0)), below.1)
      where
        some_lines : (a b : Lines) → Some a ≡ Some b → a ≡ b
        some_lines a b e = cc

    conflicts_once : (t u : Tried) (x y : List Words) → Right input goal s (SpentConflicts t)
        → Right input goal s (SpentConflicts u) → t.matched ≡ u.matched → conflicts_words t.k ≡ conflicts_words u.k
        → behind table (SpentConflicts t) x ≡ behind table (SpentConflicts u) y
        → (SpentConflicts t ≡ SpentConflicts u) × (x ≡ y)
    conflicts_once t u x y p o same kind rest =
        let low : t.k ≤ most_cycles = cycles_low laws input s is set t.k p.1 in
        let less : u.k ≤ most_cycles = cycles_low laws input s is set u.k o.1 in
        let level : t.k ≡ u.k =
        cycles_same (codes "conflicts") t.k u.k [] [] low less
        (rest_same (codes "spent") (codes "spent") (codes "conflicts" ∷ decimal t.k ∷ [])
        (codes "conflicts" ∷ decimal u.k ∷ []) kind) in
        let below = below_once laws.accepted laws.one_line p.2.clauses_for o.2.clauses_for t.matched.graph table s.allocation s.conflicts set.conflicts.1 t.k u.k
        t.refutation u.refutation (lemmas_lines t.k t.lemmas.lines ++ x) (lemmas_lines u.k u.lemmas.lines ++ y) level
        p.2.holds.2.refuted
        (subst (λ m. AreRefutedBelow o.2.clauses_for m.graph table s.allocation s.conflicts u.k u.refutation) (sym same)
        o.2.holds.2.refuted) rest in
        let lemmas = block_once laws.one_line (codes "lemmas") (decimal t.k) t.lemmas.lines u.lemmas.lines x y
        (readable laws.accepted (p.2.clauses_for t.k) t.lemmas.lines p.2.holds.0 p.2.holds.1.accepted
        (let count = p.2.holds.1.count in let most = set.conflicts.1 in omega (arith, count, most)))
        (readable laws.accepted (o.2.clauses_for u.k) u.lemmas.lines o.2.holds.0 o.2.holds.1.accepted
        (let count = o.2.holds.1.count in let most = set.conflicts.1 in omega (arith, count, most)))
        (below.1 ∙ ap (λ k. lemmas_lines k u.lemmas.lines ++ y) (sym level)) in
        (ap SpentConflicts (same_tried t u same level below.0 (same_lines t.lemmas u.lemmas lemmas.0)), lemmas.1)

    size_once : (l m : Large) (x y : List Words) → Right input goal s (SpentSize l) → Right input goal s (SpentSize m)
        → l.matched ≡ m.matched
        → size_words l.k l.vars l.clauses ≡ size_words m.k m.vars m.clauses
        → behind table (SpentSize l) x ≡ behind table (SpentSize m) y → (SpentSize l ≡ SpentSize m) × (x ≡ y)
    size_once l m x y p o same kind rest =
        let low : l.k ≤ most_cycles = cycles_low laws input s is set l.k p.1 in
        let less : m.k ≤ most_cycles = cycles_low laws input s is set m.k o.1 in
        let size = rest_same (codes "spent") (codes "spent")
        (codes "size" ∷ decimal l.k ∷ decimal l.vars ∷ decimal l.clauses ∷ [])
        (codes "size" ∷ decimal m.k ∷ decimal m.vars ∷ decimal m.clauses ∷ []) kind in
        let level : l.k ≡ m.k =
        cycles_same (codes "size") l.k m.k (decimal l.vars ∷ decimal l.clauses ∷ [])
        (decimal m.vars ∷ decimal m.clauses ∷ []) low less size in
        let counts = rest_same (decimal l.k) (decimal m.k) (decimal l.vars ∷ decimal l.clauses ∷ [])
        (decimal m.vars ∷ decimal m.clauses ∷ [])
        (rest_same (codes "size") (codes "size") (decimal l.k ∷ decimal l.vars ∷ decimal l.clauses ∷ [])
        (decimal m.k ∷ decimal m.vars ∷ decimal m.clauses ∷ []) size) in
        let vars : l.vars ≡ m.vars =
        number_same l.vars m.vars (decimal l.clauses ∷ []) (decimal m.clauses ∷ []) p.2 o.2 counts in
        let clauses : l.clauses ≡ m.clauses =
        number_same l.clauses m.clauses [] [] p.3 o.3
        (rest_same (decimal l.vars) (decimal m.vars) (decimal l.clauses ∷ []) (decimal m.clauses ∷ []) counts) in
        let below = below_once laws.accepted laws.one_line p.4.clauses_for o.4.clauses_for l.matched.graph table s.allocation s.conflicts set.conflicts.1 l.k m.k
        l.refutation m.refutation x y level p.4.holds.1.refuted
        (subst (λ g. AreRefutedBelow o.4.clauses_for g.graph table s.allocation s.conflicts m.k m.refutation) (sym same)
        o.4.holds.1.refuted) rest in
        (ap SpentSize (same_large l m same level below.0 vars clauses), below.1)

    noworld_once : (class a b other c d : ℕ) (x y : List Words) → Right input goal s (NoWorld class a b)
        → Right input goal s (NoWorld other c d) → noworld_words class a b ∷ x ≡ noworld_words other c d ∷ y
        → (NoWorld class a b ≡ NoWorld other c d) × (x ≡ y)
    noworld_once class a b other c d x y p o same =
        let low : class < 2 ^ 31 = p.1 in
        let less : other < 2 ^ 31 = o.1 in
        let both = cons_same (noworld_words class a b) (noworld_words other c d) x y same in
        let all = rest_same (codes "noworld") (codes "noworld") (decimal class ∷ decimal a ∷ decimal b ∷ [])
        (decimal other ∷ decimal c ∷ decimal d ∷ []) both.0 in
        let two = rest_same (decimal class) (decimal other) (decimal a ∷ decimal b ∷ []) (decimal c ∷ decimal d ∷ []) all in
        let one = rest_same (decimal a) (decimal c) (decimal b ∷ []) (decimal d ∷ []) two in (
          ap (λ n. NoWorld n a b)
              (number_same class other (decimal a ∷ decimal b ∷ []) (decimal c ∷ decimal d ∷ []) (omega (arith, low))
              (omega (arith, less)) all)
              ∙ ap (λ n. NoWorld other n b) (number_same a c (decimal b ∷ []) (decimal d ∷ []) p.2 o.2 two)
              ∙ ap (λ n. NoWorld other c n) (number_same b d [] [] p.3 o.3 one),
          both.1,
        )

    -- ---- any results

    conflicts_size : (k : ℕ) (l : Large) → conflicts_words k ≡ size_words l.k l.vars l.clauses → ⊥
    conflicts_size k l same =
        (let h : ◌≡◌ {A = ℕ} 99 115 =
        begin_same 0 _ _ _ _
        (rest_same (codes "spent") (codes "spent") (codes "conflicts" ∷ decimal k ∷ [])
        (codes "size" ∷ decimal l.k ∷ decimal l.vars ∷ decimal l.clauses ∷ []) same) in
        omega (arith, h))

    answered_once : (r q : Answered) (x y : List Words) → Right input goal s r → Right input goal s q → BeginsNoLaunch x → BeginsNoLaunch y
        → answered_lines table r ++ x ≡ answered_lines table q ++ y → (r ≡ q) × (x ≡ y)
    answered_once (Scheduled f) (Scheduled g) x y p o apart alone same =
        let parts = kinds (Scheduled f) (Scheduled g) x y (scheduled_graph f p) (scheduled_graph g o) same in
        found_once f g x y p o apart alone parts.0 parts.1 parts.2
    answered_once (Scheduled f) (Nowhere m) x y p o apart alone same =
        let parts = kinds (Scheduled f) (Nowhere m) x y (scheduled_graph f p) (nowhere_graph m o) same in
        absurd (let h : ◌≡◌ {A = ℕ} 115 110 = begin_same 0 _ _ _ _ parts.1 in omega (arith, h))
    answered_once (Scheduled f) (SpentConflicts t) x y p o apart alone same =
        let parts = kinds (Scheduled f) (SpentConflicts t) x y (scheduled_graph f p) (conflicts_graph t o) same in
        absurd (let h : ◌≡◌ {A = ℕ} 99 112 = begin_same 1 _ _ _ _ parts.1 in omega (arith, h))
    answered_once (Scheduled f) (SpentSize l) x y p o apart alone same =
        let parts = kinds (Scheduled f) (SpentSize l) x y (scheduled_graph f p) (size_graph l o) same in
        absurd (let h : ◌≡◌ {A = ℕ} 99 112 = begin_same 1 _ _ _ _ parts.1 in omega (arith, h))
    answered_once (Scheduled f) (NoWorld class a b) x y p o apart alone same =
        absurd (graph_noworld (Scheduled f) class a b x y (scheduled_graph f p) same)
    answered_once (Nowhere m) (Scheduled f) x y p o apart alone same =
        let parts = kinds (Nowhere m) (Scheduled f) x y (nowhere_graph m p) (scheduled_graph f o) same in
        absurd (let h : ◌≡◌ {A = ℕ} 110 115 = begin_same 0 _ _ _ _ parts.1 in omega (arith, h))
    answered_once (Nowhere m) (Nowhere n) x y p o apart alone same =
        let parts = kinds (Nowhere m) (Nowhere n) x y (nowhere_graph m p) (nowhere_graph n o) same in
        missing_once m n x y p o parts.0 parts.2
    answered_once (Nowhere m) (SpentConflicts t) x y p o apart alone same =
        let parts = kinds (Nowhere m) (SpentConflicts t) x y (nowhere_graph m p) (conflicts_graph t o) same in
        absurd (let h : ◌≡◌ {A = ℕ} 110 115 = begin_same 0 _ _ _ _ parts.1 in omega (arith, h))
    answered_once (Nowhere m) (SpentSize l) x y p o apart alone same =
        let parts = kinds (Nowhere m) (SpentSize l) x y (nowhere_graph m p) (size_graph l o) same in
        absurd (let h : ◌≡◌ {A = ℕ} 110 115 = begin_same 0 _ _ _ _ parts.1 in omega (arith, h))
    answered_once (Nowhere m) (NoWorld class a b) x y p o apart alone same =
        absurd (graph_noworld (Nowhere m) class a b x y (nowhere_graph m p) same)
    answered_once (SpentConflicts t) (Scheduled f) x y p o apart alone same =
        let parts = kinds (SpentConflicts t) (Scheduled f) x y (conflicts_graph t p) (scheduled_graph f o) same in
        absurd (let h : ◌≡◌ {A = ℕ} 112 99 = begin_same 1 _ _ _ _ parts.1 in omega (arith, h))
    answered_once (SpentConflicts t) (Nowhere m) x y p o apart alone same =
        let parts = kinds (SpentConflicts t) (Nowhere m) x y (conflicts_graph t p) (nowhere_graph m o) same in
        absurd (let h : ◌≡◌ {A = ℕ} 115 110 = begin_same 0 _ _ _ _ parts.1 in omega (arith, h))
    answered_once (SpentConflicts t) (SpentConflicts u) x y p o apart alone same =
        let parts = kinds (SpentConflicts t) (SpentConflicts u) x y (conflicts_graph t p) (conflicts_graph u o)
        same in
        conflicts_once t u x y p o parts.0 parts.1 parts.2
    answered_once (SpentConflicts t) (SpentSize l) x y p o apart alone same =
        let parts = kinds (SpentConflicts t) (SpentSize l) x y (conflicts_graph t p) (size_graph l o) same in
        absurd (conflicts_size t.k l parts.1)
    answered_once (SpentConflicts t) (NoWorld class a b) x y p o apart alone same =
        absurd (graph_noworld (SpentConflicts t) class a b x y (conflicts_graph t p) same)
    answered_once (SpentSize l) (Scheduled f) x y p o apart alone same =
        let parts = kinds (SpentSize l) (Scheduled f) x y (size_graph l p) (scheduled_graph f o) same in
        absurd (let h : ◌≡◌ {A = ℕ} 112 99 = begin_same 1 _ _ _ _ parts.1 in omega (arith, h))
    answered_once (SpentSize l) (Nowhere m) x y p o apart alone same =
        let parts = kinds (SpentSize l) (Nowhere m) x y (size_graph l p) (nowhere_graph m o) same in
        absurd (let h : ◌≡◌ {A = ℕ} 115 110 = begin_same 0 _ _ _ _ parts.1 in omega (arith, h))
    answered_once (SpentSize l) (SpentConflicts t) x y p o apart alone same =
        let parts = kinds (SpentSize l) (SpentConflicts t) x y (size_graph l p) (conflicts_graph t o) same in
        absurd (conflicts_size t.k l (sym parts.1))
    answered_once (SpentSize l) (SpentSize m) x y p o apart alone same =
        let parts = kinds (SpentSize l) (SpentSize m) x y (size_graph l p) (size_graph m o) same in
        size_once l m x y p o parts.0 parts.1 parts.2
    answered_once (SpentSize l) (NoWorld class a b) x y p o apart alone same =
        absurd (graph_noworld (SpentSize l) class a b x y (size_graph l p) same)
    answered_once (NoWorld class a b) (Scheduled f) x y p o apart alone same =
        absurd (graph_noworld (Scheduled f) class a b y x (scheduled_graph f o) (sym same))
    answered_once (NoWorld class a b) (Nowhere m) x y p o apart alone same =
        absurd (graph_noworld (Nowhere m) class a b y x (nowhere_graph m o) (sym same))
    answered_once (NoWorld class a b) (SpentConflicts t) x y p o apart alone same =
        absurd (graph_noworld (SpentConflicts t) class a b y x (conflicts_graph t o) (sym same))
    answered_once (NoWorld class a b) (SpentSize l) x y p o apart alone same =
        absurd (graph_noworld (SpentSize l) class a b y x (size_graph l o) (sym same))
    answered_once (NoWorld class a b) (NoWorld other c d) x y p o apart alone same =
        noworld_once class a b other c d x y p o same

  -- ---- all goals

  module _ (input : InputTree) (s : Settings) (is : IsInput input) (set : IsSettings s) where
    end_no_launch : (lines : List Words) → BeginsNoLaunch (end_words ∷ lines)
    end_no_launch lines =
        λ e. (let h : ◌≡◌ {A = ℕ} 101 108 = byte_same 0 (codes "end") (codes "launch") e in omega (arith, h))

    pub goals_once : (goals : List GoalTree) (results others : List Answered) → All (IsGoal input.ops) goals
        → AllZip (λ goal answered. Right input goal s answered) goals results
        → AllZip (λ goal answered. Right input goal s answered) goals others
        → goals_lines input.table goals results ≡ goals_lines input.table goals others → results ≡ others
    goals_once [] [] [] each right also same = refl
    goals_once [] [] (q ∷ qs) each right also same = absurd also
    goals_once [] (r ∷ rs) others each right also same = absurd right
    goals_once (goal ∷ goals) [] others each right also same = absurd right
    goals_once (goal ∷ goals) (r ∷ rs) [] each right also same = absurd also
    goals_once (goal ∷ goals) (r ∷ rs) (q ∷ qs) each right also same =
        let x : List Words = goals_lines input.table goals rs in
        let y : List Words = goals_lines input.table goals qs in
        let one : List Words = answered_lines input.table r in
        let two : List Words = answered_lines input.table q in
        let lines = cons_same (goal_words goal.name) (goal_words goal.name) ((one ++ (end_words ∷ [])) ++ x)
        ((two ++ (end_words ∷ [])) ++ y) same in
        let both = answered_once input s is set goal
        (few_targets input goal (All-head (IsGoal input.ops) goal goals each)) r q (end_words ∷ x) (end_words ∷ y) right.0 also.0
        (end_no_launch x) (end_no_launch y)
        (sym (append_assoc one (end_words ∷ []) x) ∙ lines.1 ∙ append_assoc two (end_words ∷ []) y) in
        ap (λ z. z ∷ rs) both.0
        ∙ ap (λ zs. q ∷ zs)
        (goals_once goals rs qs (All-tail (IsGoal input.ops) goal goals each) right.1 also.1
        (cons_same end_words end_words x y both.1).1)
