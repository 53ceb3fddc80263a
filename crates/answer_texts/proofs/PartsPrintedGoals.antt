-- The lines of claims, of goals and of answers are those of what they say.
use Rattle.std.proofs.Common.{◌≡◌, ℕ, ◌+◌, ◌-◌, ◌≤◌, List, [], ◌∷◌, ◌++◌, length, map, refl, sym, ap, subst, ◌∙◌, arith, append_assoc, append-nil, codes, Option, Some}
use Rattle.std.specs.List.{flat_map}
use Rattle.std.proofs.lemmas.Grind.{flat_map-append}
use Rattle.cnf_core.specs.declared.line.Lines.{Lines}
use Rattle.launch_graph.specs.GraphLines.{graph_lines, said}
use Rattle.graph_meaning.specs.declared.graphs.LaunchGraph.{LaunchGraph}
use Rattle.machine_table.specs.declared.tables.Table.{Table}
use Rattle.text_core.specs.Lines.{Line, HasLines}
use Rattle.text_core.specs.LineTexts.{Words, words_of_lines, lines_text}
use Rattle.answer_texts.specs.AnswerLines.{version_words, encoding_words, library_lines, table_lines, launch_words, word_words, where_words, refute_lines, lemmas_lines, rounds_words, scheduled_words, none_words, conflicts_words, size_words, noworld_words, goal_words, end_words, graph_part, claim_part, refuted_cycles, refute_part, lemmas_part, goal_lines, answer_lines, answer_bytes}
use Rattle.answer_texts.specs.AnswerParts.{IsClaimLine, IsBodyLine, GraphPart, SchedulePart, ClaimRest, ClaimPart, BodyRest, BodyPart, GoalPart, AreGoals, no_goals, more, AnswerPart, claimed_of}
use Rattle.answer_texts.specs.LineParts.{IsOneLine}
use Rattle.answer_texts.specs.ReadAnswers.{ReadsAnswer}
use Rattle.answer_texts.specs.declared.answers.AnswerText.{AnswerText}
use Rattle.answer_texts.specs.declared.answers.Claim.{Claim}
use Rattle.answer_texts.specs.declared.answers.Claimed.{Claimed}
use Rattle.answer_texts.specs.declared.parts.Body.{Body}
use Rattle.answer_texts.specs.declared.parts.BodyLine.{BodyLine}
use Rattle.answer_texts.specs.declared.parts.BodyLine.TheVariants as bodies
use Rattle.answer_texts.specs.declared.parts.ClaimLine.{ClaimLine}
use Rattle.answer_texts.specs.declared.parts.ClaimLine.TheVariants as lines_of
use Rattle.answer_texts.proofs.PartsBetween.{between_all}
use Rattle.answer_texts.proofs.LibraryLines.{has_library}
use Rattle.answer_texts.proofs.PartsPrinted.{HasWords, has_none, has_both, has_same, has_end, has_line, has_lines, has_counted, has_below, has_table}

module _ (lines : List Line) (version : ℕ) (table : Table) where
  -- ---- claims

  -- the lines of a claim on a graph, and of what is to show it
  abbrev pub shown_lines : Option LaunchGraph → Claim × Option Lines → List Words
  shown_lines graph c = claim_part table graph c.0 ++ (refute_part (refuted_cycles c.0) c.1 ++ lemmas_part c.0)

  module _ (g : LaunchGraph) where
    scheduled_shown : (k from middle next : ℕ) (c : Claim × Option Lines)
        → IsOneLine IsClaimLine lines from middle (lines_of.Scheduled k) → SchedulePart lines table g k middle next c
        → HasWords lines from next (shown_lines (Some g) c)
    scheduled_shown k from middle next c a b =
        let launches = b.said in
        let words = b.second.said in
        let places = b.second.second.said in
        let refute = b.second.second.second.said in
        let p : List Words = map (launch_words table g) launches in
        let q : List Words = map word_words words in
        let r : List Words = map where_words places in
        let t : List Words = refute_part (k - 1) refute in
        let first = has_line lines IsClaimLine from middle (lines_of.Scheduled k) (scheduled_words k) (λ is. is.is) a in
        let one = has_lines lines _ (launch_words table g) _ middle b.middle launches b.first in
        let two = has_lines lines _ word_words _ b.middle b.second.middle words b.second.first in
        let three = has_lines lines _ where_words _ b.second.middle b.second.second.middle places b.second.second.first in
        let four = has_below lines k b.second.second.middle b.second.second.second.middle refute three.within
        b.second.second.second.first in
        let end = b.second.second.second.second.stays in
        let all : HasWords lines from next ((scheduled_words k ∷ (p ++ (q ++ r))) ++ (t ++ [])) =
        has_end lines from b.second.second.second.middle next ((scheduled_words k ∷ (p ++ (q ++ r))) ++ (t ++ [])) end
        (has_same lines from b.second.second.second.middle ((scheduled_words k ∷ (p ++ (q ++ r))) ++ t)
        ((scheduled_words k ∷ (p ++ (q ++ r))) ++ (t ++ []))
        (ap (λ l. (scheduled_words k ∷ (p ++ (q ++ r))) ++ l) (sym (append-nil t)))
        (has_both lines from b.second.second.middle b.second.second.second.middle (scheduled_words k ∷ (p ++ (q ++ r))) t
        (has_both lines from middle b.second.second.middle (scheduled_words k ∷ []) (p ++ (q ++ r)) first
        (has_both lines middle b.middle b.second.second.middle p (q ++ r) one
        (has_both lines b.middle b.second.middle b.second.second.middle q r two three)))
        four)) in
        subst (λ (x : Claim × Option Lines). HasWords lines from next (shown_lines (Some g) x))
        (sym b.second.second.second.second.is) all

    claim_shown : (first : ClaimLine) (from middle next : ℕ) (c : Claim × Option Lines)
        → IsOneLine IsClaimLine lines from middle first → ClaimRest lines table g first middle next c
        → HasWords lines from next (shown_lines (Some g) c)
    claim_shown (lines_of.Scheduled k) from middle next c a b = scheduled_shown k from middle next c a b
    claim_shown (lines_of.Missing k) from middle next c a b =
        let less : k + 1 - 1 ≡ k = omega arith in
        let first = has_line lines IsClaimLine from middle (lines_of.Missing k) (none_words k) (λ is. is.is) a in
        let behind = has_counted lines (codes "refute") k middle b.middle b.said b.first in
        let all : HasWords lines from next (none_words k ∷ (refute_lines k b.said.lines ++ [])) =
        has_end lines from b.middle next (none_words k ∷ (refute_lines k b.said.lines ++ [])) b.second.stays
        (has_same lines from b.middle (none_words k ∷ refute_lines k b.said.lines)
        (none_words k ∷ (refute_lines k b.said.lines ++ [])) (ap (λ l. none_words k ∷ l) (sym (append-nil (refute_lines k b.said.lines))))
        (has_both lines from middle b.middle (none_words k ∷ []) (refute_lines k b.said.lines) first behind)) in
        subst (λ (x : Claim × Option Lines). HasWords lines from next (shown_lines (Some g) x)) (sym b.second.is)
        (subst (λ n. HasWords lines from next (none_words k ∷ (refute_lines n b.said.lines ++ []))) (sym less) all)
    claim_shown (lines_of.Conflicts k) from middle next c a b =
        let first = has_line lines IsClaimLine from middle (lines_of.Conflicts k) (conflicts_words k) (λ is. is.is) a in
        let below = has_below lines k middle b.middle b.said first.within b.first in
        let behind = has_counted lines (codes "lemmas") k b.middle b.second.middle b.second.said b.second.first in
        let t : List Words = refute_part (k - 1) b.said in
        let all : HasWords lines from next (conflicts_words k ∷ (t ++ lemmas_lines k b.second.said.lines)) =
        has_end lines from b.second.middle next (conflicts_words k ∷ (t ++ lemmas_lines k b.second.said.lines)) b.second.second.stays
        (has_both lines from middle b.second.middle (conflicts_words k ∷ []) (t ++ lemmas_lines k b.second.said.lines) first
        (has_both lines middle b.middle b.second.middle t (lemmas_lines k b.second.said.lines) below behind)) in
        subst (λ (x : Claim × Option Lines). HasWords lines from next (shown_lines (Some g) x)) (sym b.second.second.is) all
    claim_shown (lines_of.Size k vars clauses) from middle next c a b =
        let first = has_line lines IsClaimLine from middle (lines_of.Size k vars clauses) (size_words k vars clauses)
        (λ is. is.0.is) a in
        let below = has_below lines k middle b.middle b.said first.within b.first in
        let t : List Words = refute_part (k - 1) b.said in
        let all : HasWords lines from next (size_words k vars clauses ∷ (t ++ [])) =
        has_end lines from b.middle next (size_words k vars clauses ∷ (t ++ [])) b.second.stays
        (has_same lines from b.middle (size_words k vars clauses ∷ t) (size_words k vars clauses ∷ (t ++ []))
        (ap (λ l. size_words k vars clauses ∷ l) (sym (append-nil t)))
        (has_both lines from middle b.middle (size_words k vars clauses ∷ []) t first below)) in
        subst (λ (x : Claim × Option Lines). HasWords lines from next (shown_lines (Some g) x)) (sym b.second.is) all

    pub has_claim : (from next : ℕ) (c : Claim × Option Lines) → ClaimPart lines table g from next c
        → HasWords lines from next (shown_lines (Some g) c)
    has_claim from next c a = claim_shown a.said from a.middle next c a.first a.second

  -- ---- goals

  abbrev pub body_lines : Body → List Words
  body_lines body =
      graph_part body.rounds body.stop body.graph ++ shown_lines body.graph (body.claim, body.refute)

  pub has_graph : (from next : ℕ) (g : LaunchGraph) → GraphPart lines version from next g
      → HasWords lines from next (graph_lines (said g))
  has_graph from next g a = record { order = a.order; within = a.within; words_are = a.is }

  body_words : (first : BodyLine) (from middle next : ℕ) (body : Body) → IsOneLine IsBodyLine lines from middle first
      → BodyRest lines version table first middle next body → HasWords lines from next (body_lines body)
  body_words (bodies.NoWorld class m n) from middle next body a b =
      subst (λ (x : Body). HasWords lines from next (body_lines x)) (sym b.is)
      (has_end lines from middle next (noworld_words class m n ∷ []) b.stays
      (has_line lines IsBodyLine from middle (bodies.NoWorld class m n) (noworld_words class m n) (λ is. is.3) a))
  body_words (bodies.Rounds rounds stop) from middle next body a b =
      subst (λ (x : Body). HasWords lines from next (body_lines x)) (sym b.second.second.is)
      (has_end lines from b.second.middle next
      ((rounds_words rounds stop ∷ graph_lines (said b.said)) ++ shown_lines (Some b.said) b.second.said)
      b.second.second.stays
      (has_both lines from b.middle b.second.middle (rounds_words rounds stop ∷ graph_lines (said b.said))
      (shown_lines (Some b.said) b.second.said)
      (has_both lines from middle b.middle (rounds_words rounds stop ∷ []) (graph_lines (said b.said))
      (has_line lines IsBodyLine from middle (bodies.Rounds rounds stop) (rounds_words rounds stop) (λ is. is.1) a)
      (has_graph middle b.middle b.said b.first))
      (has_claim b.said b.middle b.second.middle b.second.said b.second.first)))

  pub has_body : (from next : ℕ) (body : Body) → BodyPart lines version table from next body
      → HasWords lines from next (body_lines body)
  has_body from next body a = body_words a.said from a.middle next body a.first a.second

  join_last : (g c r l e : List Words) → (g ++ (c ++ (r ++ l))) ++ e ≡ g ++ (c ++ (r ++ (l ++ e)))
  join_last g c r l e =
      append_assoc g (c ++ (r ++ l)) e
      ∙ ap (λ x. g ++ x) (append_assoc c (r ++ l) e ∙ ap (λ x. c ++ x) (append_assoc r l e))

  pub has_goal : (from next : ℕ) (c : Claimed) → GoalPart lines version table from next c
      → HasWords lines from next (goal_lines table c)
  has_goal from next c a =
      let name = a.said in
      let body = a.second.said in
      let first = has_line lines _ from a.middle name (goal_words name) (λ is. is.is) a.first in
      let middle = has_body a.middle a.second.middle body a.second.first in
      let last = has_line lines _ a.second.middle a.second.second.middle a.second.second.said end_words (λ is. is)
      a.second.second.first in
      subst (λ (x : Claimed). HasWords lines from next (goal_lines table x)) (sym a.second.second.second.is)
      (has_end lines from a.second.second.middle next (goal_lines table (claimed_of name body))
      a.second.second.second.stays
      (has_same lines from a.second.second.middle (goal_words name ∷ (body_lines body ++ end_words ∷ []))
      (goal_lines table (claimed_of name body))
      (ap (λ l. goal_words name ∷ l)
      (join_last (graph_part body.rounds body.stop body.graph) (claim_part table body.graph body.claim)
      (refute_part (refuted_cycles body.claim) body.refute) (lemmas_part body.claim) (end_words ∷ [])))
      (has_both lines from a.middle a.second.second.middle (goal_words name ∷ []) (body_lines body ++ end_words ∷ []) first
      (has_both lines a.middle a.second.middle a.second.second.middle (body_lines body) (end_words ∷ []) middle last))))

  pub has_goals : (from : ℕ) {next : ℕ} {goals : List Claimed} → from ≤ length lines → AreGoals lines version table from next goals
      → HasWords lines from next (flat_map (goal_lines table) goals)
  has_goals from within no_goals = has_none lines from from within refl
  has_goals from within (more {middle = m} {next = n} {goals = gs} {goal = g} are few is) =
      has_same lines from n (flat_map (goal_lines table) gs ++ goal_lines table g) (flat_map (goal_lines table) (gs ++ g ∷ []))
      (sym (flat_map-append (goal_lines table) gs (g ∷ [])
      ∙ ap (λ l. flat_map (goal_lines table) gs ++ l) (append-nil (goal_lines table g))))
      (has_both lines from m n (flat_map (goal_lines table) gs) (goal_lines table g) (has_goals from within are)
      (has_goal m n g is))

-- ---- answers

pub has_answer : (lines : List Line) (next : ℕ) (answer : AnswerText) → AnswerPart lines 0 next answer
    → HasWords lines 0 next (answer_lines answer)
has_answer lines next answer a =
    let version = a.said in
    let encoding = a.second.said in
    let table = a.second.second.said in
    let library = a.second.second.second.said in
    let goals = a.second.second.second.second.said in
    let behind_table = a.second.second.middle in
    let behind_library = a.second.second.second.middle in
    let behind_goals = a.second.second.second.second.middle in
    let head = has_line lines _ 0 a.middle version (version_words version) (λ is. is.is) a.first in
    let kind = has_line lines _ a.middle a.second.middle encoding (encoding_words encoding) (λ is. is.is) a.second.first in
    let tables = has_table lines a.second.middle behind_table table a.second.second.first in
    let families = has_library lines behind_table behind_library library tables.within a.second.second.second.first in
    let claims = has_goals lines version table.0 behind_library families.within a.second.second.second.second.first.are in
    let machine : List Words = table_lines table.0 table.1 ++ library_lines library in
    let first : List Words = version_words version ∷ encoding_words encoding ∷ machine in
    subst (λ (x : AnswerText). HasWords lines 0 next (answer_lines x)) (sym a.second.second.second.second.second.is)
    (has_end lines 0 behind_goals next (first ++ flat_map (goal_lines table.0) goals) a.second.second.second.second.second.stays
    (has_both lines 0 behind_library behind_goals first (flat_map (goal_lines table.0) goals)
    (has_both lines 0 a.middle behind_library (version_words version ∷ []) (encoding_words encoding ∷ machine) head
    (has_both lines a.middle a.second.middle behind_library (encoding_words encoding ∷ []) machine kind
    (has_both lines a.second.middle behind_table behind_library (table_lines table.0 table.1) (library_lines library) tables
    families)))
    claims))

pub prints_text : ((lines : List Line) (text : List ℕ) → HasLines text lines → text ≡ lines_text (words_of_lines lines))
    → (text : List ℕ) (answer : AnswerText) → ReadsAnswer text answer → answer_bytes answer ≡ text
prints_text printed text answer a =
    let words = has_answer a.lines (length a.lines) answer a.says in
    ap lines_text (sym words.words_are ∙ between_all a.lines) ∙ sym (printed a.lines text a.split)
